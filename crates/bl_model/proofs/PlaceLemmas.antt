-- Lists that are made place by place.
use Rattle.std.proofs.Common.{◌≡◌, ℕ, ◌+◌, Bool, cond, List, [], ◌∷◌, ◌++◌, ◌∙◌, ◌<◌, length, map, get_or, sym, refl}
use Rattle.std.proofs.Common.{arith, add-one}
use Rattle.std.specs.List.{range_with_len}
use Rattle.std.proofs.lemmas.List.{ext_get_or}
use Rattle.std.proofs.lemmas.List.FromFn.{length-map-range_with_len, get_or-map-range_with_len}
use Rattle.bl_terms.specs.Programs.{places_where}

-- a list of the places below n that pass, after the test of n
pub places_where_step : (test : ℕ → Bool) (n : ℕ) (b : Bool) (old new : List ℕ) → old ≡ places_where test n
    → test n ≡ b → new ≡ cond b (old ++ n ∷ []) old
    → new ≡ places_where test (n + 1)
places_where_step test n b old new before passes is = is ∙ rw (add-one n, before, passes) refl

-- a list is that of a function's values if it has them at its places
pub is_map_of_places : {X : Type 0} (d : X) (xs : List X) (f : ℕ → X) (n : ℕ) → length xs ≡ n
    → ((k : ℕ) → k < n → get_or xs k d ≡ f k) → xs ≡ map f (range_with_len 0 n)
is_map_of_places d xs f n count values =
    ext_get_or d xs (map f (range_with_len 0 n)) (count ∙ sym (length-map-range_with_len f 0 n))
    (λ k below. let at : k < n = omega arith in
    values k at ∙ sym (get_or-map-range_with_len f 0 n k k d at (omega arith)))
