-- What a text says is a follower of the model.
use Rattle.std.proofs.Common.{◌≡◌, ◌≢◌, ℕ, zero, suc, ◌<◌, Bool, true, false, cond, List, [], ◌∷◌, ◌++◌, length, map}
use Rattle.std.proofs.Common.{get_or, Option, Some, None, refl, sym, ap, subst, ◌∙◌, arith, inl, inr, ℤ, pos, negsuc}
use Rattle.std.proofs.Common.{◌||◌, unsigned_abs}
use Rattle.std.specs.List.{All, AllPairs, list_any}
use Rattle.std.specs.Ordering.{int_eq}
use Rattle.std.proofs.lemmas.Bool.{ltb-false, ltb-true, false≢true}
use Rattle.std.proofs.lemmas.Bool.Decides.{Decides-int_eq}
use Rattle.std.proofs.Math.ListN.{get_or-map}
use Rattle.std.proofs.lemmas.List.{length-map}
use Rattle.std.proofs.lemmas.List.Elements.{All-push}
use Rattle.std.proofs.lemmas.List.Quantifiers.{all_pairs_push}
use Rattle.bl_limits.specs.declared.TheConstants.{MAX_NUMBER}
use Rattle.bl_raw.specs.declared.raw.RawAux.{RawAux}
use Rattle.bl_raw.specs.Raw.{IsSmall, IsSense, AreDistinct, FitsModel}
use Rattle.bl_aux.specs.declared.keys.Key.{Key}
use Rattle.bl_aux.specs.declared.keys.Key.TheVariants.{N, M, Lc, Lr, Lo, Os}
use Rattle.bl_aux.specs.declared.fault.AuxRule.{AuxRule}
use Rattle.bl_aux.specs.declared.fault.AuxRule.TheVariants.{OutOfOrder, Repeated, BadSense}
use Rattle.bl_aux.specs.Lines.{is_large}
use Rattle.bl_aux.specs.Given.{Given, Sizes, is_out_of_order, is_below, bad_index, index_rule, sense_rule, key_rule}
use Rattle.bl_aux.specs.Given.{entry_rule}
use Rattle.bl_aux.specs.Texts.{CountsAgree, IsGiven, sense_of}
use Rattle.bl_aux.specs.Drafts.{with_number}

-- distinct indices below a limit
pub record ArePlaces (limit : ℕ) (numbers : List ℤ) : Type 0 where
  pub each_below : All (λ z. is_below limit z ≡ true) numbers
  pub distinct : AllPairs (λ x y. x ≢ y) numbers

pub record IsGood (sizes : Sizes) (given : Given) : Type 0 where
  pub columns_are : ArePlaces sizes.columns given.columns
  pub rows_are : ArePlaces sizes.rows given.rows
  pub costs_small : All IsSmall given.costs
  pub senses_are : All IsSense given.senses

or_false : (a b : Bool) → (a || b) ≡ false → (a ≡ false) × (b ≡ false)
or_false true b h = absurd cc
or_false false b h = (refl, h)

none-of : (p : ℤ → Bool) (xs : List ℤ) → list_any p xs ≡ false → (k : ℕ) (d : ℤ) → k < length xs
    → p (get_or xs k d) ≡ false
none-of p [] h k d lt = absurd (omega arith)
none-of p (x ∷ xs) h zero d lt = (or_false (p x) (list_any p xs) h).0
none-of p (x ∷ xs) h (suc k) d lt = none-of p xs (or_false (p x) (list_any p xs) h).1 k d (omega arith)

differ : (x y : ℤ) → int_eq x y ≡ false → x ≢ y
differ x y h same = false≢true (sym h ∙ (Decides-int_eq x y).1 same)

index-kept : (size : ℕ) (before : List ℤ) (number : ℤ) (given below : Bool)
    → list_any (λ other. int_eq other number) before ≡ given → is_below size number ≡ below
    → index_rule size before number ≡ None → (given ≡ false) × (below ≡ true)
index-kept size before number true below g b e = let broken : index_rule size before number ≡ Some Repeated =
    rw g refl in absurd cc
index-kept size before number false true g b e = (refl, refl)
index-kept size before number false false g b e = let broken : index_rule size before number ≡ bad_index false =
    rw (g, b) refl in absurd cc

places-push : (limit : ℕ) (before : List ℤ) (number : ℤ) → ArePlaces limit before
    → index_rule limit before number ≡ None → ArePlaces limit (before ++ number ∷ [])
places-push limit before number are e =
    let kept = index-kept limit before number (list_any (λ other. int_eq other number) before)
    (is_below limit number) refl refl e in
    record {
      each_below = All-push (λ z. is_below limit z ≡ true) before number are.each_below kept.1;
      distinct = all_pairs_push (λ x y. x ≢ y) before number are.distinct
          (λ k d lt. differ _ number (none-of (λ other. int_eq other number) before kept.0 k d lt));
    }

sense-is : (number : ℤ) (one other : Bool) → int_eq number (pos 1) ≡ one → int_eq number (negsuc 0) ≡ other
    → (one || other) ≡ true → IsSense number
sense-is number true other o t h = inl ((Decides-int_eq number (pos 1)).0 o)
sense-is number false true o t h = inr ((Decides-int_eq number (negsuc 0)).0 t)
sense-is number false false o t h = absurd (false≢true h)

sense-kept : (before : List ℤ) (number : ℤ) (test : Bool) → (int_eq number (pos 1) || int_eq number (negsuc 0)) ≡ test
    → sense_rule before number ≡ None → test ≡ true
sense-kept [] number true t e = refl
sense-kept [] number false t e = let broken : sense_rule [] number ≡ Some BadSense = rw t refl in absurd cc
sense-kept (z ∷ zs) number test t e = absurd cc

cond-right : (b : Bool) (rule : AuxRule) (other : Option AuxRule) → cond b (Some rule) other ≡ None → other ≡ None
cond-right true rule other e = absurd cc
cond-right false rule other e = e

good-key : (sizes : Sizes) (given : Given) (key : Key) (number : ℤ) → IsGood sizes given
    → key_rule sizes given key number ≡ None → is_large key number ≡ false → IsGood sizes (with_number given key number)
good-key sizes given N number good e small =
    record {
      columns_are = good.columns_are;
      rows_are = good.rows_are;
      costs_small = good.costs_small;
      senses_are =
          good.senses_are;
    }
good-key sizes given M number good e small =
    record {
      columns_are = good.columns_are;
      rows_are = good.rows_are;
      costs_small = good.costs_small;
      senses_are =
          good.senses_are;
    }
good-key sizes given Lc number good e small =
    record {
      columns_are = places-push sizes.columns given.columns number good.columns_are e;
      rows_are = good.rows_are;
      costs_small = good.costs_small;
      senses_are = good.senses_are;
    }
good-key sizes given Lr number good e small =
    record {
      columns_are = good.columns_are;
      rows_are = places-push sizes.rows given.rows number good.rows_are e;
      costs_small = good.costs_small;
      senses_are = good.senses_are;
    }
good-key sizes given Lo number good e small =
    record {
      columns_are = good.columns_are;
      rows_are = good.rows_are;
      costs_small =
          All-push IsSmall given.costs number good.costs_small (ltb-false MAX_NUMBER (unsigned_abs number) small);
      senses_are = good.senses_are;
    }
good-key sizes given Os number good e small =
    let test = sense-kept given.senses number (int_eq number (pos 1) || int_eq number (negsuc 0)) refl e in
    record {
      columns_are = good.columns_are;
      rows_are = good.rows_are;
      costs_small = good.costs_small;
      senses_are =
          All-push IsSense given.senses number good.senses_are
          (sense-is number (int_eq number (pos 1)) (int_eq number (negsuc 0)) refl refl test);
    }

-- one more entry that breaks no rule
pub good-entry : (sizes : Sizes) (given : Given) (key : Key) (number : ℤ) → IsGood sizes given
    → entry_rule sizes given (record { key = key; number = number }) ≡ None → is_large key number ≡ false
    → IsGood sizes (with_number given key number)
unfolding entry_rule
good-entry sizes given key number good e small =
    good-key sizes given key number good
    (cond-right (is_out_of_order given key) OutOfOrder (key_rule sizes given key number) e) small

below-pos : (limit : ℕ) (xs : List ℕ) → All (λ z. is_below limit z ≡ true) (map pos xs) → All (λ x. x < limit) xs
below-pos limit xs h k d lt =
    let below : is_below limit (get_or (map pos xs) k (pos d)) ≡ true = h k (pos d) (rw (length-map xs pos) lt) in
    ltb-true _ _ (subst (λ (z : ℤ). is_below limit z ≡ true) (get_or-map pos xs k d) below)

distinct-pos : (xs : List ℕ) → AllPairs (λ x y. x ≢ y) (map pos xs) → AreDistinct xs
distinct-pos xs h i j d ij lt same =
    h i j (pos d) ij (rw (length-map xs pos) lt) (get_or-map pos xs i d ∙ ap pos same ∙ sym (get_or-map pos xs j d))

sense-of : (senses : List ℤ) → All IsSense senses → IsSense (sense_of senses)
sense-of [] h = inl refl
sense-of (z ∷ zs) h = h 0 z (omega arith)

-- what is given well is a follower of the model
pub fits : (sizes : Sizes) (given : Given) (aux : RawAux) → IsGood sizes given → CountsAgree given → IsGiven given aux
    → FitsModel sizes.columns sizes.rows aux
fits sizes given aux good counts is = record {
  columns = below-pos sizes.columns aux.columns (rw (is.columns) good.columns_are.each_below);
  distinct_columns = distinct-pos aux.columns (rw (is.columns) good.columns_are.distinct);
  rows = below-pos sizes.rows aux.rows (rw (is.rows) good.rows_are.each_below);
  distinct_rows = distinct-pos aux.rows (rw (is.rows) good.rows_are.distinct);
  cost_count = omega (arith, ap length is.costs, counts.costs, ap length is.columns, length-map aux.columns pos);
  costs = rw (is.costs) good.costs_small;
  sense = rw (is.sense) (sense-of given.senses good.senses_are);
}
