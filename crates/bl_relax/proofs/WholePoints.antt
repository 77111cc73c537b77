-- A point at whole distances of the columns from their starts, column by column.
use Rattle.std.proofs.Common.{◌≡◌, ℕ, ◌+◌, ◌<◌, List, [], ◌∷◌, ◌++◌, length, ℤ, pos, ◌+ℤ◌, ◌-ℤ◌, ◌*ℤ◌, negsuc, cond}
use Rattle.std.proofs.Common.{sym, subst, ap, ◌∙◌, arith}
use Rattle.std.proofs.Common.{below_more, length-append}
use Rattle.std.specs.Prelude.{int_lt}
use Rattle.std.proofs.lemmas.List.{get_or_append_left, get_or_push}
use Rattle.bl_whole.specs.Sums.{component}
use Rattle.bl_terms.specs.Bounds.{Problem}
use Rattle.bl_simplex.specs.Fractions.{Fraction}
use Rattle.bl_simplex.specs.Rationals.{fraction_at}
use Rattle.bl_simplex.specs.Dictionaries.{start_at, sign_at}
use Rattle.bl_licence.specs.Steps.{IsBetween}
use Rattle.bl_licence.proofs.Distances.{start_read}

-- the first k columns stand at their distances
pub record PointSoFar (q : Problem) (fs : List Fraction) (xs : List ℤ) (k : ℕ) : Type 0 where
  pub size : length xs ≡ k
  pub each : (j : ℕ) → j < k → component xs j ≡ start_at q j +ℤ sign_at q j *ℤ (fraction_at fs j).num

pub point_more : (q : Problem) (fs : List Fraction) (xs ys : List ℤ) (k : ℕ) (x : ℤ) → PointSoFar q fs xs k
    → ys ≡ xs ++ x ∷ [] → x ≡ start_at q k +ℤ sign_at q k *ℤ (fraction_at fs k).num → PointSoFar q fs ys (k + 1)
point_more q fs xs ys k x so ey ex = record {
  size = ap length ey ∙ length-append xs (x ∷ []) ∙ omega (arith, so.size);
  each = below_more (λ j. component ys j ≡ start_at q j +ℤ sign_at q j *ℤ (fraction_at fs j).num) k
      (λ j l. ap (λ zs. component zs j) ey ∙ get_or_append_left xs (x ∷ []) (pos 0) j (omega (arith, so.size))
      ∙ so.each j l) (ap (λ zs. component zs k) ey ∙ get_or_push xs x (pos 0) k so.size ∙ ex);
}

-- the numbers of a column, as they are read
pub range_read : (lo hi a b : ℤ) (x f : Fraction) → a ≡ lo → b ≡ hi → f ≡ x → IsBetween (hi -ℤ lo) x
    → IsBetween (b -ℤ a) f
range_read lo hi a b x f ea eb ef h =
    subst (IsBetween (b -ℤ a)) (sym ef)
    (subst (λ z. IsBetween (z -ℤ a) x) (sym eb) (subst (λ z. IsBetween (hi -ℤ z) x) (sym ea) h))

pub column_read : (q : Problem) (j : ℕ) (x f : Fraction) (cost lo hi z : ℤ) → cost ≡ component q.cost j
    → lo ≡ component q.area.lo j → hi ≡ component q.area.hi j → f ≡ x
    → z ≡ cond (int_lt cost (pos 0)) hi lo +ℤ cond (int_lt cost (pos 0)) (negsuc 0) (pos 1) *ℤ f.num
    → z ≡ start_at q j +ℤ sign_at q j *ℤ x.num
column_read q j x f cost lo hi z ec el eh ef e =
    e ∙ ap (λ s. s +ℤ cond (int_lt cost (pos 0)) (negsuc 0) (pos 1) *ℤ f.num) (start_read q j cost lo hi ec el eh)
    ∙ ap (λ y. start_at q j +ℤ cond (int_lt y (pos 0)) (negsuc 0) (pos 1) *ℤ f.num) ec
    ∙ ap (λ g. start_at q j +ℤ sign_at q j *ℤ g.num) ef
