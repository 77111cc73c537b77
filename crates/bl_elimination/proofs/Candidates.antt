-- What is kept, candidate by candidate.
use Rattle.std.proofs.Common.{◌≡◌, ◌≢◌, ℕ, suc, ◌+◌, ◌<◌, List, [], ◌∷◌, length, drop, take, ℤ, refl, sym, ap}
use Rattle.std.proofs.Common.{◌∙◌, arith, rules, true, false, nat_eq, add-one}
use Rattle.std.specs.Prelude.{Option, Some, None, option_and_then, Result, Ok, Err}
use Rattle.std.specs.Option.{ok_or}
use Rattle.std.proofs.lemmas.Bool.Decides.{nat_tests}
use Rattle.std.proofs.lemmas.List.{drop_more}
use Rattle.bl_terms.specs.Points.{Linear}
use Rattle.bl_terms.specs.Bounds.{linear_at, no_linear}
use Rattle.bl_simplex.specs.Fractions.{Fraction}
use Rattle.bl_elimination.specs.declared.basis.NoBasis.{NoBasis}
use Rattle.bl_elimination.specs.declared.basis.NoBasis.TheVariants.{NotUnique, TooLarge, Memory}
use Rattle.bl_elimination.specs.Elimination.{Kept, candidate, reduced, first_nonzero, kept_with, kept_after, then_on}
use Rattle.bl_elimination.specs.Elimination.{eliminated, IsGiven}
use Rattle.bl_elimination.specs.Keeping.{IsOutcome, IsTaken}

err_same : {T : Type 0} (t e : NoBasis) → ◌≡◌ {A = Result T NoBasis} (Err t) (Err e) → t ≡ e
err_same t e h = search rules

err_moved : {T U : Type 0} (t e : NoBasis) → ◌≡◌ {A = Result T NoBasis} (Err t) (Err e)
    → ◌≡◌ {A = Result U NoBasis} (Err t) (Err e)
err_moved t e h = ap Err (err_same t e h)

outcome_on : {T U : Type 0} (f : T → Option U) (o : Option T) (t e : NoBasis) → ok_or o t ≡ Err e
    → ok_or (option_and_then f o) t ≡ Err e
outcome_on f None t e h = err_moved t e h
outcome_on f (Some x) t e h = absurd (search rules)

-- the reduced candidate
abbrev pub reduction : Kept → List ℤ → Option (List Fraction)
reduction kept coef = reduced kept.columns kept.rows (candidate (length kept.rows) coef)

pub taken_at_err : (kept old : Kept) (number : ℕ) (coef : List ℤ) (e : NoBasis)
    → IsOutcome (reduction kept coef) number (Err e) → IsTaken (kept_after kept number coef) number (Err e) old
unfolding kept_after
taken_at_err kept old number coef Memory h = tt
taken_at_err kept old number coef (NotUnique p) h = outcome_on _ _ _ _ h
taken_at_err kept old number coef (TooLarge p) h = outcome_on _ _ _ _ h

pub after_reduced : (kept : Kept) (number : ℕ) (coef : List ℤ) (row : List Fraction)
    → reduction kept coef ≡ Some row
    → kept_after kept number coef ≡ kept_with kept number row (first_nonzero (take (length coef) row))
unfolding kept_after
after_reduced kept number coef row h =
    ap (option_and_then (λ row. kept_with kept number row (first_nonzero (take (length coef) row)))) h

-- ---- the candidates one after another

test_same : (m n : ℕ) → m ≡ n → nat_eq m n ≡ true
test_same m n h = grind (arith, nat_tests)

test_other : (m n : ℕ) → m ≢ n → nat_eq m n ≡ false
test_other m n h = grind (arith, nat_tests)

pub eliminated_done : (n : ℕ) (kept : Kept) (number : ℕ) (rows : List Linear) → length kept.rows ≡ n
    → eliminated n kept number rows ≡ Ok kept
unfolding eliminated
eliminated_done n kept number [] h = rw (test_same (length kept.rows) n h) refl
eliminated_done n kept number (r ∷ rows) h = rw (test_same (length kept.rows) n h) refl

pub eliminated_short : (n : ℕ) (kept : Kept) (number : ℕ) → length kept.rows ≢ n
    → eliminated n kept number [] ≡ Err (NotUnique (length kept.rows))
unfolding eliminated
eliminated_short n kept number h = rw (test_other (length kept.rows) n h) refl

next_candidate : (n : ℕ) (kept : Kept) (number : ℕ) (r : Linear) (rows : List Linear) → length kept.rows ≢ n
    → eliminated n kept number (r ∷ rows)
    ≡ then_on (λ more. eliminated n more (suc number) rows) (ok_or (kept_after kept number r.coef) (TooLarge number))
unfolding eliminated
next_candidate n kept number r rows h = rw (test_other (length kept.rows) n h) refl

pub eliminated_step : (n : ℕ) (kept : Kept) (rows : List Linear) (i : ℕ) → i < length rows → length kept.rows ≢ n
    → eliminated n kept i (drop i rows)
    ≡ then_on (λ more. eliminated n more (i + 1) (drop (i + 1) rows))
    (ok_or (kept_after kept i (linear_at rows i).coef) (TooLarge i))
eliminated_step n kept rows i l h =
    ap (eliminated n kept i) (drop_more rows i no_linear l)
    ∙ next_candidate n kept i (linear_at rows i) (drop (i + 1) rows) h
    ∙ ap (λ k. then_on (λ more. eliminated n more k (drop (i + 1) rows))
    (ok_or (kept_after kept i (linear_at rows i).coef) (TooLarge i))) (sym (add-one i))

pub eliminated_more : (n : ℕ) (kept more : Kept) (rows : List Linear) (i : ℕ) (coef : List ℤ) → i < length rows
    → length kept.rows ≢ n → coef ≡ (linear_at rows i).coef → kept_after kept i coef ≡ Some more
    → eliminated n kept i (drop i rows) ≡ eliminated n more (i + 1) (drop (i + 1) rows)
eliminated_more n kept more rows i coef l h is taken =
    eliminated_step n kept rows i l h
    ∙ ap (λ o. then_on (λ more. eliminated n more (i + 1) (drop (i + 1) rows)) (ok_or o (TooLarge i)))
    (ap (kept_after kept i) (sym is) ∙ taken)

-- an error ends the elimination
pub eliminated_err : (n : ℕ) (kept old : Kept) (rows : List Linear) (i : ℕ) (coef : List ℤ) (e : NoBasis)
    (all : Result Kept NoBasis) → i < length rows → length kept.rows ≢ n → coef ≡ (linear_at rows i).coef
    → IsTaken (kept_after kept i coef) i (Err e) old → all ≡ eliminated n kept i (drop i rows)
    → IsGiven all (Err e)
eliminated_err n kept old rows i coef e all l h is taken rest = by e taken
  where
    after : (e : NoBasis) → ok_or (kept_after kept i coef) (TooLarge i) ≡ Err e → all ≡ Err e
    after e taken =
        rest ∙ eliminated_step n kept rows i l h
        ∙ ap (then_on (λ more. eliminated n more (i + 1) (drop (i + 1) rows)))
        (ap (λ cs. ok_or (kept_after kept i cs) (TooLarge i)) (sym is) ∙ taken)

    by : (e : NoBasis) → IsTaken (kept_after kept i coef) i (Err e) old → IsGiven all (Err e)
    by Memory taken = tt
    by (NotUnique p) taken = after (NotUnique p) taken
    by (TooLarge p) taken = after (TooLarge p) taken
