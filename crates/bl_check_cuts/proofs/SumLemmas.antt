-- What a cut adds up, and what is kept of it.
use Rattle.std.proofs.Common.{◌≡◌, ℕ, ◌<◌, ◌^◌, refl, sym, ◌∙◌, ap, subst, true, false, List, [], ◌∷◌, ◌++◌}
use Rattle.std.proofs.Common.{length, map, ◌↔◌}
use Rattle.std.specs.Prelude.{All, IsTrue}
use Rattle.std.proofs.lemmas.Bool.{false≢true}
use Rattle.bl_limits.specs.declared.TheConstants.{MAX_PROBLEM_COEFFICIENT, MAX_PROBLEM_RHS}
use Rattle.bl_whole.specs.Within.{IsWithin, AreWithin}
use Rattle.bl_terms.specs.Points.{Area, Linear, IsWithinArea}
use Rattle.bl_terms.specs.Programs.{Program, columns, root}
use Rattle.bl_cut_terms.specs.declared.parts.Tight.{Tight}
use Rattle.bl_cut_terms.specs.NoGoods.{CutStep, IsThere, LocalRow, last_step, local_row, lowered_sum, cut_row}
use Rattle.bl_cut_terms.specs.NoGoods.{tight_rows}
use Rattle.bl_check_terms.specs.Reading.{at_last, before_last, with_tight}
use Rattle.bl_check_terms.specs.Rules.{IsSized}
use Rattle.bl_check_terms.proofs.Lasts.{before_last-push}
use Rattle.bl_check_state.specs.declared.cuts.HeldCuts.{HeldCuts}
use Rattle.bl_check_state.specs.Saying.{AreCuts, AreCutRows, IsBegun, last_row}
use Rattle.bl_check_cuts.specs.Sums.{AddsUp, with_row}
use Rattle.bl_check_cuts.proofs.HeldLemmas.{kept_of, sums_kept}

-- ---- sums

sum_is : (p : Program) (a : Area) (earlier : List LocalRow) (tight : List Tight) (n : ℕ) (rows : List Linear)
    → n ≡ columns p → rows ≡ tight_rows p a earlier tight → lowered_sum n rows ≡ cut_row p a earlier tight
sum_is p a earlier tight n rows e f =
    ap (λ m. lowered_sum m rows) e ∙ ap (λ rs. lowered_sum (columns p) rs) f

-- a number of the sum is beyond its limit
pub too_large : (p : Program) (a : Area) (earlier : List LocalRow) (tight : List Tight) (n : ℕ) (rows : List Linear)
    → n ≡ columns p → rows ≡ tight_rows p a earlier tight
    → ¬ (AreWithin MAX_PROBLEM_COEFFICIENT (lowered_sum n rows).coef
    × IsWithin MAX_PROBLEM_RHS (lowered_sum n rows).rhs)
    → ¬ IsSized p a earlier tight
too_large p a earlier tight n rows e f large s =
    let same = sym (sum_is p a earlier tight n rows e f) in
    large (
      subst (λ (r : Linear). AreWithin MAX_PROBLEM_COEFFICIENT r.coef) same s.coef,
      subst (λ (r : Linear). IsWithin MAX_PROBLEM_RHS r.rhs) same s.rhs,
    )

pub adds_up : (p : Program) (a : Area) (earlier : List LocalRow) (tight : List Tight) (n : ℕ) (rows added : List Linear)
    (row : Linear) → n ≡ columns p → rows ≡ tight_rows p a earlier tight → length rows < 2 ^ 32
    → All (IsThere p a earlier) tight → added ≡ rows → (row ≡ lowered_sum n added)
    × AreWithin MAX_PROBLEM_COEFFICIENT (lowered_sum n added).coef
    × IsWithin MAX_PROBLEM_RHS (lowered_sum n added).rhs
    → AddsUp p a earlier tight rows row
adds_up p a earlier tight n rows added row e f few there g sum =
    let same = sum_is p a earlier tight n added e (g ∙ f) in
    record {
      rows_are = f;
      few = few;
      row_is = sum.0 ∙ same;
      sized = record {
        there = there;
        coef = subst (λ (r : Linear). AreWithin MAX_PROBLEM_COEFFICIENT r.coef) same sum.1;
        rhs = subst (λ (r : Linear). IsWithin MAX_PROBLEM_RHS r.rhs) same sum.2;
      };
    }

-- ---- the last cut and those before it

last_row-push : (rows : List LocalRow) (r : LocalRow) → last_row (rows ++ r ∷ []) ≡ r
last_row-push [] r = refl
last_row-push (x ∷ []) r = refl
last_row-push (x ∷ y ∷ rows) r = last_row-push (y ∷ rows) r

-- what stands of them
pub last_within : (p : Program) (rows earlier : List LocalRow) (last : LocalRow) → IsBegun p rows
    → rows ≡ earlier ++ last ∷ [] → IsWithinArea last.area (root p)
last_within p rows earlier last h e =
    subst (λ (r : LocalRow). IsWithinArea r.area (root p)) (ap last_row e ∙ last_row-push earlier last) h.within

pub earlier_rows : (p : Program) (rows earlier : List LocalRow) (last : LocalRow) → IsBegun p rows
    → rows ≡ earlier ++ last ∷ [] → AreCutRows p earlier
earlier_rows p rows earlier last h e =
    subst (AreCutRows p) (ap (λ rs. before_last rs) e ∙ before_last-push earlier last) h.earlier

module _ (p : Program) (held : HeldCuts) (cuts : List CutStep) (earlier : List LocalRow) (last : LocalRow)
    (h : AreCuts p held cuts) (e : held.cuts.items ≡ earlier ++ last ∷ []) (some : 0 < length held.cuts.items) where
  split_is : earlier ++ last ∷ [] ≡ map local_row (before_last cuts) ++ local_row (last_step cuts) ∷ []
  split_is = sym e ∙ (kept_of p held cuts h some).rows

  earlier_is : earlier ≡ map local_row (before_last cuts)
  earlier_is =
      sym (before_last-push earlier last) ∙ ap (λ rs. before_last rs) split_is
      ∙ before_last-push (map local_row (before_last cuts)) (local_row (last_step cuts))

  last_is : last ≡ local_row (last_step cuts)
  last_is =
      sym (last_row-push earlier last) ∙ ap last_row split_is
      ∙ last_row-push (map local_row (before_last cuts)) (local_row (last_step cuts))

  -- what is said of the last cut by its row, and by its step
  of_step : (P : Area → List LocalRow → Type 0) → P last.area earlier
      → P (last_step cuts).area (map local_row (before_last cuts))
  of_step P x =
      subst (λ (r : LocalRow). P r.area (map local_row (before_last cuts))) last_is
      (subst (λ (rs : List LocalRow). P last.area rs) earlier_is x)

  -- the items aren't taken over
  pub not_kept : (new : HeldCuts) (tight : List Tight) → ¬ IsSized p last.area earlier tight
      → (IsTrue false ↔ IsSized p (last_step cuts).area (map local_row (before_last cuts)) tight)
      × (IsTrue false → AreCuts p new (at_last (with_tight p (before_last cuts) tight) cuts))
  not_kept new tight large = (
    (λ t. absurd (false≢true t), λ s. absurd (of_step (λ a rs. ¬ IsSized p a rs tight) large s)),
    λ t. absurd (false≢true t),
  )

  -- the items are taken over
  pub kept : (new : HeldCuts) (tight : List Tight) (rows : List Linear) (row : Linear)
      → AddsUp p last.area earlier tight rows row → new.cuts.items ≡ at_last (with_row row) held.cuts.items
      → new.tight.items ≡ rows → new.den ≡ held.den → new.units ≡ held.units
      → new.point.items ≡ held.point.items
      → (IsTrue true ↔ IsSized p (last_step cuts).area (map local_row (before_last cuts)) tight)
      × (IsTrue true → AreCuts p new (at_last (with_tight p (before_last cuts) tight) cuts))
  kept new tight rows row adds f t d u z =
      let up = of_step (λ a rs. AddsUp p a rs tight rows row) adds in
      ((λ _. up.sized, λ _. refl), λ _. sums_kept p held new cuts tight rows row h some up f t d u z)
