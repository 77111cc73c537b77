-- The chosen column, by two dictionaries that agree.
use Rattle.std.proofs.Common.{◌≡◌, ℕ, ◌<◌, ◌⊎◌, inl, inr, pos, ◌<ℤ◌, ◌↔◌, sym, ap, ◌∙◌, subst}
use Rattle.std.specs.Prelude.{Option, Some, None, IsSome}
use Rattle.bl_simplex.specs.Fractions.{Fraction, quotient_of}
use Rattle.bl_simplex.specs.LegalPivots.{ratio_of, IsCandidate, WinsRatioTest, LosesRatioTest, IsEntering}

-- the two agree at the columns below n
pub record Match (n : ℕ) (costs costs' entries entries' : ℕ → Fraction) (label label' : ℕ → ℕ) : Type 0 where
  pub same_costs : (j : ℕ) → j < n → costs j ≡ costs' j
  pub same_entries : (j : ℕ) → j < n → entries j ≡ entries' j
  pub same_labels : (j : ℕ) → j < n → label j ≡ label' j

pub candidate_agrees : (n : ℕ) (entries entries' : ℕ → Fraction) (j : ℕ) → ((k : ℕ) → k < n → entries k ≡ entries' k)
    → IsCandidate n entries j → IsCandidate n entries' j
candidate_agrees n entries entries' j same h =
    record { column_in = h.column_in; negative = subst (λ f. f.num <ℤ pos 0) (same j h.column_in) h.negative }

ratio_agrees : (n : ℕ) (costs costs' entries entries' : ℕ → Fraction) (label label' : ℕ → ℕ) (j : ℕ)
    → Match n costs costs' entries entries' label label' → j < n → ratio_of costs entries j ≡ ratio_of costs' entries' j
ratio_agrees n costs costs' entries entries' label label' j h l =
    ap (λ x. quotient_of x (entries j)) (h.same_costs j l) ∙ ap (quotient_of (costs' j)) (h.same_entries j l)

turned : (n : ℕ) (costs costs' entries entries' : ℕ → Fraction) (label label' : ℕ → ℕ)
    → Match n costs costs' entries entries' label label' → Match n costs' costs entries' entries label' label
turned n costs costs' entries entries' label label' h = record {
  same_costs = λ j l. sym (h.same_costs j l);
  same_entries = λ j l. sym (h.same_entries j l);
  same_labels = λ j l. sym (h.same_labels j l);
}

relabelled : (o : Option Fraction) (label label' : ℕ → ℕ) (c j : ℕ) (least : Fraction) → label c ≡ label' c
    → label j ≡ label' j → LosesRatioTest label c j least o → LosesRatioTest label' c j least o
relabelled None label label' c j least ec ej h = h
relabelled (Some y) label label' c j least ec ej h =
    subst (λ k. (j ≡ c) ⊎ WinsRatioTest (label' c) k least y) ej
    (subst (λ k. (j ≡ c) ⊎ WinsRatioTest k (label j) least y) ec h)

behind_agrees : (label label' : ℕ → ℕ) (c j : ℕ) (least : Fraction) (o o' : Option Fraction) → label c ≡ label' c
    → label j ≡ label' j → o ≡ o' → LosesRatioTest label c j least o → LosesRatioTest label' c j least o'
behind_agrees label label' c j least o o' ec ej eo h =
    subst (λ b. LosesRatioTest label' c j least b) eo (relabelled o label label' c j least ec ej h)

chosen_one_way : (n : ℕ) (costs costs' entries entries' : ℕ → Fraction) (label label' : ℕ → ℕ) (c : ℕ)
    → Match n costs costs' entries entries' label label' → c < n → IsEntering n costs entries label c
    → IsEntering n costs' entries' label' c
chosen_one_way n costs costs' entries entries' label label' c h hc chosen =
    let back = turned n costs costs' entries entries' label label' h in
    elim chosen [
      | inl l ↦ inl (record {
        least = l.least;
        ratio = sym (ratio_agrees n costs costs' entries entries' label label' c h hc) ∙ l.ratio;
        others = λ j can.
            behind_agrees label label' c j l.least _ _ (h.same_labels c hc) (h.same_labels j can.column_in)
            (ratio_agrees n costs costs' entries entries' label label' j h can.column_in)
            (l.others j (candidate_agrees n entries' entries j back.same_entries can));
      })
      | inr w ↦ inr (record {
        wide = sym (ratio_agrees n costs costs' entries entries' label label' c h hc) ∙ w.wide;
        earlier = λ j can before.
            subst IsSome (ratio_agrees n costs costs' entries entries' label label' j h can.column_in)
            (w.earlier j (candidate_agrees n entries' entries j back.same_entries can) before);
      })
    ]

pub chosen_agrees : (n : ℕ) (costs costs' entries entries' : ℕ → Fraction) (label label' : ℕ → ℕ) (c : ℕ)
    → Match n costs costs' entries entries' label label' → c < n
    → IsEntering n costs entries label c ↔ IsEntering n costs' entries' label' c
chosen_agrees n costs costs' entries entries' label label' c h hc = (
  chosen_one_way n costs costs' entries entries' label label' c h hc,
  chosen_one_way n costs' costs entries' entries label' label c
      (turned n costs costs' entries entries' label label' h) hc,
)
