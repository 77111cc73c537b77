-- The cuts of a leaf can be taken over behind others, to places that are apart: each of them stands alone, and they
-- differ by box or row.
use Rattle.std.proofs.Common.{◌≢◌, ℕ, suc, refl, sym, ◌∙◌, ap, arith, List, [], ◌∷◌}
use Rattle.std.specs.Prelude.{ℤ, All, option_and_then}
use Rattle.std.specs.List.{zip}
use Rattle.std.proofs.lemmas.List.Elements.{All-head, All-tail}
use Rattle.bl_terms.specs.Points.{Area}
use Rattle.bl_terms.specs.Programs.{Program}
use Rattle.bl_cut_terms.specs.NoGoods.{CutStep, local_row, NoGoodCut, step_at, cut_of}
use Rattle.bl_cut_proof.proofs.Sorting.{itself, IsOther, AreApart}
use Rattle.bl_cut_proof.proofs.TakenCuts.{Succeeds, cut_succeeds}
use Rattle.bl_cut_proof.proofs.TakenSteps.{AreDistinct}
use Rattle.bl_leaf_terms.specs.Leaves.{IsCutFor, AreDistinctCuts}
use Rattle.bl_cert_book.specs.Leaves.{adopt_all}
use Rattle.bl_cert_book.proofs.CutLemmas.{StandsAt, StandAt}

-- ---- the cuts of a leaf

pub cuts_there : (p : Program) (area : Area) (cuts : List NoGoodCut) (steps : List CutStep) (places : List ℕ)
    → All (IsCutFor p area) cuts → AreDistinct steps
    → Succeeds (adopt_all (record { steps = steps; places = places }) cuts)
cuts_there p area [] steps places are distinct =
    record { result = record { steps = steps; places = places }; is = refl; distinct = distinct }
cuts_there p area (c ∷ cuts) steps places are distinct =
    let for = All-head (IsCutFor p area) c cuts are in
    let one = cut_succeeds p c steps places for.steps for.alone distinct in
    let rest =
    cuts_there p area cuts one.result.steps one.result.places (All-tail (IsCutFor p area) c cuts are) one.distinct in
    record {
      result = rest.result;
      is = ap (option_and_then (λ b. adopt_all b cuts)) one.is ∙ rest.is;
      distinct = rest.distinct;
    }

-- cuts that differ by box or row stand at places that are apart
other_places : (steps : List CutStep) (c : NoGoodCut) (k : ℕ) (cuts : List NoGoodCut) (ks : List ℕ) (ms : List ℤ)
    → StandsAt steps c k → StandAt steps cuts ks → All (λ d. cut_of c ≢ cut_of d) cuts → IsOther itself k (zip ks ms)
other_places steps c k [] [] ms stands stand other = tt
other_places steps c k [] (j ∷ ks) ms stands stand other = absurd stand
other_places steps c k (d ∷ cuts) [] ms stands stand other = absurd stand
other_places steps c k (d ∷ cuts) (j ∷ ks) [] stands stand other = tt
other_places steps c k (d ∷ cuts) (j ∷ ks) (m ∷ ms) stands stand other = (
  (λ e. All-head (λ x. cut_of c ≢ cut_of x) d cuts other
      (sym stands.at ∙ ap (λ i. local_row (step_at steps i)) e ∙ stand.0.at)),
  other_places steps c k cuts ks ms stands stand.1 (All-tail (λ x. cut_of c ≢ cut_of x) d cuts other),
)

pub places_apart : (steps : List CutStep) (cuts : List NoGoodCut) (ks : List ℕ) (ms : List ℤ) → StandAt steps cuts ks
    → AreDistinctCuts cuts → AreApart itself (zip ks ms)
places_apart steps [] [] ms stand pairs = tt
places_apart steps [] (k ∷ ks) ms stand pairs = absurd stand
places_apart steps (c ∷ cuts) [] ms stand pairs = absurd stand
places_apart steps (c ∷ cuts) (k ∷ ks) [] stand pairs = tt
places_apart steps (c ∷ cuts) (k ∷ ks) (m ∷ ms) stand pairs = (
  other_places steps c k cuts ks ms stand.0 stand.1 (λ i d b. pairs 0 (suc i) d (omega arith) (omega arith)),
  places_apart steps cuts ks ms stand.1 (λ i j d b e. pairs (suc i) (suc j) d (omega arith) (omega arith)),
)
