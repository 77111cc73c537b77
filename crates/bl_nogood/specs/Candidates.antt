-- Trusted. The candidates of a no-good cut at a point: what holds with equality there, in its order.
use Rattle.std.specs.Prelude.{◌≡◌, ◌⊎◌, ℤ, List, [], ◌∷◌, ◌++◌, length, map}
use Rattle.std.specs.List.{range_with_len}
use Rattle.bl_whole.specs.Sums.{dot}
use Rattle.bl_terms.specs.Points.{Area}
use Rattle.bl_terms.specs.Programs.{Program, columns}
use Rattle.bl_terms.specs.Bounds.{Problem}
use Rattle.bl_cut_terms.specs.declared.parts.Tight.{Tight}
use Rattle.bl_cut_terms.specs.declared.parts.Tight.TheVariants.{Row, Upper, Lower, Cut}
use Rattle.bl_cut_terms.specs.NoGoods.{NoGoodCut, IsThere, tight_row, tight_rows}
use Rattle.bl_cut_proof.specs.Proving.{local_rows, IsOfProgram}

-- all items, in their order: the rows of the program, the upper sides of the box, its lower sides, the earlier cuts
abbrev pub all_items : Program → List NoGoodCut → List Tight
all_items p earlier =
    map (λ i. Row i) (range_with_len 0 (length p.rows)) ++ map (λ j. Upper j) (range_with_len 0 (columns p))
    ++ map (λ j. Lower j) (range_with_len 0 (columns p)) ++ map (λ k. Cut k) (range_with_len 0 (length earlier))

-- an earlier cut is of the program, and its box contains this one; the item's row holds with equality at z
pub record IsCandidate (p : Program) (a : Area) (earlier : List NoGoodCut) (z : List ℤ) (item : Tight) : Type 0 where
  pub there : IsThere p a (local_rows earlier) item
  pub model : IsOfProgram p earlier item
  pub equal : dot (tight_row p a (local_rows earlier) item).coef z ≡ (tight_row p a (local_rows earlier) item).rhs

-- the chosen are those of the items with this property, in their order
abbrev pub AreChosen : (Tight → Type 0) → List Tight → List Tight → Type 0
AreChosen P [] chosen = chosen ≡ []
AreChosen P (x ∷ items) [] = (¬ P x) × AreChosen P items []
AreChosen P (x ∷ items) (y ∷ chosen) =
    ((x ≡ y) × P x × AreChosen P items chosen) ⊎ ((¬ P x) × AreChosen P items (y ∷ chosen))

-- all candidates
abbrev pub AreCandidates : Program → Area → List NoGoodCut → List ℤ → List Tight → Type 0
AreCandidates p a earlier z candidates = AreChosen (IsCandidate p a earlier z) (all_items p earlier) candidates

-- the problem of their rows
abbrev pub candidate_problem : Program → Area → List NoGoodCut → List Tight → Problem
candidate_problem p a earlier candidates =
    record { rows = tight_rows p a (local_rows earlier) candidates; cost = p.cost; area = a }
