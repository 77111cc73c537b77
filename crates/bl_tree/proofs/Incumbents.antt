-- Points and the entries of their links.
use Rattle.std.proofs.Common.{◌≡◌, ℕ, ◌<◌, sym, subst, arith, List, length}
use Rattle.std.specs.Prelude.{ℤ, ◌≤ℤ◌, Option, Some, None, MatchOption}
use Rattle.std.specs.Int.{w128}
use Rattle.bl_limits.specs.declared.TheConstants.{MAX_NUMBER}
use Rattle.bl_whole.specs.Within.{PartialDotsFit}
use Rattle.bl_whole.proofs.WithinLemmas.{dots_fit}
use Rattle.bl_terms.specs.Programs.{Program, row_at, InBox, MeetsRows, link_of, follower_at}
use Rattle.bl_terms.specs.Responses.{Entry, Best, NoResponse, IsTrueEntry}
use Rattle.bl_terms.proofs.ResponseLemmas.{no_response_no_point}
use Rattle.bl_model.specs.View.{IsModel}
use Rattle.bl_model.proofs.PointLemmas.{InBox-within}
use Rattle.bl_fproof.specs.Entries.{Admitted, IsAdmitted}
use Rattle.bl_fproof.specs.Steps.{entry_of}
use Rattle.bl_leaf_terms.specs.Incumbents.{Incumbent, IsEntryFor, IsIncumbent, AreIncumbents, IsNoBetter}
use Rattle.bl_leaf_terms.proofs.LeafLemmas.{incumbent_law, true_entry, lower_rows}
use Rattle.bl_tree.specs.Shows.{IsOwnEntry}

pub model_of_entry : (p : Program) (e : Admitted) → IsAdmitted e → e.program ≡ p → IsModel p
model_of_entry p e is same = subst (λ (x : Program). IsModel x) same is.model

entry_for : (p : Program) (z : List ℤ) (e : Admitted) → IsAdmitted e → IsOwnEntry p z e → IsEntryFor p (link_of p z) e
entry_for p z e is own = record { admitted = is; program = own.placed.program; link = own.link }

-- with the entry of its link, a point that meets the rows is an incumbent where it costs no more than the response
pub shown_by : (p : Program) (z : List ℤ) (e : Admitted) (y : List ℤ) (v : ℤ) → IsAdmitted e → IsOwnEntry p z e
    → MeetsRows p z → entry_of e.answered ≡ Best y v → follower_at p z ≤ℤ v
    → IsIncumbent (record { program = p; point = z; entry = e })
shown_by p z e y v is own rows best low =
    let m = model_of_entry p e is own.placed.program in
    let law = incumbent_law p z e m (entry_for p z e is own) in
    let no_better : IsNoBetter p z (entry_of e.answered) = subst (IsNoBetter p z) (sym best) low in
    record { model = m; feasible = law.1 (own.placed.inside, rows, no_better); entry = entry_for p z e is own }

-- the entry of the link of a point that meets the rows has a response
pub answered_there : (p : Program) (z : List ℤ) (e : Admitted) → IsAdmitted e → IsOwnEntry p z e → MeetsRows p z
    → entry_of e.answered ≡ NoResponse → ⊥
answered_there p z e is own rows none =
    let m = model_of_entry p e is own.placed.program in
    no_response_no_point p z m.sound own.placed.inside
    (subst (λ (x : Entry). IsTrueEntry p (link_of p z) x) none (true_entry p (link_of p z) e (entry_for p z e is own)))
    (lower_rows p z rows)

-- the sum of a row at a point of the box fits
pub row_sum_fits : (p : Program) (z : List ℤ) (i : ℕ) → IsModel p → InBox p z → i < length p.rows
    → PartialDotsFit w128 (row_at p.rows i).coef z
row_sum_fits p z i m inside b =
    let size = m.sound.row_columns i b in
    let few = m.limits.few_columns in
    dots_fit w128 {m = MAX_NUMBER} {n = MAX_NUMBER} (record { each = λ k _. m.limits.coefs i k b })
    (InBox-within p z m inside) (rw size (omega arith))

-- an incumbent that is of the program
pub are_incumbents : (p : Program) (best : Option Incumbent) → MatchOption best (Unit {0}) IsIncumbent
    → MatchOption best (Unit {0}) (λ f. f.program ≡ p) → AreIncumbents p best
are_incumbents p None is of_program = tt
are_incumbents p (Some f) is of_program = (of_program, is)

pub of_program : (p : Program) (best : Option Incumbent) → AreIncumbents p best
    → MatchOption best (Unit {0}) (λ f. f.program ≡ p)
of_program p None h = tt
of_program p (Some f) h = h.0
