-- Multipliers of a dictionary, made whole.
use Rattle.std.proofs.Common.{◌≡◌, ℕ, List, length, ℤ, pos, to_z, sym, ap, ◌∙◌, subst, arith}
use Rattle.std.specs.Int.{w64}
use Rattle.std.proofs.lemmas.Int.{ints, to_z_pos}
use Rattle.bl_terms.specs.Bounds.{Problem, Multipliers}
use Rattle.bl_simplex.specs.Fractions.{Fraction}
use Rattle.bl_simplex.specs.Rationals.{fraction_at, common_denominator}
use Rattle.bl_simplex.specs.Closing.{PassLimit}
use Rattle.bl_licence.specs.Steps.{AreWhole, PassesLimit, IsListOf}
use Rattle.bl_licence.proofs.Limits.{list_common, passes_list}
use Rattle.bl_duality.specs.Laws.{AreMadeWhole}
use Rattle.bl_duality.proofs.ListedMultipliers.{AreListed, listed_within, listed_whole}
use Rattle.bl_relax.specs.Runs.{IsProofOf}

pub no_proof : (q : Problem) (f : ℕ → Fraction) (fs ds : List Fraction) → IsListOf (length q.rows) f fs → ds ≡ fs
    → PassesLimit (length ds) (fraction_at ds) → PassLimit q f
no_proof q f fs ds l e past =
    (passes_list (length q.rows) f fs l).0 (subst (λ xs. PassesLimit (length xs) (fraction_at xs)) e past)

pub proof_of : (q : Problem) (f : ℕ → Fraction) (fs ds : List Fraction) (common : ℕ) (xs : List ℤ) (den : ℤ)
    (proof : Multipliers) → IsListOf (length q.rows) f fs → ds ≡ fs → AreWhole ds common xs → proof.den ≡ den
    → proof.mult ≡ xs → IsProofOf q den f proof
proof_of q f fs ds common xs den proof l e w weight mult =
    let listed : AreListed q f fs common xs =
    record { listed = l; whole = subst (λ ys. AreWhole ys common xs) e w } in
    record {
      weight = weight;
      within = listed_within q f fs common xs listed;
      whole = subst (AreMadeWhole q f) (sym mult) (listed_whole q f fs common xs listed);
    }

-- the weight of the cost, as it is read
pub weight_read : (q : Problem) (f : ℕ → Fraction) (fs ds : List Fraction) (common : ℕ) (xs : List ℤ)
    → IsListOf (length q.rows) f fs → ds ≡ fs → AreWhole ds common xs
    → to_z w64 common ≡ pos (common_denominator (length q.rows) f)
weight_read q f fs ds common xs l e w =
    let small = w.small in
    let multiple : common ≡ common_denominator (length fs) (fraction_at fs) =
    w.multiple ∙ ap (λ ys. common_denominator (length ys) (fraction_at ys)) e in
    to_z_pos w64 common (omega (arith, ints)) ∙ ap pos (multiple ∙ list_common (length q.rows) f fs l)
