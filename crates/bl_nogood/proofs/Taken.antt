-- The cut at a point takes the point away.
use Rattle.std.proofs.Common.{◌≡◌, ℕ, sym, ◌∙◌, ap, subst, arith, List, length}
use Rattle.std.specs.Prelude.{ℤ}
use Rattle.std.proofs.lemmas.Int.{ints}
use Rattle.bl_whole.specs.Sums.{dot}
use Rattle.bl_whole.proofs.SumLemmas.{sum_below-agree}
use Rattle.bl_terms.specs.Points.{Area, Linear, Meets}
use Rattle.bl_terms.specs.Programs.{Program, columns}
use Rattle.bl_terms.specs.Bounds.{linear_at}
use Rattle.bl_cut_terms.specs.NoGoods.{NoGoodCut, tight_rows, lowered_sum, IsTightAt, last_step}
use Rattle.bl_cut_terms.specs.declared.parts.CutParts.{CutParts}
use Rattle.bl_cut_terms.proofs.NoGoodLemmas.{dot_of_sum}
use Rattle.bl_cut.specs.Cuts.{IsProvedCut}
use Rattle.bl_cut_proof.specs.Proving.{local_rows, IsCutOf, IsOwnStep}
use Rattle.bl_nogood.specs.Choosing.{AreMadeParts}
use Rattle.bl_nogood.specs.Making.{IsCutAt}

-- where rows hold with equality, their sum is one above the lowered right side
beyond : (p : Program) (rows : List Linear) (z : List ℤ) → IsTightAt p rows z → ¬ Meets (lowered_sum (columns p) rows) z
beyond p rows z tight meets =
    let sum = dot_of_sum (columns p) rows z tight.inside.columns in
    let equal = sum_below-agree (length rows) (λ i. dot (linear_at rows i).coef z) (λ i. (linear_at rows i).rhs)
    tight.equal in
    let h = meets.holds in
    omega (arith, ints)

pub cut_at_point : (p q : Program) (a b : Area) (earlier : List NoGoodCut) (z y : List ℤ) (parts : CutParts) (n : ℕ)
    (c : NoGoodCut) → AreMadeParts q b earlier z y parts n → IsCutOf p a earlier parts c
    → IsOwnStep p a earlier parts (last_step c.steps) → IsProvedCut c → IsCutAt p a z y c
cut_at_point p q a b earlier z y parts n c m cut own proved =
    let here : parts.point ≡ z = ap (λ (x : CutParts). x.point) m.parts_are in
    let at : IsTightAt p (tight_rows p a (local_rows earlier) parts.tight) z =
    subst (λ (x : List ℤ). IsTightAt p (tight_rows p a (local_rows earlier) parts.tight) x) here cut.shown.tight in
    record {
      proved = proved;
      program = cut.program;
      area = own.area;
      point = ap (λ (x : CutParts). x.point) own.parts_are ∙ here;
      response = ap (λ (x : CutParts). x.response) own.parts_are ∙ ap (λ (x : CutParts). x.response) m.parts_are;
      away = subst (λ (r : Linear). ¬ Meets r z) (sym own.row)
          (beyond p (tight_rows p a (local_rows earlier) parts.tight) z at);
    }
