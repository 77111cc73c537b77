use Rattle.std.proofs.Common.{◌≡◌, IsTrue, ◌↔◌, ◌∙◌, ap, sym, arith}
use Rattle.std.proofs.lemmas.Int.{ints}
use Rattle.std.specs.Cmp.Rules.{signed_items}
use Rattle.bl_terms.specs.Points.{Linear}
use Rattle.bl_cut_terms.specs.NoGoods.{cut_of}
use Rattle.bl_tree.proofs.CutLists.{row_is}
use Rattle.bl_tree.proofs.distinct.is_same_row.Goals as goal

pub returns-then-right : goal.returns-then-right
returns-then-right c =
    let r = (cut_of c.args.cut.now).row in
    let s = (cut_of c.args.other.now).row in
    let same : IsTrue c.eq.result ↔ (c.coef.result.now ≡ c.coef-then-right.result.now) =
    rw (c.eq.ensures) (signed_items _ _) in
    let numbers : c.right.result ≡ c.right-2.result = omega (arith, ints) in
    let right : r.rhs ≡ s.rhs = sym c.right.ensures.value ∙ numbers ∙ c.right-2.ensures.value in (
      λ t. row_is s r.coef r.rhs (sym c.coef.ensures.value ∙ same.0 t ∙ c.coef-then-right.ensures.value) right,
      λ e. same.1
          (c.coef.ensures.value ∙ ap (λ (x : Linear). x.coef) e ∙ sym c.coef-then-right.ensures.value),
    )
