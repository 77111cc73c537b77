use Rattle.std.proofs.Common.{◌≡◌, sym, ◌∙◌}
use Rattle.std.specs.Prelude.{◌↔◌, IsTrue}
use Rattle.std.specs.Cmp.Rules.{signed_items}
use Rattle.bl_tree.proofs.incumbent.is_own_entry.Goals as goal

pub returns : goal.returns
returns c =
    let test : IsTrue c.eq.result ↔ (c.link.result.now ≡ c.as_slice.result.now) =
    rw (c.eq.ensures) (signed_items c.link.result.now c.as_slice.result.now) in
    let link = c.as_slice.ensures.value ∙ c.in_ok-link.ensures.value in (
      λ t. sym c.link.ensures.value ∙ test.0 t ∙ link,
      λ e. test.1 (c.link.ensures.value ∙ e ∙ sym link),
    )
