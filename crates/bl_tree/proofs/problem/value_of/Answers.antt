use Rattle.std.proofs.Common.{refl, ap, sym, ◌∙◌, rules}
use Rattle.std.specs.Prelude.{FitsSigned}
use Rattle.std.specs.Int.{w64}
use Rattle.std.proofs.lemmas.Int.{to_z-of_z}
use Rattle.bl_fproof.specs.Steps.{entry_of}
use Rattle.bl_tree.proofs.Links.{links_there}
use Rattle.bl_tree.proofs.Problems.{value_small}
use Rattle.bl_tree.proofs.problem.value_of.Goals as goal

pub fixes-requires : goal.fixes-requires
fixes-requires c =
    links_there c.args.model.now c.args.area.now c.args.area.now.lo c.links.result.now c.links.ensures.model c.requires
    refl c.links.ensures.links

pub is_link_at-requires : goal.is_link_at-requires
is_link_at-requires c =
    links_there c.args.model.now c.args.area.now c.lo.result.now c.links-2.result.now c.links-2.ensures.model
    c.requires c.lo.ensures.value c.links-2.ensures.links

pub returns-in-Best-clause-small : goal.returns-in-Best-clause-small
returns-in-Best-clause-small c =
    let fits : FitsSigned w64 c.in-Best.value = search rules in
    rw (to_z-of_z w64 _ fits)
    (value_small c.args.entry.now c.in-Best.response c.in-Best.value c.link-link.ensures.admitted
    (ap entry_of (sym c.answered.ensures.value ∙ c.in-Best.is)))
