use Rattle.std.proofs.Common.{refl, rules, sym, subst, List, ℕ}
use Rattle.std.specs.Prelude.{option_map}
use Rattle.std.specs.Arc.{arc_value}
use Rattle.std.specs.Option.{option_copied}
use Rattle.bl_terms.specs.Points.{Fixes}
use Rattle.bl_tree.proofs.Incumbents.{are_incumbents}
use Rattle.bl_tree.proofs.Licences.{node_fixed, node_free}
use Rattle.bl_tree.proofs.Links.{links_there}
use Rattle.bl_tree.proofs.licence.is_licensed.Goals as goal

pub fixes-requires : goal.fixes-requires
fixes-requires c =
    links_there c.args.model.now c.args.area.now c.args.area.now.lo c.links.result.now c.links.ensures.model c.requires
    refl c.links.ensures.links

pub returns-then-fixes : goal.returns-then-fixes
returns-then-fixes c =
    let best = option_map arc_value (option_copied c.args.best) in
    node_fixed c.args.model.now c.args.area.now best c.cutoff_by-cutoff.result (option_copied c.args.kept)
    c.args.why.now c.is_licensed_by_value.result c.links.ensures.model c.requires
    (are_incumbents c.args.model.now best c.is_incumbent_of.ensures.incumbent
    (c.is_incumbent_of.ensures.program.0 (search rules)))
    c.cutoff_by-cutoff.ensures.value
    (subst (λ (links : List ℕ). Fixes c.args.area.now links) c.links.ensures.links (c.fixes.ensures.0 c.if-fixes.true))
    c.is_licensed_by_value.ensures.licence c.is_licensed_by_value.ensures.area

pub returns-else-fixes : goal.returns-else-fixes
returns-else-fixes c =
    let best = option_map arc_value (option_copied c.args.best) in
    let free : ¬ Fixes c.args.area.now c.args.model.now.links =
    λ f. let t = c.fixes.ensures.1
    (subst (λ (links : List ℕ). Fixes c.args.area.now links) (sym c.links.ensures.links) f) in
    absurd (cc) in
    node_free c.args.model.now c.args.area.now best c.cutoff_by-cutoff.result (option_copied c.args.kept)
    c.args.why.now c.is_licensed_plainly.result c.links.ensures.model c.requires
    (are_incumbents c.args.model.now best c.is_incumbent_of.ensures.incumbent
    (c.is_incumbent_of.ensures.program.0 (search rules)))
    c.cutoff_by-cutoff.ensures.value free c.is_licensed_plainly.ensures.licence c.is_licensed_plainly.ensures.area
