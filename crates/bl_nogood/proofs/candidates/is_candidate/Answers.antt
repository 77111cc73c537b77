use Rattle.bl_nogood.proofs.KeptLemmas.{item_places, item_fits}
use Rattle.bl_nogood.proofs.candidates.is_candidate.Goals as goal

pub holds_at-requires-clause-places : goal.holds_at-requires-clause-places
holds_at-requires-clause-places c =
    item_places c.args.model.now c.args.area.now c.args.earlier.now c.args.item c.args.point.now c.in_ok-row.row
    c.lo-columns.ensures.model c.lo-sides.ensures.limits c.count-count.ensures.cuts c.requires.within
    (c.is_usable.ensures.0 c.if-not-is_usable.false) c.requires.inside c.in_ok-row.ensures

pub holds_at-requires-clause-fits : goal.holds_at-requires-clause-fits
holds_at-requires-clause-fits c =
    item_fits c.args.model.now c.args.area.now c.args.earlier.now c.args.item c.args.point.now c.in_ok-row.row
    c.lo-columns.ensures.model c.lo-sides.ensures.limits c.count-count.ensures.cuts c.requires.within
    (c.is_usable.ensures.0 c.if-not-is_usable.false) c.requires.inside c.in_ok-row.ensures
