use Rattle.std.proofs.lemmas.List.{get_or_read}
use Rattle.bl_terms.specs.Bounds.{no_linear}
use Rattle.bl_cut_proof.proofs.RowLemmas.{point_fits, point_places}
use Rattle.bl_cut_proof.proofs.tight.hold_with_equality.Goals as goal

pub holds_at-requires-clause-places : goal.holds_at-requires-clause-places
holds_at-requires-clause-places c =
    point_places c.args.model.now c.args.rows.now c.loop-i.i c.index-rows-i.result c.args.point.now c.requires.rows
    c.requires.inside c.loop-i-test.true
    (get_or_read c.args.rows.now c.loop-i.i c.index-rows-i.result c.loop-i-test.true c.index-rows-i.is no_linear)

pub holds_at-requires-clause-fits : goal.holds_at-requires-clause-fits
holds_at-requires-clause-fits c =
    point_fits c.args.model.now c.args.rows.now c.loop-i.i c.index-rows-i.result c.args.point.now c.requires.model
    c.requires.rows c.requires.inside c.loop-i-test.true
    (get_or_read c.args.rows.now c.loop-i.i c.index-rows-i.result c.loop-i-test.true c.index-rows-i.is no_linear)
