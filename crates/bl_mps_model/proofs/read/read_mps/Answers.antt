use Rattle.std.proofs.lemmas.Bool.{le-ltb}
use Rattle.bl_mps_read.specs.ReaderViews.{reader_view}
use Rattle.std.proofs.Math.Facts.{to_z-of_z}
use Rattle.bl_mps_model.proofs.Found.{text_found}
use Rattle.bl_mps_model.proofs.read.read_mps.Goals as goal

pub returns-clause-exact : goal.returns-clause-exact
returns-clause-exact c =
    text_found c.args.default_upper c.args.bytes.now (reader_view c.in_ok-reader.reader) c.model_of.result
    (le-ltb _ _ c.if-bytes-gt-MAX_TEXT_BYTES.false) c.in_ok-reader.ensures.read
    (rw (to_z-of_z c.ranges.default_upper) at c.model_of.ensures.exact)
