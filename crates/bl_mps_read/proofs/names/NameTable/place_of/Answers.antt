use Rattle.std.proofs.Common.{sym, ◌∙◌}
use Rattle.std.specs.Str.{bytes_eq}
use Rattle.bl_mps_read.proofs.NameLists.{position-map}
use Rattle.bl_mps_read.proofs.names.NameTable.place_of.Goals as goal

pub returns : goal.returns
returns c = rw (← c.self.view_is)
    (c.get_index_of.ensures.index ∙ sym (position-map (bytes_eq c.args.name.now) _ c.self.inside.names.keys))
