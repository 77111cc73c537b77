use Rattle.bl_mps_read.proofs.NameLists.{names-pushed}
use Rattle.bl_mps_read.proofs.names.NameTable.push.Goals as goal

pub returns-clause-ok : goal.returns-clause-ok
returns-clause-ok c =
    names-pushed (λ name. name.items) c.args.name.now c.in_ok-from_slice.field-0 c.self.inside.names.keys
    c.insert.new.self.keys c.args.self.now
    c.in_ok-from_slice.ensures.items c.self.view_is c.requires c.in_ok-insert.ensures.keys
