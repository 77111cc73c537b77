use Rattle.std.proofs.Common.{subst}
use Rattle.bl_outer.specs.Files.{Empties}
use Rattle.bl_outer.specs.MemFile.{files_of}
use Rattle.bl_outer.specs.MemShelf.{MemShelfState}
use Rattle.bl_outer.proofs.Entries.{emptied}
use Rattle.bl_outer.proofs.mem_shelf.MemShelfShelf.begin.Goals as goal

pub returns-clause-ok : goal.returns-clause-ok
returns-clause-ok c =
    subst (λ (shelf : MemShelfState). Empties c.args.name.now shelf.files (files_of c.put_file.new.files.items))
    c.self.view_is (emptied _ _ _ c.in-Ok.ensures.put)
