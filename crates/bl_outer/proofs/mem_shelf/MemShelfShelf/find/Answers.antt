use Rattle.std.proofs.Common.{subst}
use Rattle.bl_outer.specs.Files.{IsPresent}
use Rattle.bl_outer.specs.MemShelf.{MemShelfState}
use Rattle.bl_outer.proofs.Entries.{present_at}
use Rattle.bl_outer.proofs.mem_shelf.MemShelfShelf.find.Goals as goal

pub returns-in-Some-clause-exact : goal.returns-in-Some-clause-exact
returns-in-Some-clause-exact c =
    let found = rw c.deref.ensures.value at c.in-Some.ensures.found in
    subst (λ (shelf : MemShelfState). IsPresent shelf.files c.args.name.now) c.self.view_is
    (present_at _ _ _ found.0 found.1)
