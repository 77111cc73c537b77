use Rattle.std.proofs.Common.{◌≡◌, ◌≤◌, ◌-◌, vec_len, length}
use Rattle.bl_outer.specs.Files.{IfTold}
use Rattle.bl_outer.specs.Shelf.{Reading, chosen_name, OnlyReads, NoReadFault}
use Rattle.bl_outer.proofs.Reading.{HasRead}
use Rattle.bl_outer.proofs.text.read_on.Given as goal

abbrev pub invariant-loop-given : goal.invariant-loop-given
invariant-loop-given g l =
    let before = g.F.Shelf.state l.initial.files in
    let now = g.F.Shelf.state l.files in
    let name = chosen_name before.mode in
    record {
      chosen : now.mode ≡ Reading name (length l.into.items);
      text : IfTold before.contents (HasRead name l.into.items);
      reads : OnlyReads before now;
      no_fault : NoReadFault before now;
      misses : now.misses ≡ before.misses;
      within : vec_len l.into ≤ l.limit;
    }

abbrev pub decreases-loop-given : goal.decreases-loop-given
decreases-loop-given g l = l.limit - vec_len l.into
