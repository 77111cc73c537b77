use Rattle.std.proofs.Common.{refl}
use Rattle.bl_outer.proofs.Entries.{appended_whole, appended_part}
use Rattle.bl_outer.proofs.mem_file.append_at.Goals as goal

pub returns-clause-whole : goal.returns-clause-whole
returns-clause-whole c =
    appended_whole _ _ c.requires _ _ _ refl _ _ c.append.ensures.name c.append.ensures.whole

pub returns-clause-part : goal.returns-clause-part
returns-clause-part c =
    appended_part _ _ c.requires _ _ _ refl _ _ c.append.ensures.name c.append.ensures.part
