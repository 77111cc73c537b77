use Rattle.bl_source.proofs.Keeping.{kept_entries}
use Rattle.bl_source.proofs.source.PoolSource.keep.Goals as goal

pub returns-in-Ok-clause-keeps : goal.returns-in-Ok-clause-keeps
returns-in-Ok-clause-keeps c =
    λ x here. kept_entries c.args.self.now c.put.new.self c.args.entry c.in-Ok.kept x c.put.result c.in-Ok.is
    c.put.ensures.put here
