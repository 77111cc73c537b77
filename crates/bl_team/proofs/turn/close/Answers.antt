use Rattle.bl_team.proofs.Turns.{over_by_close}
use Rattle.bl_team.proofs.turn.close.Goals as goal

pub returns : goal.returns
returns c =
    over_by_close c.args.book.now c.close.new.self c.args.node c.args.leaf c.in-Ok.ensures.ok c.in-Ok.ensures.allowed
    c.requires.work
