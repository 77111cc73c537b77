use Rattle.bl_team.proofs.Turns.{begun_by_claim}
use Rattle.bl_team.proofs.turn.claim.Goals as goal

pub returns : goal.returns
returns c =
    begun_by_claim c.args.book.now c.make_room.new.self c.claim.new.self c.args.node c.make_room.ensures.ledger
    c.in-Ok.ensures.ok c.in-Ok.ensures.allowed c.requires.idle
