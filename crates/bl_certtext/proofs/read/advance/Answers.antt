use Rattle.bl_certtext.proofs.Walks.{refused_first}
use Rattle.bl_certtext.proofs.read.advance.Goals as goal

pub returns-in_default-2 : goal.returns-in_default-2
returns-in_default-2 c =
    refused_first c.args.model.now c.args.part c.args.bytes.now c.in_ok-line.field-0 c.in-Some.line c.in-Some.rest
    c.in_ok-following.field-0 c.in_ok-line.ensures c.in-Some.is c.in_ok-following.ensures c.in_default-2.is
