use Rattle.std.proofs.Common.{List, ◌++◌, reverse, sym, ap, ℕ}
use Rattle.bl_cert.proofs.Preorder.{unsplit-halves}
use Rattle.bl_cert.proofs.order.push_halves.Goals as goal

pub returns-in_default : goal.returns-in_default
returns-in_default c =
    ap (λ (ks : List ℕ). ks ++ reverse c.args.stack.now.items)
    (sym (unsplit-halves c.args.book.now.ledger.book c.args.node c.in_default.ensures))
