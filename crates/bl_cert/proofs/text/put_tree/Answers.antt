use Rattle.std.proofs.lemmas.Result.{on_ok_weaker}
use Rattle.bl_cert.proofs.Certificates.{tree-put}
use Rattle.bl_cert.proofs.text.put_tree.Goals as goal

pub returns : goal.returns
returns c =
    on_ok_weaker c.put_line-2.result
    (λ end nodes is. tree-put c.args.text.now.items c.put_line.new.into.items c.extend_from_slice.new.self.items
    c.put_line-2.new.into.items c.args.tree.now nodes c.in_ok-put_line.ensures.ok
    c.in_ok-extend_from_slice.ensures.items
    is end)
    c.put_line-2.ensures.ok
