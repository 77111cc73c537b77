use Rattle.std.proofs.Common.{ℕ, List, ◌++◌, codes, subst}
use Rattle.bl_run.specs.Endings.{spent_text}
use Rattle.bl_run.specs.Steps.{Puts, nodes_line, link_text}
use Rattle.bl_run.proofs.StatusLemmas.{told, follower_pieces}
use Rattle.bl_run.proofs.status.Failure.tell.Goals as goal

pub returns-in-ReadFault : goal.returns-in-ReadFault
returns-in-ReadFault g c =
    rw c.in-ReadFault.is
    (told (codes "mibs: read fault: " ++ (c.in-ReadFault.file.now ++ codes "\n")) c.put_all-in-ReadFault.result
    (g.E.Sink.state c.args.err.now) (g.E.Sink.state c.put_all-in-ReadFault.new.err)
    (rw c.as_bytes.ensures.value at c.put_all-in-ReadFault.ensures))

pub returns-in-NodesSpent : goal.returns-in-NodesSpent
returns-in-NodesSpent g c =
    rw c.in-NodesSpent.is
    (told (nodes_line c.in-NodesSpent.budget c.in-NodesSpent.made) c.tell_nodes.result
    (g.E.Sink.state c.args.err.now) (g.E.Sink.state c.tell_nodes.new.err) c.tell_nodes.ensures)

pub returns-in-FollowerSpent : goal.returns-in-FollowerSpent
returns-in-FollowerSpent g c =
    let spent = spent_text c.in-FollowerSpent.budget c.in-FollowerSpent.made in
    let link = link_text c.in-FollowerSpent.link.items in
    let put = rw c.deref.ensures.value at c.tell_follower.ensures in
    rw c.in-FollowerSpent.is
    (told (codes "mibs: follower budget " ++ (spent ++ (codes " at link" ++ (link ++ codes "\n"))))
    c.tell_follower.result (g.E.Sink.state c.args.err.now) (g.E.Sink.state c.tell_follower.new.err)
    (subst (λ (line : List ℕ). Puts line (g.E.Sink.state c.args.err.now) (g.E.Sink.state c.tell_follower.new.err)
    c.tell_follower.result) (follower_pieces spent link) put))
