use Rattle.bl_certtext.proofs.form.has_form.Goals as goal

pub returns-in-Statement : goal.returns-in-Statement
returns-in-Statement c = rw c.in-Statement.is (c.is_statement.ensures c.args.model.now)

pub returns-in-Entries : goal.returns-in-Entries
returns-in-Entries c = rw c.in-Entries.is (c.is_link.ensures c.in-Entries.left c.in-Entries.last)

pub returns-in-FollowerTree : goal.returns-in-FollowerTree
returns-in-FollowerTree c =
    rw c.in-FollowerTree.is (c.is_follower_node.ensures c.args.model.now c.in-FollowerTree.area)

pub returns-in-CutArea : goal.returns-in-CutArea
returns-in-CutArea c = rw c.in-CutArea.is (c.is_area.ensures c.in-CutArea.place)

pub returns-in-Tree : goal.returns-in-Tree
returns-in-Tree c = rw c.in-Tree.is (c.is_node.ensures c.args.model.now c.in-Tree.area c.in-Tree.cuts)
