use Rattle.std.proofs.Common.{◌≡◌, List, sym, ap, ◌∙◌}
use Rattle.std.specs.Prelude.{ℤ, is_some}
use Rattle.std.specs.BTreeMap.{insert_entry}
use Rattle.bl_fproof.specs.Entries.{Admitted}
use Rattle.bl_cert.proofs.Entering.{at_link, key_order, listed, kept-entry, entry-inserted, links-inserted}
use Rattle.bl_cert.proofs.entries.enter.Goals as goal
use Rattle.bl_cert.proofs.entries.enter.Goals.{After-contains_key, Joined-branch-4}

-- the link is the entry's
asked : (c : After-contains_key) → c.link-link.result.now ≡ c.args.kept.now.link
asked c = c.link-link.ensures.value ∙ ap (λ (e : Admitted). e.link) c.entry.ensures

-- whether the entry's link is there
found : (c : After-contains_key)
    → c.contains_key.result ≡ is_some (at_link c.args.kept.now.link c.args.entries.now.entries)
found c =
    c.contains_key.ensures
    ∙ ap (λ (l : List ℤ). is_some (at_link l c.args.entries.now.entries)) (asked c)

pub returns-then-contains_key-clause-entered : goal.returns-then-contains_key-clause-entered
returns-then-contains_key-clause-entered c =
    let at = (goal.at.returns-then-contains_key-clause-entered c).After-contains_key in
    sym (kept-entry c.args.kept.now c.args.entries.now.entries c.requires c.len-rising.ensures.ordered
    (sym (found at) ∙ c.if-contains_key.true))

-- the map with the entry under a copy of its link
put : (c : Joined-branch-4)
    → c.insert.new.self.entries
    ≡ insert_entry key_order c.args.entries.now.entries c.in_ok-link.link c.args.kept.now
put c =
    c.in_ok-insert.ensures.entries
    ∙ ap (insert_entry key_order c.args.entries.now.entries c.in_ok-link.link) c.in_ok-copy.ensures

pub returns-clause-by_link : goal.returns-clause-by_link
returns-clause-by_link c =
    let at = (goal.at.returns-clause-by_link c).After-contains_key in
    rw (put c)
    (links-inserted c.in_ok-link.link c.args.kept.now c.args.entries.now.entries c.requires
    (c.in_ok-link.ensures.items ∙ asked at) (sym (found at) ∙ c.if-contains_key.false))

pub returns-clause-entered : goal.returns-clause-entered
returns-clause-entered c =
    let at = (goal.at.returns-clause-entered c).After-contains_key in
    ap listed (put c)
    ∙ entry-inserted c.in_ok-link.link c.args.kept.now c.args.entries.now.entries c.requires
    (c.in_ok-link.ensures.items ∙ asked at) (sym (found at) ∙ c.if-contains_key.false)
