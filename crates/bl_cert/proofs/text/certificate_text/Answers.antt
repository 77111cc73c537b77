use Rattle.std.proofs.Common.{◌≡◌, [], ◌++◌, map, ap, ◌∙◌, subst}
use Rattle.std.specs.Arc.{arc_value}
use Rattle.bl_terms.specs.Programs.{Program}
use Rattle.bl_cert_book.specs.Leaves.{PlacedTree}
use Rattle.bl_certline.specs.Fields.{Bytes}
use Rattle.bl_certtext.specs.Texts.{text_of}
use Rattle.bl_cert.specs.Entered.{entered}
use Rattle.bl_cert.specs.Pieces.{head_lines, list_lines, tree_lines}
use Rattle.bl_cert.specs.Placing.{PutsBook}
use Rattle.bl_cert.proofs.Certificates.{text-of-book, pieces-put}
use Rattle.bl_cert.proofs.text.certificate_text.Goals as goal

pub returns : goal.returns
returns c =
    let l = c.args.book.now.ledger in
    let b = l.book in
    let entries = entered c.in_ok-entries.entries in
    let steps = map arc_value c.in_ok-steps.steps.items in
    let head = c.put_head.new.text.items in
    let lists = c.put_lists.new.text.items in
    let text = c.put_tree.new.text.items in
    let puts : PutsBook b [] steps c.placed.new.text.items =
    subst (λ (old : Bytes). PutsBook b old steps c.placed.new.text.items) c.new-tree.ensures.items
    c.in_ok-steps.ensures in
    let t : PlacedTree = record { steps = steps; nodes = puts.nodes } in
    let first : head ≡ text_of (head_lines b) =
    c.in_ok-put_head.ensures ∙ ap (λ (old : Bytes). old ++ text_of (head_lines b)) c.new-text.ensures.items in
    let second : lists ≡ head ++ text_of (list_lines b.program entries steps) =
    c.in_ok-put_lists.ensures.text
    ∙ ap (λ (p : Program). head ++ text_of (list_lines p entries steps)) (c.deref-3.ensures ∙ c.model.ensures.value) in
    let third : text ≡ lists ++ text_of (tree_lines t.nodes) =
    c.in_ok-put_tree.ensures puts.nodes (c.deref-4.ensures.value ∙ puts.spelled) in
    text-of-book l text entries t c.model.ensures.kept c.requires c.in_ok-entries.ensures puts.placed
    c.in_ok-put_lists.ensures.counted
    (pieces-put head lists text (head_lines b) (list_lines b.program entries steps) (tree_lines t.nodes) first second
    third)
