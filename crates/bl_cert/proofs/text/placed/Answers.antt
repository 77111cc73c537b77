use Rattle.std.proofs.Common.{◌≡◌, ℕ, ◌+◌, [], length, map, ap, ◌∙◌, subst}
use Rattle.std.specs.Arc.{arc_value}
use Rattle.bl_terms.specs.Programs.{Program}
use Rattle.bl_cert_book.specs.BookCertificates.{rows_before_cuts}
use Rattle.bl_cert_book.proofs.BookLemmas.{finished_book_has_certificate}
use Rattle.bl_cert.specs.Order.{nodes_here}
use Rattle.bl_cert.specs.Placing.{PutsNodes, CannotPlace, IsTwice, PutsBook}
use Rattle.bl_cert.proofs.Certificates.{book-placed, can-place}
use Rattle.bl_cert.proofs.text.placed.Goals as goal
use Rattle.bl_cert.proofs.text.placed.Goals.{After-place_tree}

-- the rows before those of the cuts
before : (c : After-place_tree)
    → length c.rows.result.now + 1 ≡ rows_before_cuts c.args.book.now.ledger.book.program
before c =
    ap (λ rows. length rows + 1) c.rows.ensures.rows
    ∙ ap (λ (p : Program). length p.rows + 1) (c.deref.ensures ∙ c.model.ensures.value)

pub unreachable-requires : goal.unreachable-requires
unreachable-requires c =
    let l = c.args.book.now.ledger in
    let kept = c.model.ensures.kept in
    let nodes = nodes_here l.book c.args.order.now in
    let cannot =
    subst (IsTwice (CannotPlace (length c.rows.result.now + 1) nodes [])) c.in-Err-Twice.field-0-is
    c.in-Err-Twice.ensures.err in
    can-place l.book c.args.order.now
    (finished_book_has_certificate l kept.model kept.limit_least kept.run c.requires.finished) c.requires.order
    (subst (λ (n : ℕ). CannotPlace n nodes []) (before (goal.at.unreachable-requires c).After-place_tree) cannot)

pub returns-in-Ok : goal.returns-in-Ok
returns-in-Ok c =
    let b = c.args.book.now.ledger.book in
    let steps = map arc_value c.in-Ok.steps.items in
    let text = c.args.text.now.items in
    let more = c.place_tree.new.text.items in
    let done : PutsBook b text steps more =
    book-placed b c.args.order.now text steps more c.requires.order
    (subst (λ (n : ℕ). PutsNodes n (nodes_here b c.args.order.now) [] text steps more)
    (before (goal.at.returns-in-Ok c).After-place_tree) c.in-Ok.ensures.ok) in
    done
