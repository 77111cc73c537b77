use Rattle.std.proofs.Common.{◌≡◌, ℕ, ◌<◌, List, [], ◌∷◌, ◌++◌, reverse, sym, ap, ◌∙◌, subst, arith}
use Rattle.std.proofs.lemmas.List.{nil_from_length, reverse-append}
use Rattle.bl_book_terms.specs.Laws.{IsSound}
use Rattle.bl_book_terms.proofs.RunLemmas.{every_run_is_sound}
use Rattle.bl_core.specs.Accounts.{IsKept, KeptBook}
use Rattle.bl_cert.specs.Order.{halves_of}
use Rattle.bl_cert.proofs.Preorder.{IsOnTheWay, way-begins, way-on, way-ends, to_come, fewer-to_come}
use Rattle.bl_cert.proofs.order.preorder.Goals as goal
use Rattle.bl_cert.proofs.order.preorder.Goals.{In_ok-push-2}

sound : (b : KeptBook) → IsKept b.ledger → IsSound b.ledger.book
sound b kept = every_run_is_sound b.ledger kept.model kept.limit_least kept.run

pub loop-node-init : goal.loop-node-init
loop-node-init c =
    let b = c.args.book.now.ledger.book in
    let stack = c.push.new.self.items in
    let first : reverse stack ≡ 0 ∷ [] =
    ap reverse (c.in_ok-push.ensures.items ∙ ap (λ (ks : List ℕ). ks ++ 0 ∷ []) c.new-stack.ensures.items) in
    subst (λ (ks : List ℕ). IsOnTheWay b ks (reverse stack)) (sym c.in_ok-order.ensures.items)
    (subst (IsOnTheWay b []) (sym first) (way-begins b (sound c.args.book.now c.model-kept.ensures.kept)))

-- the node that was taken stood in front
taken : (c : In_ok-push-2) → reverse c.loop-node.stack.items ≡ c.in-Some.node ∷ reverse c.pop.new.self.items
taken c =
    ap reverse c.in-Some.ensures.items ∙ reverse-append c.pop.new.self.items (c.in-Some.node ∷ [])

way : (c : In_ok-push-2)
    → IsOnTheWay c.args.book.now.ledger.book c.loop-node.order.items (c.in-Some.node ∷ reverse c.pop.new.self.items)
way c = subst (IsOnTheWay c.args.book.now.ledger.book c.loop-node.order.items) (taken c) c.loop-node.invariant

pub loop-node-preserved : goal.loop-node-preserved
loop-node-preserved c =
    let b = c.args.book.now.ledger.book in
    let order = c.loop-node.order.items in
    let k = c.in-Some.node in
    let rest = reverse c.pop.new.self.items in
    subst (λ (ks : List ℕ). IsOnTheWay b ks (reverse c.push_halves.new.stack.items)) (sym c.in_ok-push-2.ensures.items)
    (subst (IsOnTheWay b (order ++ k ∷ [])) (sym c.in_ok-push_halves.ensures)
    (way-on b order rest k (sound c.args.book.now c.model-kept.ensures.kept) (way c)))

pub loop-node-smaller : goal.loop-node-smaller
loop-node-smaller c =
    let b = c.args.book.now.ledger.book in
    let k = c.in-Some.node in
    let rest = reverse c.pop.new.self.items in
    subst (λ (ks : List ℕ). to_come b ks < to_come b (reverse c.loop-node.stack.items))
    (sym c.in_ok-push_halves.ensures)
    (subst (λ (ks : List ℕ). to_come b (halves_of b k ++ rest) < to_come b ks) (sym (taken c))
    (fewer-to_come b k rest (sound c.args.book.now c.model-kept.ensures.kept) c.requires (way c).ahead.0))

pub returns : goal.returns
returns c =
    let b = c.args.book.now.ledger.book in
    let order = c.loop-node.order.items in
    let stack = c.loop-node.stack in
    let none : stack.items ≡ [] =
    nil_from_length stack.items (omega (arith, stack.ok.0, c.in_default.ensures.cases.0)) in
    way-ends b order (subst (λ (ks : List ℕ). IsOnTheWay b order (reverse ks)) none c.loop-node.invariant)
