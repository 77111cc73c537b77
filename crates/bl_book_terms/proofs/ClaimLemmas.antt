-- The best value at the last claim of a node that is claimed.
use Rattle.std.proofs.Common.{◌≡◌, ℕ, zero, suc, ◌<◌, refl, sym, ◌∙◌, ap, subst, arith, inl, inr}
use Rattle.std.proofs.Common.{cond, List, [], ◌∷◌, ◌++◌, length}
use Rattle.std.specs.Prelude.{ℤ, Option, Some, None, nat_eq}
use Rattle.std.proofs.lemmas.Bool.{cases_eq, cases_lt}
use Rattle.std.proofs.lemmas.List.{length-append}
use Rattle.std.proofs.lemmas.Option.{same_Some}
use Rattle.bl_terms.specs.Trees.{low_half, high_half}
use Rattle.bl_book_terms.specs.Books.{Status, Ready, Claimed, Divided, Closed, Node, ready_node, node_at, with_status}
use Rattle.bl_book_terms.specs.Books.{Book, best_value, opening, after, Leads, claim_from}
use Rattle.bl_book_terms.specs.Books.{Event, Claim, Back, Split, Close, Offer}
use Rattle.bl_book_terms.specs.Laws.{ClaimIsLast}
use Rattle.bl_book_terms.proofs.NodeLemmas.{same_length, other_status, new_status, old_node, more_node, next_node}

-- ---- the claim that a status tells

-- the best value at the claim of a claimed node
claim_in : Status → Option (Option ℤ)
claim_in Ready = None
claim_in (Claimed w u) = Some u
claim_in (Divided h licence low) = None
claim_in (Closed leaf) = None

-- what is found of node k is so where it is claimed
abbrev IsFound : List Node → ℕ → Option (Option ℤ) → Type 0
IsFound nodes k found = (w : ℕ) (u : Option ℤ) → k < length nodes → (node_at nodes k).status ≡ Claimed w u
    → found ≡ Some u

not_claimed : (s : Status) (w : ℕ) (u : Option ℤ) → claim_in s ≡ None → s ≡ Claimed w u → ⊥
unfolding claim_in
not_claimed Ready w u none is = let e = ap claim_in is in absurd (no_some e)
  where
    no_some : None ≡ Some u → ⊥
    no_some e = grind arith
not_claimed (Claimed w' u') w u none is = absurd (grind arith)
not_claimed (Divided h licence low) w u none is = let e = ap claim_in is in absurd (grind arith)
not_claimed (Closed leaf) w u none is = let e = ap claim_in is in absurd (grind arith)

claimed_value : (w w' : ℕ) (u u' : Option ℤ) → Claimed w u ≡ Claimed w' u' → u ≡ u'
unfolding claim_in
claimed_value w w' u u' e = same_Some u u' (ap claim_in e)

-- a node that gets a status without a claim isn't claimed, and what is found of another stays so
found_other : (nodes : List Node) (j k : ℕ) (s : Status) (found : Option (Option ℤ)) → claim_in s ≡ None
    → IsFound nodes k found → IsFound (with_status nodes j s) k found
found_other nodes j k s found none is w u at has =
    let there : k < length nodes = rw (sym (same_length nodes j s)) at in
    elim (cases_eq k j) [
      | inl same ↦
          let P : ℕ → Type 0 = λ i. (node_at (with_status nodes j s) i).status ≡ Claimed w u in
          absurd (not_claimed s w u none
          (sym (new_status nodes j s (omega (arith, same, there))) ∙ subst P same has))
      | inr other ↦ is w u there (sym (other_status nodes j s k other) ∙ has)
    ]

found_claim : (nodes : List Node) (j k w' : ℕ) (v : Option ℤ) (found : Option (Option ℤ)) → IsFound nodes k found
    → IsFound (with_status nodes j (Claimed w' v)) k (cond (nat_eq j k) (Some v) found)
found_claim nodes j k w' v found is w u at has =
    let there : k < length nodes = rw (sym (same_length nodes j (Claimed w' v))) at in
    elim (cases_eq k j) [
      | inl same ↦
          let P : ℕ → Type 0 = λ i. (node_at (with_status nodes j (Claimed w' v)) i).status ≡ Claimed w u in
          let e = sym (new_status nodes j (Claimed w' v) (omega (arith, same, there))) ∙ subst P same has in
          let value = claimed_value w' w v u e in
          grind (arith, same, value)
      | inr other ↦
          let old = is w u there (sym (other_status nodes j (Claimed w' v) k other) ∙ has) in
          grind (arith, other, old)
    ]

-- further nodes that are ready aren't claimed
found_more : (nodes : List Node) (m m' : Node) (k : ℕ) (found : Option (Option ℤ)) → m.status ≡ Ready
    → m'.status ≡ Ready
    → IsFound nodes k found → IsFound (nodes ++ m ∷ m' ∷ []) k found
unfolding claim_in
found_more nodes m m' k found ready ready' is w u at has =
    let all = length-append nodes (m ∷ m' ∷ []) in
    let P : Node → Type 0 = λ n. n.status ≡ Claimed w u in
    elim (cases_lt k (length nodes)) [
      | inl old ↦ is w u old (subst P (old_node nodes (m ∷ m' ∷ []) k old) has)
      | inr new ↦ elim (cases_eq k (length nodes)) [
        | inl same ↦
            absurd (not_claimed Ready w u refl
            (sym ready ∙ subst P (more_node nodes m (m' ∷ []) k (sym same)) has))
        | inr other ↦
            let Q : ℕ → Type 0 = λ i. (node_at (nodes ++ m ∷ m' ∷ []) i).status ≡ Claimed w u in
            let next : k ≡ suc (length nodes) = omega (arith, all, at, new, other) in
            absurd (not_claimed Ready w u refl
            (sym ready' ∙ subst P (next_node nodes m m' [] (length nodes) refl) (subst Q next has)))
      ]
    ]

-- ---- runs

found_last : (b b' : Book) (events : List Event) (k : ℕ) (found : Option (Option ℤ)) → Leads b events b'
    → IsFound b.nodes k found → IsFound b'.nodes k (claim_from b events k found)
unfolding claim_in
found_last b b' [] k found leads is =
    let P : Book → Type 0 = λ x. IsFound x.nodes k found in subst P leads is
found_last b b' (Claim w j ∷ events) k found leads is =
    found_last (after b (Claim w j)) b' events k (cond (nat_eq j k) (Some (best_value b)) found) leads.1
    (found_claim b.nodes j k w (best_value b) found is)
found_last b b' (Back w j ∷ events) k found leads is =
    found_last (after b (Back w j)) b' events k found leads.1 (found_other b.nodes j k Ready found refl is)
found_last b b' (Split w j h licence cuts ∷ events) k found leads is =
    let divided = Divided h licence (length b.nodes) in
    found_last (after b (Split w j h licence cuts)) b' events k found leads.1
    (found_more (with_status b.nodes j divided) (ready_node (low_half h.area h.column h.at) cuts)
    (ready_node (high_half h.area h.column h.at) cuts) k found refl refl
    (found_other b.nodes j k divided found refl is))
found_last b b' (Close w j leaf ∷ events) k found leads is =
    found_last (after b (Close w j leaf)) b' events k found leads.1
    (found_other b.nodes j k (Closed leaf) found refl is)
found_last b b' (Offer w f ∷ events) k found leads is = found_last (after b (Offer w f)) b' events k found leads.1 is

pub claim_is_last : ClaimIsLast
unfolding claim_in
claim_is_last l k w u run claimed =
    found_last (opening l.book.program l.book.workers l.book.limit) l.book l.journal k None run
    (λ w' u' at has. absurd (not_claimed
    (node_at (opening l.book.program l.book.workers l.book.limit).nodes k).status w' u'
    (ready_alone k at) has)) w u claimed.there claimed.status
  where
    ready_alone : (i : ℕ) → i < 1
        → claim_in (node_at (opening l.book.program l.book.workers l.book.limit).nodes i).status ≡ None
    ready_alone zero at = refl
    ready_alone (suc i) at = absurd (omega (arith, at))
