-- Entries in a map by their links, and in the order of these.
use Rattle.std.proofs.Common.{◌≡◌, true, false, List, [], ◌∷◌, ◌++◌, map, refl, sym, ap, ◌∙◌}
use Rattle.std.proofs.Common.{true≢false, append_assoc}
use Rattle.std.specs.Prelude.{ℤ, Option, Some, is_some, cond}
use Rattle.std.specs.BTreeMap.{insert_entry}
use Rattle.std.specs.Cmp.Lexicographic.{slice_cmp}
use Rattle.std.specs.List.{AllByRecursion}
use Rattle.std.specs.List.Sorted.{IsStrictlySortedBy}
use Rattle.std.specs.Map.{lookup, keys_of, values_of}
use Rattle.std.specs.Ordering.{int_cmp, is_eq, match_ordering}
use Rattle.std.specs.declared.cmp.Ordering.{Ordering}
use Rattle.std.specs.declared.cmp.Ordering.TheVariants.{Less, Equal, Greater}
use Rattle.std.specs.declared.vec.Vec.{Vec}
use Rattle.std.proofs.lemmas.Cmp.{lists_total, int_cmp_total}
use Rattle.std.proofs.lemmas.Map.Keys.{sorted_head, sorted_tail}
use Rattle.bl_terms.specs.Trees.{BareNode, Leaf, Split}
use Rattle.bl_fproof.specs.Entries.{Admitted}
use Rattle.bl_leaf_terms.specs.Leaves.{ClosedLeaf}
use Rattle.bl_cert_terms.specs.Certificates.{ProvedEntry}
use Rattle.bl_cert_book.specs.Entries.{proved_entry, with_entry, with_entries, entries_of_leaf, entries_of_tree}
use Rattle.bl_cert.specs.Entered.{AreByLink}

-- ---- the map

abbrev link_order : List ℤ → List ℤ → Ordering
link_order = slice_cmp int_cmp

abbrev pub key_order : {Z : Type 0} → Vec ℤ Z → Vec ℤ Z → Ordering
key_order x y = link_order x.items y.items

-- what the map has at a link
abbrev pub at_link : {Z : Type 0} → List ℤ → List (Vec ℤ Z × Admitted) → Option Admitted
at_link link es = lookup (λ k. is_eq (slice_cmp int_cmp link k.items)) es

abbrev pub listed : {Z : Type 0} → List (Vec ℤ Z × Admitted) → List ProvedEntry
listed es = map proved_entry (values_of es)

-- no later key is at a link before the first
none-later : {Z : Type 0} (link : List ℤ) (k : Vec ℤ Z) (es : List (Vec ℤ Z × Admitted))
    → link_order link k.items ≡ Less → AllByRecursion (λ y. key_order k y ≡ Less) (keys_of es)
    → is_some (at_link link es) ≡ false
none-later link k [] before later = refl
none-later link k ((q, x) ∷ es) before later =
    let apart : link_order link q.items ≡ Less =
    (lists_total int_cmp_total).trans link k.items q.items before later.0 in
    ap (λ (o : Ordering). is_some (cond (is_eq o) (Some x) (at_link link es))) apart
    ∙ none-later link k es before later.1

-- an entry of a link that is there changes nothing
pub kept-entry : {Z : Type 0} (e : Admitted) (es : List (Vec ℤ Z × Admitted)) → AreByLink es
    → IsStrictlySortedBy key_order (keys_of es) → is_some (at_link e.link es) ≡ true
    → with_entry (listed es) (proved_entry e) ≡ listed es
kept-entry e [] by-link sorted some = absurd (true≢false (sym some))
kept-entry {Z = Z} e ((k, x) ∷ es) by-link sorted some =
    by (link_order e.link k.items) refl
    (ap (link_order e.link) (sym by-link.0)) some
    (kept-entry e es by-link.1 (sorted_tail key_order k (keys_of es) sorted))
  where
    by : (o : Ordering) → link_order e.link k.items ≡ o → link_order e.link x.link ≡ link_order e.link k.items
        → is_some (cond (is_eq (link_order e.link k.items)) (Some x) (at_link e.link es)) ≡ true
        → (is_some (at_link e.link es) ≡ true → with_entry (listed es) (proved_entry e) ≡ listed es)
        → match_ordering (link_order e.link x.link) (proved_entry e ∷ proved_entry x ∷ listed es)
        (proved_entry x ∷ listed es) (proved_entry x ∷ with_entry (listed es) (proved_entry e))
        ≡ proved_entry x ∷ listed es
    by Less is same some later =
        let at : is_some (at_link e.link es) ≡ true =
        ap (λ (o : Ordering). is_some (cond (is_eq o) (Some x) (at_link e.link es))) (sym is) ∙ some in
        let none = none-later e.link k es is (sorted_head key_order k (keys_of es) sorted) in
        absurd (true≢false (sym at ∙ none))
    by Equal is same some later =
        ap (λ (o : Ordering). match_ordering o (proved_entry e ∷ proved_entry x ∷ listed es)
        (proved_entry x ∷ listed es) (proved_entry x ∷ with_entry (listed es) (proved_entry e))) (same ∙ is)
    by Greater is same some later =
        ap (λ (o : Ordering). match_ordering o (proved_entry e ∷ proved_entry x ∷ listed es)
        (proved_entry x ∷ listed es) (proved_entry x ∷ with_entry (listed es) (proved_entry e))) (same ∙ is)
        ∙ ap (λ (more : List ProvedEntry). proved_entry x ∷ more)
        (later (ap (λ (o : Ordering). is_some (cond (is_eq o) (Some x) (at_link e.link es))) (sym is) ∙ some))

-- a further one goes before those of later links
pub entry-inserted : {Z : Type 0} (k : Vec ℤ Z) (e : Admitted) (es : List (Vec ℤ Z × Admitted)) → AreByLink es
    → k.items ≡ e.link → is_some (at_link e.link es) ≡ false
    → listed (insert_entry key_order es k e) ≡ with_entry (listed es) (proved_entry e)
entry-inserted k e [] by-link same none = refl
entry-inserted {Z = Z} k e ((q, x) ∷ es) by-link same none =
    by (key_order k q) refl
    (ap (link_order e.link) (sym by-link.0) ∙ ap (λ (l : List ℤ). link_order l q.items) (sym same))
    (ap (λ (l : List ℤ). is_some (cond (is_eq (link_order l q.items)) (Some x) (at_link e.link es))) same ∙ none)
    (entry-inserted k e es by-link.1 same)
  where
    by : (o : Ordering) → key_order k q ≡ o → link_order e.link x.link ≡ key_order k q
        → is_some (cond (is_eq (key_order k q)) (Some x) (at_link e.link es)) ≡ false
        → (is_some (at_link e.link es) ≡ false
        → listed (insert_entry key_order es k e) ≡ with_entry (listed es) (proved_entry e))
        → listed (match_ordering (key_order k q) ((k, e) ∷ (q, x) ∷ es) ((q, e) ∷ es)
        ((q, x) ∷ insert_entry key_order es k e))
        ≡ match_ordering (link_order e.link x.link) (proved_entry e ∷ proved_entry x ∷ listed es)
        (proved_entry x ∷ listed es) (proved_entry x ∷ with_entry (listed es) (proved_entry e))
    by Less is alike none later = rw (alike, is) refl
    by Equal is alike none later =
        absurd (true≢false
        (ap (λ (o : Ordering). is_some (cond (is_eq o) (Some x) (at_link e.link es))) (sym is) ∙ none))
    by Greater is alike none later =
        let rest =
        later (ap (λ (o : Ordering). is_some (cond (is_eq o) (Some x) (at_link e.link es))) (sym is) ∙ none) in
        rw (alike, is) (ap (λ (more : List ProvedEntry). proved_entry x ∷ more) rest)

pub links-inserted : {Z : Type 0} (k : Vec ℤ Z) (e : Admitted) (es : List (Vec ℤ Z × Admitted)) → AreByLink es
    → k.items ≡ e.link → is_some (at_link e.link es) ≡ false → AreByLink (insert_entry key_order es k e)
links-inserted k e [] by-link same none = (same, tt)
links-inserted {Z = Z} k e ((q, x) ∷ es) by-link same none =
    by (key_order k q) refl
    (ap (λ (l : List ℤ). is_some (cond (is_eq (link_order l q.items)) (Some x) (at_link e.link es))) same ∙ none)
    (links-inserted k e es by-link.1 same)
  where
    by : (o : Ordering) → key_order k q ≡ o
        → is_some (cond (is_eq (key_order k q)) (Some x) (at_link e.link es)) ≡ false
        → (is_some (at_link e.link es) ≡ false → AreByLink (insert_entry key_order es k e))
        → AreByLink (match_ordering (key_order k q) ((k, e) ∷ (q, x) ∷ es) ((q, e) ∷ es)
        ((q, x) ∷ insert_entry key_order es k e))
    by Less is none later = rw is (same, by-link)
    by Equal is none later =
        absurd (true≢false
        (ap (λ (o : Ordering). is_some (cond (is_eq o) (Some x) (at_link e.link es))) (sym is) ∙ none))
    by Greater is none later =
        rw is (
          by-link.0,
          later (ap (λ (o : Ordering). is_some (cond (is_eq o) (Some x) (at_link e.link es))) (sym is) ∙ none),
        )

-- ---- the entries of nodes

pub tree-entries-append : (ns ms : List (BareNode ClosedLeaf))
    → entries_of_tree (ns ++ ms) ≡ entries_of_tree ns ++ entries_of_tree ms
tree-entries-append [] ms = refl
tree-entries-append (Split j v s ∷ ns) ms = tree-entries-append ns ms
tree-entries-append (Leaf leaf ∷ ns) ms =
    ap (λ (es : List Admitted). entries_of_leaf leaf.evidence ++ es) (tree-entries-append ns ms)
    ∙ sym (append_assoc (entries_of_leaf leaf.evidence) (entries_of_tree ns) (entries_of_tree ms))

pub with-entries-append : (entries : List ProvedEntry) (es more : List Admitted)
    → with_entries entries (es ++ more) ≡ with_entries (with_entries entries es) more
with-entries-append entries [] more = refl
with-entries-append entries (e ∷ es) more = with-entries-append (with_entry entries (proved_entry e)) es more
