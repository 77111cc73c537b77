-- The text of a finished book's certificate from its pieces.
use Rattle.std.proofs.Common.{◌≡◌, ℕ, ◌<◌, ◌^◌, List, [], ◌∷◌, ◌++◌, length, map, pos, refl, sym, ap, ◌∙◌, subst, arith}
use Rattle.std.proofs.Common.{append_assoc}
use Rattle.std.specs.Prelude.{Some, None, option_map, IsSome}
use Rattle.std.specs.List.{flat_map}
use Rattle.std.proofs.lemmas.Bool.{false≢true}
use Rattle.std.proofs.lemmas.Int.{ints}
use Rattle.std.proofs.lemmas.List.{append-nil}
use Rattle.std.proofs.lemmas.List.Elements.{All-weaker}
use Rattle.bl_terms.specs.Programs.{Program, InBox}
use Rattle.bl_terms.specs.Trees.{BareNode}
use Rattle.bl_cut_terms.specs.NoGoods.{CutStep}
use Rattle.bl_leaf_terms.specs.Incumbents.{Incumbent, AreIncumbents}
use Rattle.bl_book_terms.specs.Books.{Book, Ledger, IsFinished}
use Rattle.bl_book_terms.proofs.RunLemmas.{every_run_is_sound}
use Rattle.bl_core.specs.Accounts.{IsKept}
use Rattle.bl_cert_terms.specs.Certificates.{ProvedEntry, LeafProof, Certificate, IsAccepted}
use Rattle.bl_cert_book.specs.BookCertificates.{book_tree, stated_by, rows_before_cuts, certificate_with}
use Rattle.bl_cert_book.specs.BookCertificates.{certificate_of}
use Rattle.bl_cert_book.specs.Entries.{entries_of_best, entries_of_tree, with_entries}
use Rattle.bl_cert_book.specs.Leaves.{PlacedTree, placed_tree}
use Rattle.bl_cert_book.proofs.BookLemmas.{finished_book_is_accepted}
use Rattle.bl_certline.specs.declared.line.CertLine.{CertLine}
use Rattle.bl_certline.specs.declared.line.CertLine.TheVariants as lines
use Rattle.bl_certline.specs.Fields.{Bytes}
use Rattle.bl_certline.specs.Lines.{IsCount, spelling}
use Rattle.bl_certtext.specs.Texts.{line_text, text_of}
use Rattle.bl_check_terms.specs.Accepting.{IsTextOf}
use Rattle.bl_check_terms.specs.Writing.{statement_lines, sense_line, entry_lines, cut_lines, node_line, lines_of}
use Rattle.bl_check_terms.specs.Writing.{HasCounts}
use Rattle.bl_check_terms.proofs.Written.{written_is_accepted}
use Rattle.bl_cert.specs.Order.{nodes_here, IsPreorder}
use Rattle.bl_cert.specs.Pieces.{head_lines, list_lines, tree_lines, HasFewTight, AreCounted}
use Rattle.bl_cert.specs.Placing.{PutsNodes, CannotPlace, PutsBook}
use Rattle.bl_cert.specs.Written.{IsCertificateText}
use Rattle.bl_cert.proofs.Texts.{put-more}

-- ---- the tree

pub book-placed : (b : Book) (ks : List ℕ) (text : Bytes) (steps : List CutStep) (more : Bytes) → IsPreorder b ks
    → PutsNodes (rows_before_cuts b.program) (nodes_here b ks) [] text steps more → PutsBook b text steps more
book-placed b ks text steps more order puts = record {
  nodes = puts.done;
  placed =
      ap (placed_tree (rows_before_cuts b.program) [])
      (sym order.nodes ∙ sym (append-nil (nodes_here b ks)))
      ∙ (puts.placed []
      ∙ ap (λ (ns : List (BareNode LeafProof)). Some (record { steps = steps; nodes = ns })) (append-nil puts.done));
  spelled = puts.spelled;
}

-- it can be placed, since the book has a certificate
pub can-place : (b : Book) (ks : List ℕ) → IsSome (certificate_of b) → IsPreorder b ks
    → CannotPlace (rows_before_cuts b.program) (nodes_here b ks) [] → ⊥
can-place b ks has order cannot =
    let n = rows_before_cuts b.program in
    let none : placed_tree n [] (book_tree b) ≡ None =
    ap (placed_tree n []) (sym order.nodes ∙ sym (append-nil (nodes_here b ks))) ∙ cannot [] in
    false≢true (subst IsSome (ap (option_map (certificate_with b)) none) has)

-- ---- the best incumbent

pub best-inside : (l : Ledger) (f : Incumbent) → IsKept l → l.book.best ≡ Some f → InBox l.book.program f.point
best-inside l f kept is =
    let sound = every_run_is_sound l kept.model kept.limit_least kept.run in
    let are : AreIncumbents l.book.program (Some f) = subst (AreIncumbents l.book.program) is sound.incumbent in
    subst (λ (p : Program). InBox p f.point) are.0 are.1.feasible.inside

-- ---- the pieces

-- one further line
put-line : (text new : Bytes) (line : CertLine) → new ≡ text ++ (spelling line ++ 10 ∷ [])
    → new ≡ text ++ text_of (line ∷ [])
put-line text new line put = put ∙ ap (λ (t : Bytes). text ++ t) (sym (append-nil (line_text line)))

-- the head and the end of the tree around the lines of its nodes
pub tree-put : (text one two three tree : Bytes) (nodes : List (BareNode LeafProof))
    → one ≡ text ++ (spelling lines.TreeHead ++ 10 ∷ []) → two ≡ one ++ tree → tree ≡ text_of (map node_line nodes)
    → three ≡ two ++ (spelling lines.End ++ 10 ∷ []) → three ≡ text ++ text_of (tree_lines nodes)
tree-put text one two three tree nodes head more is end =
    put-more text two three (lines.TreeHead ∷ map node_line nodes) (lines.End ∷ [])
    (put-more text one two (lines.TreeHead ∷ []) (map node_line nodes) (put-line text one lines.TreeHead head)
    (more ∙ ap (λ (t : Bytes). one ++ t) is))
    (put-line two three lines.End end)

-- the pieces one after the other
pub pieces-put : (one two three : Bytes) (head list tree : List CertLine) → one ≡ text_of head
    → two ≡ one ++ text_of list → three ≡ two ++ text_of tree → three ≡ text_of (head ++ (list ++ tree))
pieces-put one two three head list tree first second third =
    put-more [] two three (head ++ list) tree (put-more [] one two head list first second) third
    ∙ ap text_of (append_assoc head list tree)

-- the pieces are the lines of the certificate
pieces-are : (b : Book) (entries : List ProvedEntry) (t : PlacedTree)
    → head_lines b ++ (list_lines b.program entries t.steps ++ tree_lines t.nodes)
    ≡ lines_of b.program
    (record { statement = stated_by b.program b.best; entries = entries; cuts = t.steps; tree = t.nodes })
pieces-are b entries t =
    ap (λ (ls : List CertLine). lines.Version (pos 2) ∷ sense_line b.program
    ∷ (statement_lines (stated_by b.program b.best) ++ lines.Entries (pos (length entries)) ∷ ls))
    (append_assoc (flat_map (entry_lines b.program) entries)
    (lines.CutCount (pos (length t.steps)) ∷ flat_map cut_lines t.steps) (tree_lines t.nodes))

-- ---- the whole

is-count : (n : ℕ) → n < 2 ^ 63 → IsCount (pos n)
is-count n few = (record { sfits = few }, omega (arith, ints))

counted : (c : Certificate) → AreCounted c.entries c.cuts → HasCounts c
counted c are = record {
  entries = is-count (length c.entries) are.few_entries;
  cuts = is-count (length c.cuts) are.few_steps;
  tight =
      All-weaker HasFewTight (λ s. IsCount (pos (length s.parts.tight)))
      (λ s few. is-count (length s.parts.tight) few) c.cuts are.tight;
}

pub text-of-book : (l : Ledger) (text : Bytes) (entries : List ProvedEntry) (t : PlacedTree) → IsKept l
    → IsFinished l.book
    → entries ≡ with_entries [] (entries_of_best l.book.best ++ entries_of_tree (book_tree l.book))
    → placed_tree (rows_before_cuts l.book.program) [] (book_tree l.book) ≡ Some t → AreCounted entries t.steps
    → text ≡ text_of (head_lines l.book ++ (list_lines l.book.program entries t.steps ++ tree_lines t.nodes))
    → IsCertificateText l.book text
text-of-book l text entries t kept finished are placed few spelled =
    let b = l.book in
    let p = b.program in
    let c = certificate_with b t in
    let of : certificate_of b ≡ Some c = ap (option_map (certificate_with b)) placed in
    let whole : text ≡ text_of (lines_of p c) =
    spelled ∙ ap text_of (pieces-are b entries t)
    ∙ ap (λ (es : List ProvedEntry). text_of (lines_of p
    (record { statement = stated_by p b.best; entries = es; cuts = t.steps; tree = t.nodes }))) are in
    let counts : HasCounts c =
    counted c (subst (λ (es : List ProvedEntry). AreCounted es t.steps) are few) in
    let holds : IsAccepted p c =
    finished_book_is_accepted l c kept.model kept.limit_least kept.run finished of in
    record {
      certificate = c;
      of = of;
      spelled = whole;
      accepted = (
        c,
        subst (λ (bytes : Bytes). IsTextOf p bytes c) (sym whole)
            (written_is_accepted p c kept.model holds counts),
        refl,
      );
    }
