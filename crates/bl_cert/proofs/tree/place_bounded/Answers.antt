use Rattle.std.proofs.Common.{◌≡◌, ℕ, Bool, List, [], ◌∷◌, ◌++◌, map, true, sym, ap, ◌∙◌}
use Rattle.std.specs.Prelude.{ℤ, is_some}
use Rattle.std.specs.Arc.{arc_value}
use Rattle.bl_terms.specs.Trees.{Leaf}
use Rattle.bl_cert_book.specs.Leaves.{are_rising, cited_pairs}
use Rattle.bl_certtext.specs.Texts.{text_of}
use Rattle.bl_check_terms.specs.Writing.{node_line}
use Rattle.bl_cert.proofs.Placed.{citing, placed-bounded}
use Rattle.bl_cert.proofs.tree.place_bounded.Goals as goal

pub returns-clause-ok : goal.returns-clause-ok
returns-clause-ok c =
    let rows = c.args.rows in
    let proof = c.args.proof.now in
    let text = c.args.text.now.items in
    let cited = c.in_ok-cited.cited.items in
    let are : cited ≡ cited_pairs rows proof c.in_ok-places.places.items =
    c.in_ok-cited.ensures ∙ ap (cited_pairs rows proof) c.deref.ensures.value in
    let rising : are_rising (map (λ x. x.0) cited) ≡ true =
    sym (c.are_rising.ensures ∙ ap (λ (ps : List (ℕ × ℤ)). are_rising (map (λ x. x.0) ps)) c.deref-2.ensures.value)
    ∙ c.if-not-are_rising.false in
    record {
      leaf = citing rows proof (is_some c.args.value_row.now) cited;
      placed =
          placed-bounded rows proof c.args.value_row.now c.args.cuts.now (map arc_value c.args.steps.now.items)
          (map arc_value c.adopt_all.new.steps.items) c.in_ok-places.places.items cited c.in_ok-places.ensures.ok are
          rising;
      spelled =
          c.in_ok-put_close.ensures
          ∙ (ap (λ (ps : List (ℕ × ℤ)). text ++ text_of (node_line (Leaf (citing rows proof c.is_some.result ps)) ∷ []))
          c.deref-3.ensures.value
          ∙ ap (λ (uses : Bool). text ++ text_of (node_line (Leaf (citing rows proof uses cited)) ∷ []))
          c.is_some.ensures);
    }
