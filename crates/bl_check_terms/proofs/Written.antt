-- The text of an accepted certificate is accepted.
use Rattle.std.proofs.Common.{◌≡◌, ◌≤◌, refl, sym, subst, arith, List, [], ◌∷◌, ◌++◌, length, inl, inr}
use Rattle.std.proofs.Common.{⊎_elim}
use Rattle.std.specs.Prelude.{ℤ, pos, negsuc, None, map}
use Rattle.std.specs.Int.{w64}
use Rattle.std.specs.List.{flat_map}
use Rattle.std.specs.Ordering.{int_eq}
use Rattle.std.proofs.lemmas.Int.{ints}
use Rattle.std.proofs.lemmas.List.{append-nil}
use Rattle.bl_whole.specs.Within.{IsWithin, AreWithin}
use Rattle.bl_whole.proofs.WithinLemmas.{fits_from_within, within_dot, within_more, within_product}
use Rattle.bl_terms.specs.Programs.{Program, InBox, IsSense, cost_at, root, value_at}
use Rattle.bl_model.specs.Build.{leader_sense_of}
use Rattle.bl_model.specs.View.{IsModel}
use Rattle.bl_model.proofs.BoxLemmas.{root_box}
use Rattle.bl_model.proofs.PointLemmas.{InBox-within}
use Rattle.bl_cert_terms.specs.declared.stated.Statement.{Statement}
use Rattle.bl_cert_terms.specs.declared.stated.Statement.TheVariants.{Optimal, Infeasible}
use Rattle.bl_cert_terms.specs.Certificates.{ProvedEntry, Certificate, HasShownPoint, IsAccepted}
use Rattle.bl_certline.specs.declared.line.CertLine.{CertLine}
use Rattle.bl_certline.specs.declared.line.CertLine.TheVariants as lines
use Rattle.bl_certline.specs.Fields.{IsWhole}
use Rattle.bl_certtext.specs.declared.part.Part.{Part}
use Rattle.bl_certtext.specs.declared.part.Part.TheVariants as parts
use Rattle.bl_certtext.specs.Grammar.{cuts_from, entries_from}
use Rattle.bl_certtext.specs.Texts.{start}
use Rattle.bl_check_terms.specs.Reading.{nothing}
use Rattle.bl_check_terms.specs.Rules.{HasFollower}
use Rattle.bl_check_terms.specs.Writing.{HasCounts, WrittenIsAccepted, cut_lines, entry_lines, lines_of, node_line}
use Rattle.bl_check_terms.specs.Writing.{sense_line, statement_lines}
use Rattle.bl_check_terms.specs.Accepting.{Reads}
use Rattle.bl_check_terms.proofs.Pairs.{small_whole}
use Rattle.bl_check_terms.proofs.Readings.{all_rules, reads_first, reads_on}
use Rattle.bl_check_terms.proofs.WrittenCuts.{cuts_written, point_whole}
use Rattle.bl_check_terms.proofs.WrittenEntries.{FirstAbove, entries_written}
use Rattle.bl_check_terms.proofs.WrittenTree.{tree_written}

-- ---- what is stated

value_whole : (p : Program) (z : List ℤ) → IsModel p → InBox p z → IsWhole (value_at p z)
value_whole p z g inside =
    let costs : AreWithin 10000000 p.cost = record { each = λ k _. g.limits.costs k } in
    let few : length p.cost ≤ 120 = omega (arith, g.sound.cost_columns, g.limits.few_columns) in
    let cost : IsWithin 12000000000000000 (cost_at p z) =
    within_more (within_dot costs (InBox-within p z g inside)) (omega (arith, few)) in
    let sense : IsWithin 1 p.leader_sense =
    ⊎_elim (λ e. record { magnitude = rw e (omega arith) }) (λ e. record { magnitude = rw e (omega arith) })
    g.sound.leader_sign in
    fits_from_within w64 (within_product sense cost) (omega arith)

sense_is : (s : ℤ) → IsSense s → s ≡ leader_sense_of (int_eq s (negsuc 0))
sense_is s (inl e) = subst (λ (x : ℤ). x ≡ leader_sense_of (int_eq x (negsuc 0))) (sym e) refl
sense_is s (inr e) = subst (λ (x : ℤ). x ≡ leader_sense_of (int_eq x (negsuc 0))) (sym e) refl

-- nothing but this is said
abbrev stated : Statement → Certificate
stated x = record { statement = x; entries = []; cuts = []; tree = [] }

statement_written : (p : Program) (entries : List ProvedEntry) (x : Statement) (left : List Part) (d : Certificate)
    (ls : List CertLine) → IsModel p → HasShownPoint p entries x
    → Reads p (parts.EntryCount ∷ []) (stated x) ls left d
    → Reads p (parts.Statement ∷ []) nothing (statement_lines x ++ ls) left d
statement_written p entries (Optimal z v) left d ls g h k =
    let whole : IsWhole v = subst IsWhole h.value (value_whole p z g h.inside) in
    let c = stated (Optimal [] v) in
    reads_first p parts.Statement [] left nothing c d (lines.StatesOptimal v) (lines.Point z ∷ ls)
    (record {
      formed = record { well_formed = whole; form = tt };
      placed = record { begins = tt; rising = tt };
      rules = all_rules p nothing parts.Statement (lines.StatesOptimal v) tt tt tt tt tt tt tt tt tt tt;
    })
    refl
    (reads_first p parts.Point (parts.EntryCount ∷ []) left c (stated (Optimal z v)) d (lines.Point z) ls
    (record {
      formed = record { well_formed = point_whole p z g h.inside; form = h.inside.columns };
      placed = record { begins = h.inside; rising = tt };
      rules = all_rules p c parts.Point (lines.Point z) tt (h.rows, h.value) tt tt tt tt tt tt tt tt;
    })
    refl k)
statement_written p entries Infeasible left d ls g h k =
    reads_first p parts.Statement [] left nothing (stated Infeasible) d lines.StatesInfeasible ls
    (record {
      formed = record { well_formed = tt; form = tt };
      placed = record { begins = tt; rising = tt };
      rules = all_rules p nothing parts.Statement lines.StatesInfeasible tt tt tt tt tt tt tt tt tt tt;
    })
    refl k

has_follower : (p : Program) (entries : List ProvedEntry) (x : Statement) → HasShownPoint p entries x
    → HasFollower p entries x
has_follower p entries (Optimal z v) h = h.follower
has_follower p entries Infeasible h = tt

first_entry : (entries : List ProvedEntry) → FirstAbove None entries
first_entry [] = tt
first_entry (e ∷ entries) = tt

-- ---- the lines behind what is stated, from the last on

module _ (p : Program) (c : Certificate) (g : IsModel p) (h : IsAccepted p c) (counts : HasCounts c) where
  end_written : Reads p (parts.End ∷ []) c (lines.End ∷ []) [] c
  end_written = (
    record {
      formed = record { well_formed = tt; form = tt };
      placed = record { begins = tt; rising = tt };
      rules = all_rules p c parts.End lines.End tt tt tt tt tt tt tt tt tt tt;
    },
    (refl, refl),
  )

  head_written : Reads p (parts.Head (length c.cuts) ∷ []) (record c { tree = [] })
      (lines.TreeHead ∷ (map node_line c.tree ++ lines.End ∷ [])) [] c
  head_written =
      let count = length c.cuts in
      let d : Certificate = record c { tree = [] } in
      let nodes = tree_written p c c.tree (root p ∷ []) [] g counts.cuts.0 (root_box p g, tt) h.tree in
      reads_first p (parts.Head count) [] [] d d c lines.TreeHead (map node_line c.tree ++ lines.End ∷ [])
      (record {
        formed = record { well_formed = tt; form = tt };
        placed = record { begins = tt; rising = tt };
        rules = all_rules p d (parts.Head count) lines.TreeHead tt tt tt tt tt tt tt tt tt tt;
      })
      refl
      (reads_on p (parts.Tree (root p) count ∷ parts.End ∷ []) (parts.End ∷ []) [] d c c (map node_line c.tree)
      (lines.End ∷ []) nodes end_written)

  cut_count_written : Reads p (parts.CutCount ∷ []) (record c { cuts = []; tree = [] })
      (lines.CutCount (pos (length c.cuts))
      ∷ (flat_map cut_lines c.cuts ++ lines.TreeHead ∷ (map node_line c.tree ++ lines.End ∷ []))) [] c
  cut_count_written =
      let count = length c.cuts in
      let d : Certificate = record c { cuts = []; tree = [] } in
      let tail = lines.TreeHead ∷ (map node_line c.tree ++ lines.End ∷ []) in
      let all = reads_on p (cuts_from 0 count) (parts.Head count ∷ []) [] d (record c { tree = [] }) c
      (flat_map cut_lines c.cuts) tail
      (cuts_written p d count [] c.cuts g (omega arith) counts.cuts.0 counts.tight h.cuts) head_written in
      let there : Reads p (cuts_from 0 count ++ []) d (flat_map cut_lines c.cuts ++ tail) [] c =
      subst (λ (ps : List Part). Reads p ps d (flat_map cut_lines c.cuts ++ tail) [] c)
      (sym (append-nil (cuts_from 0 count))) all in
      reads_first p parts.CutCount [] [] d d c (lines.CutCount (pos count)) (flat_map cut_lines c.cuts ++ tail)
      (record {
        formed = record { well_formed = counts.cuts; form = tt };
        placed = record { begins = tt; rising = tt };
        rules = all_rules p d parts.CutCount (lines.CutCount (pos count)) tt tt tt
            (has_follower p c.entries c.statement h.point) tt tt tt tt tt tt;
      })
      refl there

  entry_count_written : Reads p (parts.EntryCount ∷ []) (stated c.statement)
      (lines.Entries (pos (length c.entries)) ∷ (flat_map (entry_lines p) c.entries
      ++ lines.CutCount (pos (length c.cuts))
      ∷ (flat_map cut_lines c.cuts ++ lines.TreeHead ∷ (map node_line c.tree ++ lines.End ∷ [])))) [] c
  entry_count_written =
      let count = length c.entries in
      let d = stated c.statement in
      let from = entries_from count None in
      let tail = lines.CutCount (pos (length c.cuts))
      ∷ (flat_map cut_lines c.cuts ++ lines.TreeHead ∷ (map node_line c.tree ++ lines.End ∷ [])) in
      let all = reads_on p from (parts.CutCount ∷ []) [] d (record c { cuts = []; tree = [] }) c
      (flat_map (entry_lines p) c.entries) tail
      (entries_written p d [] c.entries None g (first_entry c.entries) h.rising h.entries) cut_count_written in
      let there : Reads p (from ++ []) d (flat_map (entry_lines p) c.entries ++ tail) [] c =
      subst (λ (ps : List Part). Reads p ps d (flat_map (entry_lines p) c.entries ++ tail) [] c)
      (sym (append-nil from)) all in
      reads_first p parts.EntryCount [] [] d d c (lines.Entries (pos count))
      (flat_map (entry_lines p) c.entries ++ tail)
      (record {
        formed = record { well_formed = counts.entries; form = tt };
        placed = record { begins = tt; rising = tt };
        rules = all_rules p d parts.EntryCount (lines.Entries (pos count)) tt tt tt tt tt tt tt tt tt tt;
      })
      refl there

  lines_read : Reads p start nothing (lines_of p c) [] c
  lines_read =
      let tail = lines.Entries (pos (length c.entries)) ∷ (flat_map (entry_lines p) c.entries
      ++ lines.CutCount (pos (length c.cuts))
      ∷ (flat_map cut_lines c.cuts ++ lines.TreeHead ∷ (map node_line c.tree ++ lines.End ∷ []))) in
      let said = statement_written p c.entries c.statement [] c tail g h.point entry_count_written in
      reads_first p parts.Version [] [] nothing nothing c (lines.Version (pos 2))
      (sense_line p ∷ (statement_lines c.statement ++ tail))
      (record {
        formed = record { well_formed = small_whole 2 (omega arith); form = inr refl };
        placed = record { begins = inr refl; rising = tt };
        rules = all_rules p nothing parts.Version (lines.Version (pos 2)) (λ e. absurd (omega (arith, ints))) tt tt tt
            tt tt tt tt tt tt;
      })
      refl
      (reads_first p parts.Sense (parts.Statement ∷ []) [] nothing nothing c (sense_line p)
      (statement_lines c.statement ++ tail)
      (record {
        formed = record { well_formed = tt; form = tt };
        placed = record { begins = tt; rising = tt };
        rules = all_rules p nothing parts.Sense (sense_line p) (sense_is p.leader_sense g.sound.leader_sign) tt tt tt
            tt tt tt tt tt tt;
      })
      refl said)

pub written_is_accepted : WrittenIsAccepted
written_is_accepted p c g h counts =
    record { lines = lines_of p c; reads = lines_read p c g h counts; spelled = refl }
