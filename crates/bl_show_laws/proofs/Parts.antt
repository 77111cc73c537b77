-- The parts of a text of MPS lines, ENDATA, lines with keys and a line of linking columns.
use Rattle.std.proofs.Common.{◌≡◌, ℕ, ◌≤◌, Bool, true, false, cond, List, [], ◌∷◌, ◌++◌, map, length, refl}
use Rattle.std.proofs.Common.{sym, ap, ◌∙◌, arith, codes, pos, append_assoc}
use Rattle.std.specs.Fmt.{decimal}
use Rattle.std.specs.List.{flat_map, AllByRecursion}
use Rattle.std.proofs.lemmas.List.{append-nil}
use Rattle.bl_limits.specs.declared.TheConstants.{MAX_WHOLE, MAX_COLUMNS}
use Rattle.bl_raw.specs.declared.raw.RawMps.{RawMps}
use Rattle.bl_raw.specs.declared.raw.RawAux.{RawAux}
use Rattle.bl_text.specs.Lines.{lines_of, ended, IsLine}
use Rattle.bl_text.proofs.LineLaws.{has_its_lines}
use Rattle.bl_terms.specs.Programs.{places_where, is_linking}
use Rattle.bl_model.specs.Build.{program_of, rows_of}
use Rattle.bl_run.specs.Report.{links_line}
use Rattle.bl_mps_terms.specs.Words.{Bytes}
use Rattle.bl_mps_terms.specs.declared.words.Section.TheVariants.{End}
use Rattle.bl_mps_laws.proofs.Decimals.{number_word}
use Rattle.bl_mps_laws.proofs.Tokens.{Token, IsToken, IsNotEnd, line_of, word_of, not_end, line-append}
use Rattle.bl_show_laws.specs.ShowsBack.{to_end, behind_end, is_links, before_links, from_links}
use Rattle.bl_show_laws.proofs.AuxLines.{IsKeyLine}

-- ---- ENDATA

pub to_end-tokens : (tokens : List Token) (more : List Bytes) → AllByRecursion IsToken tokens
    → AllByRecursion IsNotEnd tokens
    → to_end (map line_of tokens ++ word_of End ∷ more) ≡ map line_of tokens ++ word_of End ∷ []
to_end-tokens [] more h n = refl
to_end-tokens (t ∷ ts) more h n =
    ap (λ (end : Bool). line_of t ∷ cond end [] (to_end (map line_of ts ++ word_of End ∷ more))) (not_end t h.0 n.0)
    ∙ ap (λ (ls : List Bytes). line_of t ∷ ls) (to_end-tokens ts more h.1 n.1)

pub behind_end-tokens : (tokens : List Token) (more : List Bytes) → AllByRecursion IsToken tokens
    → AllByRecursion IsNotEnd tokens → behind_end (map line_of tokens ++ word_of End ∷ more) ≡ more
behind_end-tokens [] more h n = refl
behind_end-tokens (t ∷ ts) more h n =
    ap (λ (end : Bool). cond end (map line_of ts ++ word_of End ∷ more)
    (behind_end (map line_of ts ++ word_of End ∷ more))) (not_end t h.0 n.0)
    ∙ behind_end-tokens ts more h.1 n.1

-- ---- the line of linking columns

pub before_links-keys : (lines : List Bytes) (last : Bytes) → AllByRecursion IsKeyLine lines → is_links last ≡ true
    → before_links (lines ++ last ∷ []) ≡ lines
before_links-keys [] last h e = rw e refl
before_links-keys (line ∷ lines) last h e =
    ap (λ (test : Bool). cond test [] (line ∷ before_links (lines ++ last ∷ []))) (h.0.1)
    ∙ ap (λ (ls : List Bytes). line ∷ ls) (before_links-keys lines last h.1 e)

pub from_links-keys : (lines : List Bytes) (last : Bytes) → AllByRecursion IsKeyLine lines → is_links last ≡ true
    → from_links (lines ++ last ∷ []) ≡ last ∷ []
from_links-keys [] last h e = rw e refl
from_links-keys (line ∷ lines) last h e =
    ap (λ (test : Bool). cond test (line ∷ (lines ++ last ∷ [])) (from_links (lines ++ last ∷ []))) (h.0.1)
    ∙ from_links-keys lines last h.1 e

-- the line without its line feed
abbrev pub links_alone : List ℕ → Bytes
links_alone links = codes "links" ++ flat_map (λ link. codes " " ++ decimal link) links

links_ended : (links : List ℕ) → links_line links ≡ ended (links_alone links)
links_ended links = sym (append_assoc (codes "links") (flat_map (λ link. codes " " ++ decimal link) links) (10 ∷ []))

links_is_line : (links : List ℕ) → AllByRecursion (λ link. link ≤ MAX_WHOLE) links
    → IsLine (flat_map (λ link. codes " " ++ decimal link) links)
links_is_line [] h = tt
links_is_line (link ∷ links) h = (
  refl,
  line-append (decimal link) (flat_map (λ l. codes " " ++ decimal l) links) (number_word (pos link) h.0).line
      (links_is_line links h.1),
)

-- It is one line, and the last.
pub record IsLinksLine (links : List ℕ) : Type 0 where
  pub lines : lines_of (links_line links) ≡ links_alone links ∷ []
  pub text : flat_map ended (links_alone links ∷ []) ≡ links_line links

pub is_links_line : (links : List ℕ) → AllByRecursion (λ link. link ≤ MAX_WHOLE) links → IsLinksLine links
is_links_line links h =
    let line : IsLine (links_alone links) =
    (refl, (refl, (refl, (refl, (refl, links_is_line links h))))) in
    let text : flat_map ended (links_alone links ∷ []) ≡ links_line links =
    append-nil (ended (links_alone links)) ∙ sym (links_ended links) in
    record {
      lines = ap lines_of (sym text ∙ sym (append-nil (flat_map ended (links_alone links ∷ []))))
          ∙ has_its_lines.ended (links_alone links ∷ []) [] (line, tt);
      text = text;
    }

-- ---- the linking columns are few

place_by : (test : Bool) (n limit : ℕ) (places : List ℕ) → n ≤ limit
    → AllByRecursion (λ p. p ≤ limit) places → AllByRecursion (λ p. p ≤ limit) (cond test (places ++ n ∷ []) places)
place_by true n limit places le h = push places h
  where
    push : (ps : List ℕ) → AllByRecursion (λ p. p ≤ limit) ps → AllByRecursion (λ p. p ≤ limit) (ps ++ n ∷ [])
    push [] k = (le, tt)
    push (p ∷ ps) k = (k.0, push ps k.1)
place_by false n limit places le h = h

places_few : (test : ℕ → Bool) (n limit : ℕ) → n ≤ limit → AllByRecursion (λ p. p ≤ limit) (places_where test n)
places_few test Prim.Native.Nat.zero limit le = tt
places_few test (Prim.Native.Nat.suc n) limit le =
    place_by (test n) n limit (places_where test n) (omega (arith, le)) (places_few test n limit (omega (arith, le)))

pub links_few : (mps : RawMps) (aux : RawAux) → length mps.columns ≤ MAX_COLUMNS
    → AllByRecursion (λ link. link ≤ MAX_WHOLE) (program_of mps aux).links
unfolding program_of
links_few mps aux few =
    places_few (is_linking aux.columns (rows_of mps aux.rows)) (length mps.columns) MAX_WHOLE (omega (arith, few))
