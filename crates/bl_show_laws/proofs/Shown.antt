-- What `show` prints, says the model and the follower again.
use Rattle.std.proofs.Common.{◌≡◌, ℕ, ◌≤◌, ℤ, List, [], ◌∷◌, ◌++◌, map, length, refl, sym, ap, subst, ◌∙◌}
use Rattle.std.proofs.Common.{arith}
use Rattle.std.specs.List.{flat_map, AllByRecursion}
use Rattle.std.proofs.lemmas.List.{append-nil, map_push}
use Rattle.bl_limits.specs.declared.TheConstants.{MAX_TEXT_BYTES}
use Rattle.bl_raw.specs.declared.raw.RawMps.{RawMps}
use Rattle.bl_raw.specs.declared.raw.RawAux.{RawAux}
use Rattle.bl_text.specs.Lines.{lines_of, ended, IsLine}
use Rattle.bl_text.proofs.LineLaws.{has_its_lines}
use Rattle.bl_aux.specs.Canonical.{aux_text}
use Rattle.bl_aux.specs.Given.{sizes_of}
use Rattle.bl_aux.proofs.Canonicals.{canonical_lines, lines-whole, reads_back}
use Rattle.bl_aux.proofs.GoodLines.{says_followers}
use Rattle.bl_model.specs.Build.{program_of}
use Rattle.bl_mps_terms.specs.Words.{Bytes}
use Rattle.bl_mps_terms.specs.declared.words.Section.TheVariants.{End}
use Rattle.bl_mps_write.specs.Canonical.{mps_text}
use Rattle.bl_run.specs.Report.{links_line, show_text}
use Rattle.bl_run.specs.Texts.{IsMpsText, IsAuxText}
use Rattle.bl_mps.proofs.LineParts.{parts_of}
use Rattle.bl_mps_laws.proofs.Canonical.{lines_are, says_sayable}
use Rattle.bl_mps_laws.proofs.CanonicalLines.{last, tokens_lead}
use Rattle.bl_mps_laws.proofs.CanonicalText.{tokens_of, canonical_text}
use Rattle.bl_mps_laws.proofs.Said.{said_sayable}
use Rattle.bl_mps_laws.proofs.Sayable.{IsSayable}
use Rattle.bl_mps_laws.proofs.Tokens.{Token, Begin, IsToken, IsNotEnd, line_of, word_of, texts-ended}
use Rattle.bl_mps_laws.proofs.Walks.{leads_tokens, leads_not_end}
use Rattle.bl_show_laws.specs.ShowsBack.{to_end, behind_end, before_links, from_links, mps_part, aux_part, links_part}
use Rattle.bl_show_laws.specs.ShowsBack.{SaysAgain, ShowsBack}
use Rattle.bl_show_laws.proofs.AuxLines.{IsKeyLine, aux_key_lines, IsShort, short_follower, aux_text_short}
use Rattle.bl_show_laws.proofs.Parts.{to_end-tokens, behind_end-tokens, before_links-keys, from_links-keys, links_alone}
use Rattle.bl_show_laws.proofs.Parts.{IsLinksLine, is_links_line, links_few}

plain_lines : (lines : List Bytes) → AllByRecursion IsKeyLine lines → AllByRecursion IsLine lines
plain_lines [] h = tt
plain_lines (line ∷ lines) h = (h.0.0, plain_lines lines h.1)

module _ (mps : RawMps) (aux : RawAux) (h : IsSayable mps) (short : IsShort aux) where
  abbrev links : List ℕ
  links = (program_of mps aux).links

  -- what stands behind the MPS text
  abbrev behind : List ℕ
  behind = aux_text aux ++ links_line links

  one_line : IsLinksLine links
  one_line = is_links_line links (links_few mps aux h.column_count)

  keys : AllByRecursion IsKeyLine (canonical_lines aux)
  keys = aux_key_lines aux short

  behind_lines : lines_of behind ≡ canonical_lines aux ++ links_alone links ∷ []
  behind_lines =
      ap (λ (t : List ℕ). lines_of (t ++ links_line links)) (lines-whole aux)
      ∙ has_its_lines.ended (canonical_lines aux) (links_line links) (plain_lines (canonical_lines aux) keys)
      ∙ ap (λ (ls : List Bytes). canonical_lines aux ++ ls) one_line.lines

  abbrev tokens : List Token
  tokens = tokens_of mps

  good : AllByRecursion IsToken tokens
  good = leads_tokens (parts_of []) (last mps) tokens (tokens_lead mps h)

  not_last : AllByRecursion IsNotEnd tokens
  not_last = leads_not_end (parts_of []) (last mps) tokens (tokens_lead mps h)

  -- the MPS text is its lines
  text_lines : flat_map ended (map line_of tokens ++ word_of End ∷ []) ≡ mps_text mps
  text_lines =
      ap (flat_map ended) (sym (map_push line_of tokens (Begin End))) ∙ sym (texts-ended (tokens ++ Begin End ∷ []))
      ∙ sym (canonical_text mps)

  -- ---- the parts

  first_part : mps_part (mps_text mps ++ behind) ≡ mps_text mps
  first_part =
      ap (λ (ls : List Bytes). flat_map ended (to_end ls)) (lines_are mps h behind)
      ∙ ap (flat_map ended) (to_end-tokens tokens (lines_of behind) good not_last) ∙ text_lines

  rest_lines : behind_end (lines_of (mps_text mps ++ behind)) ≡ canonical_lines aux ++ links_alone links ∷ []
  rest_lines =
      ap behind_end (lines_are mps h behind) ∙ behind_end-tokens tokens (lines_of behind) good not_last ∙ behind_lines

  second_part : aux_part (mps_text mps ++ behind) ≡ aux_text aux
  second_part =
      ap (λ (ls : List Bytes). flat_map ended (before_links ls)) rest_lines
      ∙ ap (flat_map ended) (before_links-keys (canonical_lines aux) (links_alone links) keys refl)
      ∙ sym (lines-whole aux)

  last_part : links_part (mps_text mps ++ behind) ≡ links_line links
  last_part =
      ap (λ (ls : List Bytes). flat_map ended (from_links ls)) rest_lines
      ∙ ap (flat_map ended) (from_links-keys (canonical_lines aux) (links_alone links) keys refl) ∙ one_line.text

  -- ---- what they say

  model_again : length (mps_part (mps_text mps ++ behind)) ≤ MAX_TEXT_BYTES → (default : ℤ)
      → IsMpsText default (mps_part (mps_text mps ++ behind)) mps
  model_again few default =
      let same = first_part ∙ sym (append-nil (mps_text mps)) in
      subst (λ (t : List ℕ). IsMpsText default t mps) (sym same)
      (says_sayable mps h default [] (subst (λ (t : List ℕ). length t ≤ MAX_TEXT_BYTES) same few))

  follower_again : IsAuxText mps (aux_text aux) aux → IsAuxText mps (aux_part (mps_text mps ++ behind)) aux
  follower_again says = subst (λ (t : List ℕ). IsAuxText mps t aux) (sym second_part) says

  again : IsAuxText mps (aux_text aux) aux → SaysAgain mps aux (show_text mps aux (program_of mps aux))
  unfolding show_text
  again says = record {
    model = model_again;
    whole = λ few default. says_sayable mps h default behind few;
    follower = follower_again says;
    links = last_part;
  }

pub shows_back : ShowsBack
shows_back default text follower mps aux small reads says =
    let h = said_sayable default small text mps reads in
    let fits = says_followers (sizes_of (length mps.columns) (length mps.rows)) follower aux says in
    let columns = h.column_count in
    let rows = h.row_count in
    let short = short_follower (length mps.columns) (length mps.rows) aux columns rows fits in
    again mps aux h short
    (reads_back (sizes_of (length mps.columns) (length mps.rows)) aux (omega (arith, columns)) (omega (arith, rows))
    fits (aux_text_short aux short))
