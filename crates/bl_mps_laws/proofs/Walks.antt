-- The lines of a text token by token: what stands under each section behind a token, and what a token breaks.
use Rattle.std.proofs.Common.{◌≡◌, false, List, [], ◌∷◌, ◌++◌, map, Option, Some, None, refl, sym}
use Rattle.std.proofs.Common.{ap, subst, ◌∙◌, append_assoc}
use Rattle.std.proofs.lemmas.List.{append-nil}
use Rattle.std.specs.List.{AllByRecursion}
use Rattle.bl_mps_terms.specs.declared.fault.MpsRule.{MpsRule}
use Rattle.bl_mps_terms.specs.declared.words.Section.{Section}
use Rattle.bl_mps_terms.specs.declared.words.Section.TheVariants.{Name, ObjSense, Rows, Columns, RightSides, Ranges}
use Rattle.bl_mps_terms.specs.declared.words.Section.TheVariants.{Bounds, End}
use Rattle.bl_mps_terms.specs.Words.{Bytes, section_named}
use Rattle.bl_mps_terms.specs.Parts.{field, is_end}
use Rattle.bl_mps_terms.specs.Lines.{sense_fault, row_fault, column_fault, right_side_fault, range_fault, bound_fault}
use Rattle.bl_mps_terms.specs.Faults.{section_fault, heading_fault, data_fault, line_fault}
use Rattle.bl_mps_terms.specs.Faults.{lines_fault}
use Rattle.bl_mps_terms.specs.declared.fault.MpsRule.TheVariants as rules
use Rattle.bl_mps.proofs.LineParts.{LineParts, parts_of, parts-push, heading_added, pushed_heading, data_added}
use Rattle.bl_mps.proofs.LineParts.{pushed_data}
use Rattle.bl_mps_laws.proofs.Tokens.{Token, Begin, Fields, IsToken, IsNotEnd, word_of, line_of, not_end, word_skipped}
use Rattle.bl_mps_laws.proofs.Tokens.{word_begins, word_fields, word_named, data_fields, data_skipped, data_begins}

-- ---- one token

-- the parts behind a token
abbrev pub behind : LineParts → Token → LineParts
behind parts (Begin section) = heading_added parts section (word_of section ∷ [])
behind parts (Fields fs) = data_added parts.present parts fs

-- the faults of a data line behind these parts
abbrev pub field_fault : Option Section → LineParts → List Bytes → Option MpsRule
field_fault (Some ObjSense) p line = sense_fault p.senses line
field_fault (Some Rows) p line = row_fault p.rows line
field_fault (Some Columns) p line = column_fault p.rows p.columns line
field_fault (Some RightSides) p line = right_side_fault p.rows p.right_sides line
field_fault (Some Ranges) p line = range_fault p.rows p.ranges line
field_fault (Some Bounds) p line = bound_fault p.columns line
field_fault (Some Name) p line = Some rules.BadSection
field_fault (Some End) p line = Some rules.BadSection
field_fault None p line = Some rules.BadSection

pub field_fault-same : (present : Option Section) (before : List Bytes) (line : List Bytes)
    → data_fault present before line ≡ field_fault present (parts_of before) line
field_fault-same (Some ObjSense) before line = refl
field_fault-same (Some Rows) before line = refl
field_fault-same (Some Columns) before line = refl
field_fault-same (Some RightSides) before line = refl
field_fault-same (Some Ranges) before line = refl
field_fault-same (Some Bounds) before line = refl
field_fault-same (Some Name) before line = refl
field_fault-same (Some End) before line = refl
field_fault-same None before line = refl

-- the faults of a token behind these parts
abbrev pub token_fault : LineParts → Token → Option MpsRule
token_fault parts (Begin section) = section_fault parts.sections (Some section) (word_of section ∷ [])
token_fault parts (Fields fs) = field_fault parts.present parts fs

pub behind-same : (before : List Bytes) (token : Token) → IsToken token
    → parts_of (before ++ line_of token ∷ []) ≡ behind (parts_of before) token
behind-same before (Begin section) h =
    parts-push before (word_of section)
    ∙ pushed_heading (parts_of before) (word_of section) section (word_skipped section) (word_begins section)
    (ap (λ (fs : List Bytes). section_named (field 0 fs)) (word_fields section) ∙ word_named section)
    ∙ ap (heading_added (parts_of before) section) (word_fields section)
behind-same before (Fields fs) h =
    parts-push before (line_of (Fields fs))
    ∙ pushed_data (parts_of before) (line_of (Fields fs)) (parts_of before).present refl (data_skipped fs h)
    (data_begins fs h)
    ∙ ap (data_added (parts_of before).present (parts_of before)) (data_fields fs h)

pub line_fault-same : (before : List Bytes) (token : Token) → IsToken token
    → line_fault before (line_of token) ≡ token_fault (parts_of before) token
unfolding line_fault
line_fault-same before (Begin section) h =
    rw (word_skipped section, word_begins section)
    (ap (heading_fault before) (word_fields section)
    ∙ ap (λ (o : Option Section). section_fault (parts_of before).sections o (word_of section ∷ []))
    (word_named section))
line_fault-same before (Fields fs) h =
    rw (data_skipped fs h, data_begins fs h)
    (ap (data_fault (parts_of before).present before) (data_fields fs h)
    ∙ field_fault-same (parts_of before).present before fs)

-- ---- some tokens

-- From these parts on the tokens break no rule, and leave the others.
abbrev pub Leads : LineParts → List Token → LineParts → Type 0
Leads parts [] others = parts ≡ others
Leads parts (t ∷ ts) others = IsToken t × IsNotEnd t × (token_fault parts t ≡ None) × Leads (behind parts t) ts others

pub leads_on : (parts middle others : LineParts) (ts us : List Token) → Leads parts ts middle → Leads middle us others
    → Leads parts (ts ++ us) others
leads_on parts middle others [] us h k = subst (λ (p : LineParts). Leads p us others) (sym h) k
leads_on parts middle others (t ∷ ts) us h k =
    (h.0, h.1, h.2, leads_on (behind parts t) middle others ts us h.3 k)

pub leads_tokens : (parts others : LineParts) (ts : List Token) → Leads parts ts others → AllByRecursion IsToken ts
leads_tokens parts others [] h = tt
leads_tokens parts others (t ∷ ts) h = (h.0, leads_tokens (behind parts t) others ts h.3)

pub leads_not_end : (parts others : LineParts) (ts : List Token) → Leads parts ts others → AllByRecursion IsNotEnd ts
leads_not_end parts others [] h = tt
leads_not_end parts others (t ∷ ts) h = (h.1, leads_not_end (behind parts t) others ts h.3)

-- the lines behind them are all that is left
pub record Walked (before : List Bytes) (ts : List Token) (others : LineParts) (more : List Bytes) : Type 0 where
  pub parts : parts_of (before ++ map line_of ts) ≡ others
  pub fault : lines_fault before (map line_of ts ++ more) ≡ lines_fault (before ++ map line_of ts) more

first_line : (before : List Bytes) (line : Bytes) (lines : List Bytes) → line_fault before line ≡ None
    → is_end line ≡ false → lines_fault before (line ∷ lines) ≡ lines_fault (before ++ line ∷ []) lines
unfolding lines_fault
first_line before line lines f e = rw (f, e) refl

pub walked : (before : List Bytes) (ts : List Token) (others : LineParts) (more : List Bytes)
    → Leads (parts_of before) ts others → Walked before ts others more
walked before [] others more h = record {
  parts = ap parts_of (append-nil before) ∙ h;
  fault = ap (λ (ls : List Bytes). lines_fault ls more) (sym (append-nil before));
}
walked before (t ∷ ts) others more h =
    let next : Leads (parts_of (before ++ line_of t ∷ [])) ts others =
    subst (λ (p : LineParts). Leads p ts others) (sym (behind-same before t h.0)) h.3 in
    let rest = walked (before ++ line_of t ∷ []) ts others more next in
    let all = append_assoc before (line_of t ∷ []) (map line_of ts) in
    record {
      parts = ap parts_of (sym all) ∙ rest.parts;
      fault = first_line before (line_of t) (map line_of ts ++ more) (line_fault-same before t h.0 ∙ h.2)
          (not_end t h.0 h.1) ∙ rest.fault ∙ ap (λ (ls : List Bytes). lines_fault ls more) all;
    }

-- ---- the data lines of one section

-- The lines are data lines, and none breaks a rule behind those before it.
abbrev pub EachFine : (List (List Bytes) → List Bytes → Option MpsRule) → List (List Bytes) → List (List Bytes) → Type 0
EachFine fault before [] = Unit {0}
EachFine fault before (line ∷ lines) =
    IsToken (Fields line) × (fault before line ≡ None) × EachFine fault (before ++ line ∷ []) lines

pub fine_on : (fault : List (List Bytes) → List Bytes → Option MpsRule) (before xs ys : List (List Bytes))
    → EachFine fault before xs → EachFine fault (before ++ xs) ys → EachFine fault before (xs ++ ys)
fine_on fault before [] ys h k = subst (λ (b : List (List Bytes)). EachFine fault b ys) (append-nil before) k
fine_on fault before (x ∷ xs) ys h k = (
  h.0,
  h.1,
  fine_on fault (before ++ x ∷ []) xs ys h.2
      (subst (λ (b : List (List Bytes)). EachFine fault b ys) (sym (append_assoc before (x ∷ []) xs)) k),
)

-- The parts by what stands under one section, which each data line grows.
module _ (at : List (List Bytes) → LineParts) (fault : List (List Bytes) → List Bytes → Option MpsRule)
    (faults : (lines : List (List Bytes)) (line : List Bytes) → token_fault (at lines) (Fields line) ≡ fault lines line)
    (grows : (lines : List (List Bytes)) (line : List Bytes)
    → behind (at lines) (Fields line) ≡ at (lines ++ line ∷ []))
  where
    pub data_lead : (before lines : List (List Bytes)) → EachFine fault before lines
        → Leads (at before) (map Fields lines) (at (before ++ lines))
    data_lead before [] h = ap at (sym (append-nil before))
    data_lead before (line ∷ lines) h = (
      h.0,
      tt,
      faults before line ∙ h.1,
      subst (λ (p : LineParts). Leads p (map Fields lines) (at (before ++ line ∷ lines))) (sym (grows before line))
          (subst (λ (ls : List (List Bytes)). Leads (at (before ++ line ∷ [])) (map Fields lines) (at ls))
          (append_assoc before (line ∷ []) lines) (data_lead (before ++ line ∷ []) lines h.2)),
    )
