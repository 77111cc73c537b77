-- The well-formed line at the front of a text.
use Rattle.std.proofs.Common.{◌≡◌, ◌≢◌, ℕ, zero, suc, ◌<◌, [], ◌∷◌, ◌++◌, length, get_or}
use Rattle.std.proofs.Common.{take}
use Rattle.std.proofs.Common.{refl, sym, ap, subst, ◌∙◌, arith, inl, inr, append_assoc, None, Some, Option, Bor}
use Rattle.std.specs.Prelude.{MatchOption}
use Rattle.std.proofs.Math.Seq.{take-append_seam}
use Rattle.std.proofs.lemmas.Bool.{cases_lt, eqb-false}
use Rattle.std.proofs.lemmas.List.{length-append}
use Rattle.bl_terms.specs.Programs.{Program}
use Rattle.bl_text.specs.Lines.{IsLine}
use Rattle.bl_certline.specs.declared.line.CertLine.{CertLine}
use Rattle.bl_certline.specs.Fields.{Bytes, Finds, IsNextLineFeed}
use Rattle.bl_certline.specs.Lines.{IsSpelled, spelling}
use Rattle.bl_certline.proofs.LineReading.{one_line}
use Rattle.bl_certline.proofs.LineWords.{line-spelling}
use Rattle.bl_certtext.specs.declared.part.Part.{Part}
use Rattle.bl_certtext.specs.Forms.{HasForm}
use Rattle.bl_certtext.specs.Texts.{line_text}
use Rattle.bl_check_terms.specs.Accepting.{HasNoLine}
use Rattle.bl_check_walk.specs.Walks.{IsFirstLine, IsNoLine}

feed_behind : (line rest : Bytes) → get_or (line ++ 10 ∷ rest) (length line) 0 ≡ 10
feed_behind [] rest = refl
feed_behind (b ∷ line) rest = feed_behind line rest

none_before : (line rest : Bytes) → IsLine line → (k : ℕ) → k < length line → get_or (line ++ 10 ∷ rest) k 0 ≢ 10
none_before [] rest h k lt e = omega arith
none_before (b ∷ line) rest h zero lt e = eqb-false b 10 h.0 e
none_before (b ∷ line) rest h (suc k) lt e = none_before line rest h.1 k (omega arith) e

-- the line's own line feed is the first
first_feed : (line rest : Bytes) → IsLine line → IsNextLineFeed (line ++ 10 ∷ rest) 0 (length line)
first_feed line rest h = record {
  behind = omega arith;
  within = omega (arith, length-append line (10 ∷ rest));
  line_feed = feed_behind line rest;
  first = λ k from lt. none_before line rest h k lt;
}

one_feed : (bytes : Bytes) (from i j : ℕ) → IsNextLineFeed bytes from i → IsNextLineFeed bytes from j → i ≡ j
one_feed bytes from i j a b =
    elim (cases_lt i j) [
      | inl lt ↦ absurd (b.first i a.behind lt a.line_feed)
      | inr ge ↦ elim (cases_lt j i) [ inl lt ↦ absurd (a.first j b.behind lt b.line_feed) | inr le ↦ omega arith ]
    ]

spelled_feed : (line : CertLine) (rest : Bytes) → line_text line ++ rest ≡ spelling line ++ 10 ∷ rest
spelled_feed line rest = append_assoc (spelling line) (10 ∷ []) rest

feed_of : (bytes : Bytes) (line : CertLine) (rest : Bytes) → IsFirstLine bytes line rest
    → IsNextLineFeed bytes 0 (length (spelling line))
feed_of bytes line rest h =
    subst (λ (bs : Bytes). IsNextLineFeed bs 0 (length (spelling line)))
    (sym (h.spelled ∙ spelled_feed line rest)) (first_feed (spelling line) rest (line-spelling line h.well_formed))

-- without a line feed there is no line
pub no_feed : (bytes : Bytes) → Finds (IsNextLineFeed bytes 0) None → IsNoLine bytes
no_feed bytes none line rest h = none (length (spelling line)) (feed_of bytes line rest h)

-- nor is there one where the bytes up to the first line feed are no line
pub no_spelled : (bytes : Bytes) (end : ℕ) → IsNextLineFeed bytes 0 end → Finds (IsSpelled (take end bytes)) None
    → IsNoLine bytes
no_spelled bytes end feed none line rest h =
    let same = one_feed bytes 0 end (length (spelling line)) feed (feed_of bytes line rest h) in
    let front : take end bytes ≡ spelling line =
    ap (λ (k : ℕ). take k bytes) same ∙ ap (λ (bs : Bytes). take (length (spelling line)) bs)
    (h.spelled ∙ spelled_feed line rest) ∙ take-append_seam (spelling line) (10 ∷ rest) in
    none line (record { well_formed = h.well_formed; spelled = front })

-- at most one line comes first
pub one_first : (bytes : Bytes) (a b : CertLine) (r s : Bytes) → IsFirstLine bytes a r → IsFirstLine bytes b s → a ≡ b
one_first bytes a b r s first second =
    let same =
    one_feed bytes 0 (length (spelling a)) (length (spelling b)) (feed_of bytes a r first) (feed_of bytes b s second) in
    let front : take (length (spelling a)) bytes ≡ spelling a =
    ap (λ (bs : Bytes). take (length (spelling a)) bs) (first.spelled ∙ spelled_feed a r)
    ∙ take-append_seam (spelling a) (10 ∷ r) in
    let other : take (length (spelling b)) bytes ≡ spelling b =
    ap (λ (bs : Bytes). take (length (spelling b)) bs) (second.spelled ∙ spelled_feed b s)
    ∙ take-append_seam (spelling b) (10 ∷ s) in
    one_line a b first.well_formed second.well_formed
    (sym front ∙ ap (λ (k : ℕ). take k bytes) same ∙ other)

-- less is left behind a line
pub first_shorter : (bytes : Bytes) (line : CertLine) (rest : Bytes) → bytes ≡ line_text line ++ rest
    → length rest < length bytes
first_shorter bytes line rest h =
    let size = ap length (h ∙ spelled_feed line rest) ∙ length-append (spelling line) (10 ∷ rest) in
    omega (arith, size)

-- ---- no line of the part's form

abbrev pub Found : Bytes → Option (CertLine × Bor Bytes) → Type 0
Found bytes first = MatchOption first (IsNoLine bytes) (λ x. IsFirstLine bytes x.0 x.1.now)

-- where no line comes first there is none
pub none_formed : (p : Program) (part : Part) (bytes : Bytes) (first : Option (CertLine × Bor Bytes))
    → Found bytes first → first ≡ None → HasNoLine p part bytes
none_formed p part bytes first found none line behind formed spelled =
    let no : IsNoLine bytes = subst (Found bytes) none found in
    no line behind (record { well_formed = formed.well_formed; spelled = spelled })

-- the line that comes first, where one does
pub the_first : (bytes : Bytes) (first : Option (CertLine × Bor Bytes)) (line : CertLine) (rest : Bor Bytes)
    → Found bytes first → first ≡ Some (line, rest) → IsFirstLine bytes line rest.now
the_first bytes first line rest found is = subst (Found bytes) is found

-- and where the line that comes first has another form there is none
pub other_form : (p : Program) (part : Part) (bytes : Bytes) (line : CertLine) (rest : Bytes)
    → IsFirstLine bytes line rest → ¬ HasForm p part line → HasNoLine p part bytes
other_form p part bytes line rest here other second behind formed spelled =
    let there : IsFirstLine bytes second behind = record { well_formed = formed.well_formed; spelled = spelled } in
    other (subst (HasForm p part) (one_first bytes second line behind rest there here) formed.form)
