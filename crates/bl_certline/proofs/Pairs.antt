-- The pair that a field spells.
use Rattle.std.proofs.Common.{◌≡◌, ◌≢◌, ℕ, ◌+◌, ◌<◌, ◌≤◌, Bool, true, false, cond, [], ◌∷◌, ◌++◌, length}
use Rattle.std.proofs.Common.{get_or, position, Option, Some, None, refl, sym, ap, subst, ◌∙◌, arith, ℤ, pos, inl, inr}
use Rattle.std.specs.Fmt.{signed_decimal}
use Rattle.std.specs.List.{AllByRecursion, position_or_len, before_first, after_first}
use Rattle.std.specs.Ordering.{int_eq}
use Rattle.std.proofs.Math.Seq.{take-append_seam, drop-append-add}
use Rattle.std.proofs.lemmas.Bool.{cases_lt, eqb-true, lt-ltb, ne_eqb, false≢true}
use Rattle.std.proofs.lemmas.Bool.Decides.{Decides-int_eq}
use Rattle.std.proofs.lemmas.List.{drop_all}
use Rattle.std.proofs.lemmas.List.Quantifiers.{position-Some}
use Rattle.std.proofs.lemmas.List.Sums.{split_at_first}
use Rattle.std.proofs.lemmas.Option.{option_and_then_some}
use Rattle.bl_certline.specs.Fields.{Bytes, Finds, IsPair, IsPairField, IsWholeField, pair_word}
use Rattle.bl_certline.specs.FieldValues.{is_colon, nonzero_pair, number_of, pair_of}
use Rattle.bl_certline.proofs.Numbers.{IsPlainByte, number-nonempty, number-plain, number_of-some, number_of-spelled}

-- ---- the first colon

no_colon : (bytes : Bytes) → AllByRecursion IsPlainByte bytes → AllByRecursion (λ b. is_colon b ≡ false) bytes
no_colon [] h = tt
no_colon (b ∷ bs) h = (ne_eqb b 58 (λ e. omega (arith, h.0.1, e)), no_colon bs h.1)

position-seam : (front back : Bytes) → AllByRecursion (λ b. is_colon b ≡ false) front
    → position_or_len is_colon (front ++ 58 ∷ back) ≡ length front
position-seam [] back h = refl
position-seam (b ∷ front) back h = rw (h.0, position-seam front back h.1) (omega arith)

before_first-seam : (front back : Bytes) → AllByRecursion (λ b. is_colon b ≡ false) front
    → before_first is_colon (front ++ 58 ∷ back) ≡ front
before_first-seam front back h = rw (position-seam front back h) (take-append_seam front (58 ∷ back))

after_first-seam : (front back : Bytes) → AllByRecursion (λ b. is_colon b ≡ false) front
    → after_first is_colon (front ++ 58 ∷ back) ≡ back
after_first-seam front back h = rw (position-seam front back h) (drop-append-add front (58 ∷ back) 1)

-- where a colon stands, the bytes are what stands before the first, a colon and what stands behind it
split_at_colon : (bytes : Bytes) → position_or_len is_colon bytes < length bytes
    → bytes ≡ before_first is_colon bytes ++ 58 ∷ after_first is_colon bytes
split_at_colon bytes some =
    let place = position_or_len is_colon bytes in
    let at : position is_colon bytes ≡ Some place =
    ap (λ (t : Bool). cond t (Some place) None) (lt-ltb place (length bytes) some) in
    let colon : get_or bytes place 0 ≡ 58 = eqb-true _ _ (position-Some is_colon bytes place 0 at).1 in
    split_at_first is_colon bytes 0 some
    ∙ ap (λ (b : ℕ). before_first is_colon bytes ++ b ∷ after_first is_colon bytes) colon

nothing_behind : (bytes : Bytes) → length bytes ≤ position_or_len is_colon bytes → after_first is_colon bytes ≡ []
nothing_behind bytes none = drop_all (position_or_len is_colon bytes + 1) bytes (omega arith)

-- ---- pairs

nonzero_pair-some : (i m : ℤ) (p : ℤ × ℤ) → nonzero_pair i m ≡ Some p → (m ≢ pos 0) × ((i, m) ≡ p)
nonzero_pair-some i m p e =
    elim (int_eq m (pos 0)) as (λ t. int_eq m (pos 0) ≡ t → cond t None (Some (i, m)) ≡ Some p
    → (m ≢ pos 0) × ((i, m) ≡ p)) [
      | true ↦ λ t f. absurd cc
      | false ↦ λ t f. ((λ z. false≢true (sym t ∙ (Decides-int_eq m (pos 0)).1 z)), cc)
    ] refl e

nonzero_pair-other : (i m : ℤ) → m ≢ pos 0 → nonzero_pair i m ≡ Some (i, m)
nonzero_pair-other i m h =
    let pair : ℤ × ℤ = (i, m) in
    elim (int_eq m (pos 0)) as (λ t. int_eq m (pos 0) ≡ t → cond t None (Some pair) ≡ Some pair) [
      | true ↦ λ t. absurd (h ((Decides-int_eq m (pos 0)).0 t))
      | false ↦ λ t. refl
    ] refl

-- the spelling of a pair is read as that pair
pub pair_of-spelled : (p : ℤ × ℤ) → IsPair p → pair_of (pair_word p) ≡ Some p
unfolding pair_of
pair_of-spelled p h =
    let plain = no_colon (signed_decimal p.0) (number-plain p.0 h.index) in
    rw (
      before_first-seam (signed_decimal p.0) (signed_decimal p.1) plain,
      after_first-seam (signed_decimal p.0) (signed_decimal p.1) plain,
      number_of-spelled p.0 h.index,
      number_of-spelled p.1 h.number,
    ) (nonzero_pair-other p.0 p.1 h.nonzero)

pair_of-parts : (field : Bytes) (p : ℤ × ℤ) → IsWholeField (before_first is_colon field) p.0
    → IsWholeField (after_first is_colon field) p.1 → p.1 ≢ pos 0 → IsPairField field p
pair_of-parts field p index number nonzero =
    elim (cases_lt (position_or_len is_colon field) (length field)) [
      | inl some ↦ record {
        pair = record { index = index.whole; number = number.whole; nonzero = nonzero };
        spelled = split_at_colon field some
            ∙ ap (λ (front : Bytes). front ++ 58 ∷ after_first is_colon field) index.spelled
            ∙ ap (λ (back : Bytes). signed_decimal p.0 ++ 58 ∷ back) number.spelled;
      }
      | inr none ↦
          absurd (number-nonempty p.1 number.whole (sym (nothing_behind field none) ∙ number.spelled))
    ]

-- what is read as a pair is its spelling
pub pair_of-some : (field : Bytes) (p : ℤ × ℤ) → pair_of field ≡ Some p → IsPairField field p
unfolding pair_of
pair_of-some field p e =
    option_and_then_some _ (number_of (before_first is_colon field)) p e (λ i ei rest.
    option_and_then_some _ (number_of (after_first is_colon field)) p rest (λ m em last.
    let found = nonzero_pair-some i m p last in
    subst (IsPairField field) found.1
    (pair_of-parts field (i, m) (number_of-some _ i ei) (number_of-some _ m em) found.0)))

pub finds_pair : (field : Bytes) (read : Option (ℤ × ℤ)) → read ≡ pair_of field → Finds (IsPairField field) read
finds_pair field None e = λ p h.
    let read : pair_of field ≡ Some p = ap pair_of h.spelled ∙ pair_of-spelled p h.pair in
    cc
finds_pair field (Some p) e = pair_of-some field p (sym e)
