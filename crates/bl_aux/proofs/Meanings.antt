-- Each text says a follower or has a first fault.
use Rattle.std.proofs.Common.{◌≡◌, ◌≢◌, ◌⊎◌, ℕ, suc, ◌+◌, ◌≤◌, Bool, true, false, List, [], ◌∷◌, length, map, Option}
use Rattle.std.proofs.Common.{Some, None, Ok, Err, Result, refl, sym, ap, subst, ◌∙◌, arith, inl, inr, ℤ, pos, negsuc}
use Rattle.std.proofs.Common.{unsigned_abs}
use Rattle.std.specs.List.{All}
use Rattle.std.specs.Ordering.{int_eq}
use Rattle.std.proofs.lemmas.Bool.{cases_lt, cases_eq, false≢true}
use Rattle.std.proofs.lemmas.Bool.Decides.{Decides-int_eq}
use Rattle.bl_limits.specs.declared.TheConstants.{MAX_TEXT_BYTES}
use Rattle.bl_text.specs.Lines.{lines_of}
use Rattle.bl_raw.specs.declared.raw.RawAux.{RawAux}
use Rattle.bl_aux.specs.declared.fault.AuxRule.{AuxRule}
use Rattle.bl_aux.specs.declared.fault.AuxRule.TheVariants.{CountDiffers, TooLong}
use Rattle.bl_aux.specs.declared.fault.AuxFault.{AuxFault}
use Rattle.bl_aux.specs.Given.{Given, Sizes, is_below, entries_of, given_by}
use Rattle.bl_aux.specs.Texts.{KeepsRules, CountsAgree, IsGiven, Says, BreaksFirst, IsFirstFault, too_long, at_line}
use Rattle.bl_aux.specs.Texts.{of_whole, sense_of}
use Rattle.bl_aux.specs.Drafts.{Holding, after_lines}
use Rattle.bl_aux.specs.Laws.{TellsOne}
use Rattle.bl_aux.proofs.EntryLaws.{held_by}
use Rattle.bl_aux.proofs.FaultLaws.{Lines, rule_at, Ends, ends_of}
use Rattle.bl_aux.proofs.Followers.{IsGood}
use Rattle.bl_aux.proofs.GoodLines.{good_of}

abbrev fault_of : AuxRule → ℕ → AuxFault
fault_of rule place = record { rule = rule; line = place + 1 }

-- ---- no text says two things

rules-apart : (broken : Option AuxRule) (rule : AuxRule) → broken ≡ Some rule → broken ≡ None → ⊥
rules-apart broken rule some none = absurd cc

kept-apart : (sizes : Sizes) (lines : Lines) (place : ℕ) (rule : AuxRule) → KeepsRules sizes lines
    → BreaksFirst sizes lines place rule → ⊥
kept-apart sizes lines place rule kept b = rules-apart (rule_at sizes lines place) rule b.broken (kept place b.within)

apart : (sizes : Sizes) (text : List ℕ) (aux : RawAux) (fault : AuxFault) → Says sizes text aux
    → IsFirstFault sizes text fault → ⊥
apart sizes text aux fault s (too_long long is) = omega (arith, s.short)
apart sizes text aux fault s (at_line short place rule b is) = kept-apart sizes (lines_of text) place rule s.kept b
apart sizes text aux fault s (of_whole short kept differ is) = differ s.counts

pos-injective : (xs ys : List ℕ) → map pos xs ≡ map pos ys → xs ≡ ys
pos-injective [] [] e = refl
pos-injective [] (y ∷ ys) e = absurd cc
pos-injective (x ∷ xs) [] e = absurd cc
pos-injective (x ∷ xs) (y ∷ ys) e =
    let tails : map pos xs ≡ map pos ys = cc in
    let heads : x ≡ y = cc in
    let rest = pos-injective xs ys tails in
    rw (heads, rest) refl

same-follower : (a b : RawAux) → a.columns ≡ b.columns → a.rows ≡ b.rows → a.costs ≡ b.costs → a.sense ≡ b.sense → a ≡ b
same-follower a b columns rows costs sense =
    let joined : record { columns = a.columns; rows = a.rows; costs = a.costs; sense = a.sense }
    ≡ record { columns = b.columns; rows = b.rows; costs = b.costs; sense = b.sense } =
    rw (columns, rows, costs, sense) refl in
    joined

follower : (sizes : Sizes) (text : List ℕ) (a b : RawAux) → Says sizes text a → Says sizes text b → a ≡ b
follower sizes text a b s t =
    let columns = pos-injective a.columns b.columns (s.given.columns ∙ sym t.given.columns) in
    let rows = pos-injective a.rows b.rows (s.given.rows ∙ sym t.given.rows) in
    same-follower a b columns rows (s.given.costs ∙ sym t.given.costs) (s.given.sense ∙ sym t.given.sense)

some-is : (broken : Option AuxRule) (rule other : AuxRule) → broken ≡ Some rule → broken ≡ Some other → rule ≡ other
some-is broken rule other e f = cc

fault-at : (p q : ℕ) (rule other : AuxRule) → p ≡ q → rule ≡ other → fault_of rule p ≡ fault_of other q
fault-at p q rule other place rules = rw (place, rules) refl

same-fault : (sizes : Sizes) (lines : Lines) (p q : ℕ) (rule other : AuxRule) (f g : AuxFault)
    → BreaksFirst sizes lines p rule → BreaksFirst sizes lines q other → f ≡ record { rule = rule; line = p + 1 }
    → g ≡ record { rule = other; line = q + 1 } → f ≡ g
same-fault sizes lines p q rule other f g b d e h =
    elim (cases_lt p q) [
      | inl before ↦ absurd (rules-apart (rule_at sizes lines p) rule b.broken (d.kept p before))
      | inr past ↦ elim (cases_lt q p) [
        | inl before ↦ absurd (rules-apart (rule_at sizes lines q) other d.broken (b.kept q before))
        | inr past_too ↦
            let place : p ≡ q = omega arith in
            let rules = some-is (rule_at sizes lines q) rule other
            (subst (λ (k : ℕ). rule_at sizes lines k ≡ Some rule) place b.broken) d.broken in
            e ∙ fault-at p q rule other place rules ∙ sym h
      ]
    ]

fault-is : (sizes : Sizes) (text : List ℕ) (f g : AuxFault) → IsFirstFault sizes text f → IsFirstFault sizes text g
    → f ≡ g
fault-is sizes text f g (too_long long e) (too_long long_too h) = e ∙ sym h
fault-is sizes text f g (too_long long e) (at_line short q other d h) = absurd (omega arith)
fault-is sizes text f g (too_long long e) (of_whole short kept differ h) = absurd (omega arith)
fault-is sizes text f g (at_line short p rule b e) (too_long long h) = absurd (omega arith)
fault-is sizes text f g (at_line short p rule b e) (at_line short_too q other d h) =
    same-fault sizes (lines_of text) p q rule other f g b d e h
fault-is sizes text f g (at_line short p rule b e) (of_whole short_too kept differ h) =
    absurd (kept-apart sizes (lines_of text) p rule kept b)
fault-is sizes text f g (of_whole short kept differ e) (too_long long h) = absurd (omega arith)
fault-is sizes text f g (of_whole short kept differ e) (at_line short_too q other d h) =
    absurd (kept-apart sizes (lines_of text) q other kept d)
fault-is sizes text f g (of_whole short kept differ e) (of_whole short_too kept_too differ_too h) = e ∙ sym h

-- ---- each text says one

-- the counts agree or don't
one-number-by : (z : ℤ) (count : ℕ) (test : Bool) → int_eq z (pos count) ≡ test
    → ((z ∷ []) ≡ pos count ∷ []) ⊎ ((z ∷ []) ≢ pos count ∷ [])
one-number-by z count true e = inl (ap (λ (y : ℤ). y ∷ []) ((Decides-int_eq z (pos count)).0 e))
one-number-by z count false e =
    inr (λ same. let is : z ≡ pos count = cc in false≢true (sym e ∙ (Decides-int_eq z (pos count)).1 is))

one-number : (numbers : List ℤ) (count : ℕ) → (numbers ≡ pos count ∷ []) ⊎ (numbers ≢ pos count ∷ [])
one-number [] count = inr (λ e. absurd cc)
one-number (z ∷ []) count = one-number-by z count (int_eq z (pos count)) refl
one-number (z ∷ y ∷ zs) count = inr (λ e. absurd cc)

counts-agree : (given : Given) → CountsAgree given ⊎ (CountsAgree given → ⊥)
counts-agree given =
    elim (one-number given.column_counts (length given.columns)) [
      | inr differ ↦ inr (λ a. differ a.columns)
      | inl columns ↦ elim (one-number given.row_counts (length given.rows)) [
        | inr differ ↦ inr (λ a. differ a.rows)
        | inl rows ↦ elim (cases_eq (length given.costs) (length given.columns)) [
          | inl costs ↦ inl (record { columns = columns; rows = rows; costs = costs })
          | inr differ ↦ inr (λ a. differ a.costs)
        ]
      ]
    ]

-- numbers from 0 on as places
places-step : (limit : ℕ) (z : ℤ) → is_below limit z ≡ true → (zs : List ℤ) → map pos (map unsigned_abs zs) ≡ zs
    → map pos (map unsigned_abs (z ∷ zs)) ≡ z ∷ zs
places-step limit (pos n) e zs h = ap (λ (ys : List ℤ). pos n ∷ ys) h
places-step limit (negsuc n) e zs h = absurd (false≢true e)

places-of : (limit : ℕ) (numbers : List ℤ) → All (λ z. is_below limit z ≡ true) numbers
    → map pos (map unsigned_abs numbers) ≡ numbers
places-of limit [] h = refl
places-of limit (z ∷ zs) h =
    places-step limit z (h 0 z (omega arith)) zs (places-of limit zs (λ k d lt. h (suc k) d (omega arith)))

the-follower : Given → RawAux
the-follower given =
    record {
      columns = map unsigned_abs given.columns;
      rows = map unsigned_abs given.rows;
      costs = given.costs;
      sense =
          sense_of given.senses;
    }

is-given : (sizes : Sizes) (given : Given) → IsGood sizes given → IsGiven given (the-follower given)
unfolding the-follower
is-given sizes given good = record {
  columns = places-of sizes.columns given.columns good.columns_are.each_below;
  rows = places-of sizes.rows given.rows good.rows_are.each_below;
  costs = refl;
  sense = refl;
}

abbrev SaysOne : Sizes → List ℕ → Type 0
SaysOne sizes text = ((aux : RawAux) × Says sizes text aux) ⊎ ((fault : AuxFault) × IsFirstFault sizes text fault)

one-kept : (sizes : Sizes) (text : List ℕ) → length text ≤ MAX_TEXT_BYTES → KeepsRules sizes (lines_of text)
    → SaysOne sizes text
one-kept sizes text short kept =
    let given = given_by (entries_of (lines_of text)) in
    elim (counts-agree given) [
      | inl agree ↦ inl (
        the-follower given,
        record {
          short = short;
          kept = kept;
          counts = agree;
          given =
              is-given sizes given (good_of sizes (lines_of text) kept);
        },
      )
      | inr differ ↦ inr (record { rule = CountDiffers; line = 0 }, of_whole short kept differ refl)
    ]

one-ended : (sizes : Sizes) (text : List ℕ) (ended : Result Holding AuxFault) → length text ≤ MAX_TEXT_BYTES
    → Ends sizes (lines_of text) ended → SaysOne sizes text
one-ended sizes text (Ok held) short e = one-kept sizes text short e.0
one-ended sizes text (Err fault) short e = inr (fault, at_line short e.0 e.1.0 e.1.1 e.1.2)

one : (sizes : Sizes) (text : List ℕ) → SaysOne sizes text
one sizes text =
    elim (cases_lt MAX_TEXT_BYTES (length text)) [
      | inl long ↦ inr (record { rule = TooLong; line = 0 }, too_long long refl)
      | inr short ↦ one-ended sizes text (after_lines (held_by sizes []) 1 (lines_of text)) short
          (ends_of sizes (lines_of text))
    ]

pub tells_one : TellsOne
tells_one = record { one = one; apart = apart; follower = follower; fault = fault-is }
