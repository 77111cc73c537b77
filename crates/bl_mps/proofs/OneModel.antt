-- A text says one model, or has a first fault.
use Rattle.std.proofs.Common.{◌≡◌, ℕ, Bool, List, [], ◌∷◌, Option, Some, None, Result, Ok, Err, ℤ, refl, sym, ap, ◌∙◌}
use Rattle.std.proofs.Common.{inl, inr, ◌⊎◌}
use Rattle.std.specs.List.{AllZip}
use Rattle.bl_raw.specs.declared.raw.RawRow.{RawRow}
use Rattle.bl_raw.specs.declared.raw.RawColumn.{RawColumn}
use Rattle.bl_raw.specs.declared.raw.RawMps.{RawMps}
use Rattle.bl_text.specs.Lines.{lines_of}
use Rattle.bl_mps_terms.specs.declared.fault.MpsFault.{MpsFault}
use Rattle.bl_mps_terms.specs.declared.words.Section.TheVariants.{Columns}
use Rattle.bl_mps_terms.specs.Words.{Bytes}
use Rattle.bl_mps_terms.specs.Parts.{under, lines_read}
use Rattle.bl_mps_terms.specs.Lines.{columns_of}
use Rattle.bl_mps_terms.specs.Faults.{first_fault}
use Rattle.bl_mps_terms.specs.Meaning.{IsColumnOf, Says, Reads}
use Rattle.bl_mps_read.specs.declared.error.MpsError.{MpsError}
use Rattle.bl_mps_read.specs.declared.error.MpsError.TheVariants.{Fault, Memory}
use Rattle.bl_mps_read.specs.Errors.{GivesRead}
use Rattle.bl_mps_model.specs.Model.{mps_read}
use Rattle.bl_mps.specs.Read.{IsRead, OneReading, HasOneReading}
use Rattle.bl_mps.proofs.Model.{IsExact, read_exact}

-- ---- what is given is what is read

given_by : (default : ℤ) (text : List ℕ) (read : Result RawMps MpsFault) (result : Result RawMps MpsError)
    → IsExact default text read → GivesRead (λ mps. mps) result read → IsRead default text result
given_by default text (Ok mps) (Ok x) e g = let same : mps ≡ x = cc in rw (← same) e
given_by default text (Err fault) (Ok x) e g = absurd cc
given_by default text read (Err Memory) e g = tt
given_by default text (Ok mps) (Err (Fault f)) e g = absurd cc
given_by default text (Err fault) (Err (Fault f)) e g = let same : fault ≡ f = cc in rw (← same) e

pub given_exact : (default : ℤ) (text : List ℕ) (result : Result RawMps MpsError)
    → GivesRead (λ mps. mps) result (mps_read default text) → IsRead default text result
given_exact default text result g = given_by default text (mps_read default text) result (read_exact default text) g

-- ---- one model

same_column : (a b : RawColumn) → a.name ≡ b.name → a.lo ≡ b.lo → a.hi ≡ b.hi → a.cost ≡ b.cost → a.entries ≡ b.entries
    → a ≡ b
same_column a b name lo hi cost entries =
    ap (λ (x : Bytes). record { name = x; lo = a.lo; hi = a.hi; cost = a.cost; entries = a.entries }) name
    ∙ ap (λ (x : ℤ). record { name = b.name; lo = x; hi = a.hi; cost = a.cost; entries = a.entries }) lo
    ∙ ap (λ (x : ℤ). record { name = b.name; lo = b.lo; hi = x; cost = a.cost; entries = a.entries }) hi
    ∙ ap (λ (x : ℤ). record { name = b.name; lo = b.lo; hi = b.hi; cost = x; entries = a.entries }) cost
    ∙ ap (λ (x : List (ℕ × ℤ)). record { name = b.name; lo = b.lo; hi = b.hi; cost = b.cost; entries = x }) entries

some_is : (x y : ℤ) → Some x ≡ Some y → x ≡ y
some_is x y e = cc

some_name : (x y : Bytes) → Some x ≡ Some y → x ≡ y
some_name x y e = cc

one_column : (default : ℤ) (lines : List Bytes) (name : Bytes) (a b : RawColumn) → IsColumnOf default lines name a
    → IsColumnOf default lines name b → a ≡ b
one_column default lines name a b h g =
    same_column a b (h.named ∙ sym g.named) (some_is a.lo b.lo (h.lower ∙ sym g.lower))
    (some_is a.hi b.hi (h.upper ∙ sym g.upper)) (some_is a.cost b.cost (h.cost ∙ sym g.cost))
    (h.entries ∙ sym g.entries)

one_list : (default : ℤ) (lines names : List Bytes) (xs ys : List RawColumn)
    → AllZip (IsColumnOf default lines) names xs → AllZip (IsColumnOf default lines) names ys → xs ≡ ys
one_list default lines [] [] [] h g = refl
one_list default lines [] (a ∷ xs) ys h g = absurd h
one_list default lines [] [] (b ∷ ys) h g = absurd g
one_list default lines (name ∷ names) [] ys h g = absurd h
one_list default lines (name ∷ names) (a ∷ xs) [] h g = absurd g
one_list default lines (name ∷ names) (a ∷ xs) (b ∷ ys) h g =
    ap (λ (x : RawColumn). x ∷ xs) (one_column default lines name a b h.0 g.0)
    ∙ ap (λ (zs : List RawColumn). b ∷ zs) (one_list default lines names xs ys h.1 g.1)

says_one : (default : ℤ) (lines : List Bytes) (a b : RawMps) → Says default lines a → Says default lines b → a ≡ b
says_one default lines a b h g =
    ap (λ (x : Bool). record { maximise = x; objective = a.objective; rows = a.rows; columns = a.columns })
    (h.sense ∙ sym g.sense)
    ∙ ap (λ (x : Bytes). record { maximise = b.maximise; objective = x; rows = a.rows; columns = a.columns })
    (some_name a.objective b.objective (h.objective ∙ sym g.objective))
    ∙ ap (λ (x : List RawRow).
    record { maximise = b.maximise; objective = b.objective; rows = x; columns = a.columns }) (h.rows ∙ sym g.rows)
    ∙ ap (λ (x : List RawColumn). record { maximise = b.maximise; objective = b.objective; rows = b.rows; columns = x })
    (one_list default lines (columns_of (under Columns lines)) a.columns b.columns h.columns g.columns)

either_by : (default : ℤ) (text : List ℕ) (read : Result RawMps MpsFault) → IsExact default text read
    → ((mps : RawMps) × Reads default text mps) ⊎ ((fault : MpsFault) × (first_fault default text ≡ Some fault))
either_by default text (Ok mps) e = inl (mps, e)
either_by default text (Err fault) e = inr (fault, e)

pub has_one_reading : HasOneReading
has_one_reading default text = record {
  either = either_by default text (mps_read default text) (read_exact default text);
  never_both = λ mps fault r e. let none : first_fault default text ≡ None = r.faultless in cc;
  one = λ a b h g. says_one default (lines_read (lines_of text)) a b h.says g.says;
}
