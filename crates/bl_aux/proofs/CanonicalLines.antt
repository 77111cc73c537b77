-- The lines of a canonical text, and what each says.
use Rattle.std.proofs.Common.{◌≡◌, ℕ, zero, suc, ◌+◌, ◌^◌, ◌<◌, ◌≤◌, Bool, true, false, cond, eqb, List, [], ◌∷◌, ◌++◌}
use Rattle.std.proofs.Common.{length, map, Option, Some, None, Ok, Err, Result, refl, sym, ap, ◌∙◌, arith, ℤ, pos}
use Rattle.std.proofs.Common.{negsuc, codes, unsigned_abs, append_assoc}
use Rattle.std.specs.Fmt.{decimal, signed_decimal}
use Rattle.std.specs.List.{flat_map, AllByRecursion}
use Rattle.std.specs.Int.{IsInRange}
use Rattle.std.specs.Str.Parse.{AllDigits}
use Rattle.std.proofs.lemmas.Bool.{le-leb}
use Rattle.std.proofs.lemmas.Bool.Decides.{nat_tests}
use Rattle.std.proofs.lemmas.Fmt.{decimal_is_IsNumeral_wide}
use Rattle.std.proofs.lemmas.Str.Parse.{digit_at}
use Rattle.bl_limits.specs.declared.TheConstants.{MAX_WHOLE, MAX_NUMBER}
use Rattle.bl_text.specs.Fields.{is_blank, fields_of, IsField, AreRuns}
use Rattle.bl_text.specs.Lines.{ended, IsLine, lines_of}
use Rattle.bl_text.proofs.FieldLaws.{are_runs}
use Rattle.bl_num.specs.Numbers.{read_of}
use Rattle.bl_num.proofs.DecimalFields.{decimal_field, decimal_line}
use Rattle.bl_num.proofs.Meanings.{reads_decimals}
use Rattle.bl_aux.specs.declared.keys.Key.{Key}
use Rattle.bl_aux.specs.declared.keys.Key.TheVariants.{N, M, Lc, Lr, Lo, Os}
use Rattle.bl_aux.specs.declared.line.Entry.{Entry}
use Rattle.bl_aux.specs.declared.fault.AuxRule.{AuxRule}
use Rattle.bl_aux.specs.Lines.{is_large, sized, numbered, keyed, key_of, two_fields, said, line_said, some_said}
use Rattle.bl_aux.specs.Canonical.{number_line, number_lines}

abbrev pub word_of : Key → List ℕ
word_of N = codes "N"
word_of M = codes "M"
word_of Lc = codes "LC"
word_of Lr = codes "LR"
word_of Lo = codes "LO"
word_of Os = codes "OS"

-- a key's line without its line feed
abbrev pub line_of : Key → ℤ → List ℕ
line_of key number = word_of key ++ 32 ∷ signed_decimal number

pub number_line-ended : (key : Key) (number : ℤ) → number_line (word_of key) number ≡ ended (line_of key number)
number_line-ended N number = refl
number_line-ended M number = refl
number_line-ended Lc number = refl
number_line-ended Lr number = refl
number_line-ended Lo number = refl
number_line-ended Os number = refl

pub number_lines-ended : (key : Key) (numbers : List ℤ)
    → number_lines (word_of key) numbers ≡ flat_map ended (map (line_of key) numbers)
number_lines-ended key [] = refl
number_lines-ended key (z ∷ zs) = rw (number_line-ended key z, number_lines-ended key zs) refl

pub line-of : (key : Key) (z : ℤ) → unsigned_abs z ≤ MAX_WHOLE → IsLine (line_of key z)
line-of N z le = (refl, (refl, decimal_line z le))
line-of M z le = (refl, (refl, decimal_line z le))
line-of Lc z le = (refl, (refl, (refl, decimal_line z le)))
line-of Lr z le = (refl, (refl, (refl, decimal_line z le)))
line-of Lo z le = (refl, (refl, (refl, decimal_line z le)))
line-of Os z le = (refl, (refl, (refl, decimal_line z le)))

word-field : (key : Key) → IsField (word_of key)
word-field N = (refl, tt)
word-field M = (refl, tt)
word-field Lc = (refl, (refl, tt))
word-field Lr = (refl, (refl, tt))
word-field Lo = (refl, (refl, tt))
word-field Os = (refl, (refl, tt))

fields-of : (key : Key) (z : ℤ) → unsigned_abs z ≤ MAX_WHOLE
    → fields_of (line_of key z) ≡ word_of key ∷ signed_decimal z ∷ []
fields-of key z le =
    are_runs.parted (word_of key) (signed_decimal z) 32 refl
    ∙ rw (are_runs.run (word_of key) (word-field key), are_runs.run (signed_decimal z) (decimal_field z le)) refl

said-word : (key : Key) (text : List ℕ) → said (word_of key ∷ text ∷ []) ≡ numbered key (read_of text)
unfolding said
said-word N text = refl
said-word M text = refl
said-word Lc text = refl
said-word Lr text = refl
said-word Lo text = refl
said-word Os text = refl

sized-fine : (key : Key) (z : ℤ) → is_large key z ≡ false → sized key z ≡ Ok (record { key = key; number = z })
sized-fine key z h = rw h refl

-- what a canonical line says
pub line_said-of : (key : Key) (z : ℤ) → unsigned_abs z ≤ MAX_WHOLE → is_large key z ≡ false
    → line_said (fields_of (line_of key z)) ≡ Ok (Some (record { key = key; number = z }))
line_said-of key z le small =
    ap line_said (fields-of key z le)
    ∙ ap some_said (said-word key (signed_decimal z) ∙ ap (numbered key) (reads_decimals z le) ∙ sized-fine key z small)
