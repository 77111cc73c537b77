-- The decimal text of a number is a word.
use Rattle.std.proofs.Common.{◌≤◌, ℤ, unsigned_abs}
use Rattle.std.specs.Fmt.{signed_decimal}
use Rattle.bl_limits.specs.declared.TheConstants.{MAX_WHOLE}
use Rattle.bl_num.proofs.DecimalFields.{decimal_field, decimal_line}
use Rattle.bl_mps_laws.proofs.Tokens.{IsWord}

pub number_word : (z : ℤ) → unsigned_abs z ≤ MAX_WHOLE → IsWord (signed_decimal z)
number_word z le = record { field = decimal_field z le; line = decimal_line z le }
