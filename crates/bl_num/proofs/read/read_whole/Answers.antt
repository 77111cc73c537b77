use Rattle.std.proofs.Common.{◌≡◌, true, Bool, Some, sym, ap, ◌∙◌}
use Rattle.std.specs.Option.{option_map}
use Rattle.std.specs.Str.Parse.{starts_with_minus}
use Rattle.bl_num.specs.Numbers.{Parts, parts_of, is_number, magnitude_of, limited, read_of}
use Rattle.bl_num.specs.Capped.{capped}
use Rattle.bl_num.proofs.Magnitudes.{limited-capped}
use Rattle.bl_num.proofs.read.read_whole.Goals as goal

pub returns-in-Some : goal.returns-in-Some
unfolding parts_of read_of
returns-in-Some c =
    let bytes = c.args.bytes.now in
    let parts = c.parts_of-parts.ensures in
    let sign : c.parts.inside.negative ≡ starts_with_minus bytes =
    ap (λ (p : Parts). p.negative) (c.parts.view_is ∙ parts) in
    let number : is_number (parts_of bytes) ≡ true =
    ap is_number (sym parts) ∙ sym c.is_number.ensures ∙ c.if-not-is_number.false in
    rw number
    (c.limited.ensures
    ∙ ap (λ (b : Bool). limited b (Some c.in-Some.magnitude)) sign
    ∙ ap (limited (starts_with_minus bytes))
    (c.in-Some.ensures ∙ ap (λ (p : Parts). option_map capped (magnitude_of p)) parts)
    ∙ limited-capped (starts_with_minus bytes) (magnitude_of (parts_of bytes)))
