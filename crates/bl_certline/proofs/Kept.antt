-- Bytes to which others are added.
use Rattle.std.proofs.Common.{◌≡◌, [], ◌++◌, sym, ap, ◌∙◌, append_assoc}
use Rattle.std.proofs.lemmas.List.{append-nil}
use Rattle.bl_certline.specs.Fields.{Bytes}
use Rattle.bl_certline.specs.Spelled.{Keeps}

pub keeps_same : (a b : Bytes) → b ≡ a → Keeps a b
keeps_same a b e = record { more = []; kept = e ∙ sym (append-nil a) }

-- what is added to bytes that were added to
pub keeps_behind : (a b c t : Bytes) → b ≡ a ++ t → Keeps b c → Keeps a c
keeps_behind a b c t e h = record {
  more = t ++ h.more;
  kept = h.kept ∙ ap (λ (bs : Bytes). bs ++ h.more) e ∙ append_assoc a t h.more;
}
