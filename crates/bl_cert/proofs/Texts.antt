-- Lines that are put one after the other at the end of a text.
use Rattle.std.proofs.Common.{◌≡◌, List, [], ◌∷◌, ◌++◌, sym, ◌∙◌, ap, append_assoc}
use Rattle.std.specs.List.{flat_map}
use Rattle.std.proofs.lemmas.List.{append-nil}
use Rattle.std.proofs.lemmas.List.Concat.{flat_map-append}
use Rattle.bl_certline.specs.declared.line.CertLine.{CertLine}
use Rattle.bl_certline.specs.Fields.{Bytes}
use Rattle.bl_certtext.specs.Texts.{line_text, text_of}

-- further lines
pub put-more : (text mid new : Bytes) (ls more : List CertLine) → mid ≡ text ++ text_of ls → new ≡ mid ++ text_of more
    → new ≡ text ++ text_of (ls ++ more)
put-more text mid new ls more first then =
    then ∙ ap (λ (t : Bytes). t ++ text_of more) first
    ∙ (append_assoc text (text_of ls) (text_of more)
    ∙ ap (λ (t : Bytes). text ++ t) (sym (flat_map-append line_text ls more)))

-- the lines of a further item
pub put-item : {X : Type 0} (lines : X → List CertLine) (text mid new : Bytes) (xs : List X) (x : X)
    → mid ≡ text ++ text_of (flat_map lines xs) → new ≡ mid ++ text_of (lines x)
    → new ≡ text ++ text_of (flat_map lines (xs ++ x ∷ []))
put-item lines text mid new xs x first then =
    put-more text mid new (flat_map lines xs) (lines x) first then
    ∙ ap (λ (ls : List CertLine). text ++ text_of ls)
    (ap (λ (ls : List CertLine). flat_map lines xs ++ ls) (sym (append-nil (lines x)))
    ∙ sym (flat_map-append lines xs (x ∷ [])))
