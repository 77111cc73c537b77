-- Internal. The forms of lines, each with its first word.
use Rattle.std.specs.Prelude.{find, Option, codes}
use Rattle.std.specs.Str.{bytes_eq}
use Rattle.bl_certline.specs.declared.form.TheConstants.{FORMS}
use Rattle.bl_certline.specs.declared.form.Form.{Form}
use Rattle.bl_certline.specs.declared.form.Form.TheVariants as forms
use Rattle.bl_certline.specs.Fields.{Bytes}

abbrev pub word_of : Form → Bytes
word_of forms.Version = codes "mibs-certificate"
word_of forms.Sense = codes "sense"
word_of forms.States = codes "states"
word_of forms.Point = codes "point"
word_of forms.Entries = codes "entries"
word_of forms.Entry = codes "entry"
word_of forms.Best = codes "best"
word_of forms.NoAnswer = codes "none"
word_of forms.Split = codes "split"
word_of forms.Proof = codes "proof"
word_of forms.Cuts = codes "cuts"
word_of forms.Cut = codes "cut"
word_of forms.Area = codes "box"
word_of forms.Tight = codes "tight"
word_of forms.Inverse = codes "inverse"
word_of forms.Multiples = codes "unit"
word_of forms.At = codes "at"
word_of forms.Response = codes "response"
word_of forms.Tree = codes "tree"
word_of forms.Close = codes "close"
word_of forms.End = codes "end"

-- the form of the lines that begin with this word
abbrev pub form_of : Bytes → Option Form
form_of word = find (λ form. bytes_eq word (word_of form)) FORMS
