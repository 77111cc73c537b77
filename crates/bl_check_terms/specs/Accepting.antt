-- Trusted. Which texts are accepted as certificates, and at which line and by which rule another one is refused.
-- Nothing here asks who wrote the text.
use Rattle.std.specs.Prelude.{ℕ, ◌≡◌, ◌+◌, ◌<◌, List, [], ◌∷◌, ◌++◌, length}
use Rattle.bl_terms.specs.Programs.{Program}
use Rattle.bl_model.specs.View.{IsModel}
use Rattle.bl_cert_terms.specs.declared.stated.Statement.{Statement}
use Rattle.bl_cert_terms.specs.Certificates.{Certificate, IsAccepted, StatementHolds}
use Rattle.bl_certline.specs.declared.line.CertLine.{CertLine}
use Rattle.bl_certline.specs.Fields.{Bytes}
use Rattle.bl_certline.specs.Lines.{IsWellFormed, PairsRise}
use Rattle.bl_certtext.specs.declared.part.Part.{Part}
use Rattle.bl_certtext.specs.Grammar.{Begins, parts_behind}
use Rattle.bl_certtext.specs.Forms.{HasForm}
use Rattle.bl_certtext.specs.Texts.{line_text, start, text_of}
use Rattle.bl_check_terms.specs.declared.rule.CertRule.{CertRule}
use Rattle.bl_check_terms.specs.declared.rule.CertRule.TheVariants as rules
use Rattle.bl_check_terms.specs.Reading.{nothing, with_line}
use Rattle.bl_check_terms.specs.Rules.{KeepsAll, IsFirstBroken}

-- ---- lines that keep all rules

-- the line is well formed and of the form with which the part begins
pub record IsFormed (p : Program) (part : Part) (line : CertLine) : Type 0 where
  pub well_formed : IsWellFormed line
  pub form : HasForm p part line

-- what it names is there, and in order
pub record IsPlaced (p : Program) (part : Part) (line : CertLine) : Type 0 where
  pub begins : Begins p part line
  pub rising : PairsRise line

-- the line may stand at the part and keeps all rules, where the certificate was said before it
pub record IsRightLine (p : Program) (c : Certificate) (part : Part) (line : CertLine) : Type 0 where
  pub formed : IsFormed p part line
  pub placed : IsPlaced p part line
  pub rules : KeepsAll p c part line

-- Right lines stand one after another: from where the first parts are expected and one certificate was said to where
-- the others are and the other one is said.
abbrev pub Reads : Program → List Part → Certificate → List CertLine → List Part → Certificate → Type 0
Reads p expected c [] left d = (left ≡ expected) × (d ≡ c)
Reads p [] c (line ∷ ls) left d = ⊥
Reads p (part ∷ expected) c (line ∷ ls) left d =
    IsRightLine p c part line × Reads p (parts_behind p part line ++ expected) (with_line p part line c) ls left d

-- ---- accepted texts

-- The text is right lines from the first to the last, and this is what they say.
pub record IsTextOf (p : Program) (bytes : Bytes) (c : Certificate) : Type 0 where
  pub lines : List CertLine
  pub reads : Reads p start nothing lines [] c
  pub spelled : bytes ≡ text_of lines

-- a certificate is accepted of the program, and what it states
abbrev pub Accepts : Program → Bytes → Statement → Type 0
Accepts p bytes s = (c : Certificate) × IsTextOf p bytes c × (c.statement ≡ s)

-- ---- refused texts

-- no line of a form with which the part begins comes next
abbrev pub HasNoLine : Program → Part → Bytes → Type 0
HasNoLine p part rest =
    (line : CertLine) (behind : Bytes) → IsFormed p part line → rest ≡ line_text line ++ behind → ⊥

-- such a line comes next
pub record HasLine (p : Program) (part : Part) (rest : Bytes) (line : CertLine) : Type 0 where
  pub formed : IsFormed p part line
  pub behind : Bytes
  pub spelled : rest ≡ line_text line ++ behind

-- the next line is refused by the rule: it has no form that may stand there; or it has, and isn't in its place; or it
-- is, and the rule is the first of the others that it breaks
abbrev pub IsRefusedAt : Program → Certificate → Part → Bytes → CertRule → Type 0
IsRefusedAt p c part rest rules.Syntax = HasNoLine p part rest
IsRefusedAt p c part rest rules.Place = (line : CertLine) × HasLine p part rest line × ¬ IsPlaced p part line
IsRefusedAt p c part rest rules.Tail = ⊥
IsRefusedAt p c part rest rule =
    (line : CertLine) × HasLine p part rest line × IsPlaced p part line × IsFirstBroken p c part line rule

-- what is left is refused: a byte where nothing is expected, or the next line
abbrev pub IsRefusedBy : Program → Certificate → List Part → Bytes → CertRule → Type 0
IsRefusedBy p c [] rest rule = (rule ≡ rules.Tail) × (0 < length rest)
IsRefusedBy p c (part ∷ expected) rest rule = IsRefusedAt p c part rest rule

-- The lines before this one, counted from 1, are right, and it is refused by the rule.
pub record FirstRefusal (p : Program) (bytes : Bytes) (number : ℕ) (rule : CertRule) : Type 0 where
  pub before : List CertLine
  pub rest : Bytes
  pub expected : List Part
  pub said : Certificate
  pub reads : Reads p start nothing before expected said
  pub spelled : bytes ≡ text_of before ++ rest
  pub refused : IsRefusedBy p said expected rest rule
  pub counted : number ≡ length before + 1

-- THE LAWS

-- the certificate that an accepted text is, is accepted
abbrev pub TextIsAccepted : Type 0
TextIsAccepted = (p : Program) (bytes : Bytes) (c : Certificate) → IsModel p → IsTextOf p bytes c → IsAccepted p c

-- so what an accepted text states is true of the program
abbrev pub AcceptanceLaw : Type 0
AcceptanceLaw = (p : Program) (bytes : Bytes) (s : Statement) → IsModel p → Accepts p bytes s → StatementHolds p s

-- a text states one thing at most, is refused at one line by one rule at most, and never both
pub record OneVerdict (p : Program) (bytes : Bytes) : Type 0 where
  pub one_statement : (s t : Statement) → Accepts p bytes s → Accepts p bytes t → s ≡ t
  pub one_line : (m n : ℕ) (q r : CertRule) → FirstRefusal p bytes m q → FirstRefusal p bytes n r → m ≡ n
  pub one_rule : (m n : ℕ) (q r : CertRule) → FirstRefusal p bytes m q → FirstRefusal p bytes n r → q ≡ r
  pub never_both : (s : Statement) (n : ℕ) (r : CertRule) → Accepts p bytes s → FirstRefusal p bytes n r → ⊥

abbrev pub HaveOneVerdict : Type 0
HaveOneVerdict = (p : Program) (bytes : Bytes) → OneVerdict p bytes
