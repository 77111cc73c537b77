-- Trusted: what the two texts of a model say, how a text that says nothing is refused, and the names of rules.
use Rattle.std.specs.Prelude.{◌≡◌, ℕ, ℤ, ◌==◌, Bool, true, false, List, length, Some, codes, if◌then◌else◌}
use Rattle.bl_raw.specs.declared.raw.RawMps.{RawMps}
use Rattle.bl_raw.specs.declared.raw.RawAux.{RawAux}
use Rattle.bl_mps_terms.specs.declared.fault.MpsFault.{MpsFault}
use Rattle.bl_mps_terms.specs.declared.fault.MpsRule.{MpsRule}
use Rattle.bl_mps_terms.specs.declared.fault.MpsRule.TheVariants as mps
use Rattle.bl_mps_terms.specs.Faults.{first_fault}
use Rattle.bl_mps_terms.specs.Meaning as meaning
use Rattle.bl_aux.specs.declared.fault.AuxFault.{AuxFault}
use Rattle.bl_aux.specs.declared.fault.AuxRule.{AuxRule}
use Rattle.bl_aux.specs.declared.fault.AuxRule.TheVariants as aux
use Rattle.bl_aux.specs.Given.{Sizes, sizes_of}
use Rattle.bl_aux.specs.Texts.{Says, IsFirstFault}
use Rattle.bl_check_terms.specs.declared.rule.CertRule.{CertRule}
use Rattle.bl_check_terms.specs.declared.rule.CertRule.TheVariants as cert
use Rattle.bl_run.specs.Endings.{Place, AtLine, AtColumn, AsWhole}

-- lines count from 1, and 0 stands for the whole
abbrev pub line_place : ℕ → Place
line_place line = if line == 0 then AsWhole else AtLine line

-- ---- MPS texts

-- a rule by its name
abbrev pub mps_rule : MpsRule → List ℕ
mps_rule mps.BadSection = codes "BadSection"
mps_rule mps.BadFields = codes "BadFields"
mps_rule mps.BadObjSense = codes "BadObjSense"
mps_rule mps.DuplicateRow = codes "DuplicateRow"
mps_rule mps.TooMany = codes "TooMany"
mps_rule mps.DuplicateColumn = codes "DuplicateColumn"
mps_rule mps.UnknownRow = codes "UnknownRow"
mps_rule mps.UnknownColumn = codes "UnknownColumn"
mps_rule mps.BadNumber = codes "BadNumber"
mps_rule mps.NotWhole = codes "NotWhole"
mps_rule mps.TooLarge = codes "TooLarge"
mps_rule mps.DuplicateEntry = codes "DuplicateEntry"
mps_rule mps.ObjectiveConstant = codes "ObjectiveConstant"
mps_rule mps.NoEnd = codes "NoEnd"
mps_rule mps.TooLong = codes "TooLong"
mps_rule mps.NoObjective = codes "NoObjective"
mps_rule mps.Continuous = codes "Continuous"
mps_rule mps.Unbounded = codes "Unbounded"
mps_rule mps.NegativeUpper = codes "NegativeUpper"
mps_rule mps.EmptyBounds = codes "EmptyBounds"

-- the rule is broken by one column
abbrev pub is_of_column : MpsRule → Bool
is_of_column mps.Continuous = true
is_of_column mps.Unbounded = true
is_of_column mps.NegativeUpper = true
is_of_column mps.EmptyBounds = true
is_of_column _ = false

-- a line, or else a column where the rule is broken by one
abbrev pub column_place : Bool → MpsFault → Place
column_place true fault = AtColumn fault.column
column_place false fault = AsWhole

abbrev pub mps_place : MpsFault → Place
mps_place fault = if fault.line == 0 then column_place (is_of_column fault.rule) fault else AtLine fault.line

-- the MPS text says this model, with a default upper bound
abbrev pub IsMpsText : ℤ → List ℕ → RawMps → Type 0
IsMpsText default text mps = meaning.Reads default text mps

-- the MPS text breaks this rule at this place, before any other
pub record IsMpsFault (default : ℤ) (text : List ℕ) (place : Place) (rule : List ℕ) : Type 0 where
  pub fault : MpsFault
  pub first : first_fault default text ≡ Some fault
  pub at : place ≡ mps_place fault
  pub by_rule : rule ≡ mps_rule fault.rule

-- ---- auxiliary texts

-- a rule by its name
abbrev pub aux_rule : AuxRule → List ℕ
aux_rule aux.Unsupported = codes "Unsupported"
aux_rule aux.BadKey = codes "BadKey"
aux_rule aux.BadNumber = codes "BadNumber"
aux_rule aux.NotWhole = codes "NotWhole"
aux_rule aux.TooLarge = codes "TooLarge"
aux_rule aux.OutOfOrder = codes "OutOfOrder"
aux_rule aux.Repeated = codes "Repeated"
aux_rule aux.BadIndex = codes "BadIndex"
aux_rule aux.BadSense = codes "BadSense"
aux_rule aux.CountDiffers = codes "CountDiffers"
aux_rule aux.TooLong = codes "TooLong"

-- how many columns and rows the model has
abbrev pub sizes : RawMps → Sizes
sizes mps = sizes_of (length mps.columns) (length mps.rows)

-- the auxiliary text says this follower of the model
abbrev pub IsAuxText : RawMps → List ℕ → RawAux → Type 0
IsAuxText mps text aux = Says (sizes mps) text aux

-- the auxiliary text breaks this rule at this place, before any other
pub record IsAuxFault (mps : RawMps) (text : List ℕ) (place : Place) (rule : List ℕ) : Type 0 where
  pub fault : AuxFault
  pub first : IsFirstFault (sizes mps) text fault
  pub at : place ≡ line_place fault.line
  pub by_rule : rule ≡ aux_rule fault.rule

-- ---- certificates

-- a rule by its name
abbrev pub cert_rule : CertRule → List ℕ
cert_rule cert.Syntax = codes "Syntax"
cert_rule cert.Place = codes "Place"
cert_rule cert.Sense = codes "Sense"
cert_rule cert.Point = codes "Point"
cert_rule cert.Best = codes "Best"
cert_rule cert.Follower = codes "Follower"
cert_rule cert.Size = codes "Size"
cert_rule cert.Inverse = codes "Inverse"
cert_rule cert.Tight = codes "Tight"
cert_rule cert.Response = codes "Response"
cert_rule cert.Cited = codes "Cited"
cert_rule cert.Proof = codes "Proof"
cert_rule cert.Tail = codes "Tail"
