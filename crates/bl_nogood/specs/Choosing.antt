-- Internal. Items of one kind; how the elimination fails as a failure to make a cut; and the parts that it makes.
use Rattle.std.specs.Prelude.{◌≡◌, ℕ, ℤ, List, length, Ok}
use Rattle.bl_terms.specs.Points.{Area}
use Rattle.bl_terms.specs.Programs.{Program, columns}
use Rattle.bl_cut_terms.specs.declared.parts.Tight.{Tight}
use Rattle.bl_cut_terms.specs.declared.parts.Tight.TheVariants.{Row, Upper, Lower, Cut}
use Rattle.bl_cut_terms.specs.declared.parts.CutParts.{CutParts}
use Rattle.bl_cut_terms.specs.NoGoods.{NoGoodCut}
use Rattle.bl_cut_proof.specs.Rows.{IsShown}
use Rattle.bl_elimination.specs.declared.basis.Basis.{Basis}
use Rattle.bl_elimination.specs.declared.basis.NoBasis.{NoBasis}
use Rattle.bl_elimination.specs.declared.basis.NoBasis.TheVariants as no_basis
use Rattle.bl_nogood.specs.declared.no_cut.NoCut.{NoCut}
use Rattle.bl_nogood.specs.declared.no_cut.NoCut.TheVariants.{NotUnique, TooLarge, Memory}
use Rattle.bl_nogood.specs.Making.{IsEliminated, parts_of}

-- the item of the same kind at another place
abbrev pub placed : Tight → ℕ → Tight
placed (Row i) k = Row k
placed (Upper j) k = Upper k
placed (Lower j) k = Lower k
placed (Cut i) k = Cut k

-- how the elimination fails is how the making of the cut fails
abbrev pub fails_as : NoBasis → NoCut
fails_as (no_basis.NotUnique pivots) = NotUnique pivots
fails_as (no_basis.TooLarge position) = TooLarge position
fails_as no_basis.Memory = Memory

-- the parts are those of the candidates that are kept, of so many candidates, and show the cut. As many are kept as
-- there are columns
pub record AreMadeParts (p : Program) (a : Area) (earlier : List NoGoodCut) (z y : List ℤ) (parts : CutParts)
    (count : ℕ) : Type 0 where
  pub candidates : List Tight
  pub basis : Basis
  pub eliminated : IsEliminated p a earlier z candidates (Ok basis)
  pub parts_are : parts ≡ parts_of candidates basis z y
  pub count_is : count ≡ length candidates
  pub square : length parts.tight ≡ columns p
  pub shown : IsShown p a earlier parts
