-- Trusted. Where a line stands, as far as its rules ask.
use Rattle.std.specs.Prelude.{◌≡◌, ⊤}
use Rattle.std.specs.Arc.{arc_value}
use Rattle.bl_terms.specs.Points.{Area, IsArea, IsWithinArea}
use Rattle.bl_terms.specs.Programs.{Program, root}
use Rattle.bl_certtext.specs.declared.part.Part.{Part}
use Rattle.bl_certtext.specs.declared.part.Part.TheVariants as parts
use Rattle.bl_check_walk.specs.declared.site.Site.{Site}
use Rattle.bl_check_walk.specs.declared.site.Site.TheVariants as sites

-- a part of the program's box that isn't empty
pub record IsPartOf (p : Program) (a : Area) : Type 0 where
  pub area : IsArea a
  pub within : IsWithinArea a (root p)

-- the part's box, where it has one, is a part of the program's
abbrev pub IsSound : Program → Part → Type 0
IsSound p (parts.FollowerTree a) = IsPartOf p a
IsSound p (parts.Tree a cuts) = IsPartOf p a
IsSound p part = ⊤

-- the site is the part's
abbrev pub IsSite : Part → Site → Type 0
IsSite (parts.FollowerTree a) (sites.FollowerTree b) = arc_value b ≡ a
IsSite (parts.FollowerTree a) site = ⊥
IsSite (parts.Tree a cuts) (sites.Tree b) = arc_value b ≡ a
IsSite (parts.Tree a cuts) site = ⊥
IsSite part sites.Elsewhere = ⊤
IsSite part site = ⊥
