-- Trusted. The program that a `Bilevel` is.
use Rattle.bl_terms.specs.Programs.{Program, IsProgram, KeepsLimits}
use Rattle.bl_model.specs.declared.bilevel.Bilevel.TheInside.{Inside}

-- the fields as a program
abbrev pub view_of : Inside → Program
view_of a = record {
  lo = a.lo.items;
  hi = a.hi.items;
  rows = a.rows.items;
  cost = a.cost.items;
  follower_cost = a.follower_cost.items;
  follower = a.follower.items;
  links = a.links.items;
  sense = a.sense;
  leader_sense = a.leader_sense;
}

-- a program whose parts fit together, within the limits
pub record IsModel (p : Program) : Type 0 where
  pub sound : IsProgram p
  pub limits : KeepsLimits p
