use Rattle.bl_vertex.proofs.OpenOptimum.{between, fractional, whole}
use Rattle.bl_vertex.proofs.laws.open_optimum_law.Goals as goal

pub returns-clause-in_box : goal.returns-clause-in_box
returns-clause-in_box c = between

pub returns-clause-fractional : goal.returns-clause-fractional
returns-clause-fractional c = fractional

pub returns-clause-whole : goal.returns-clause-whole
returns-clause-whole c = whole
