-- Trusted. Why a box may not be split.
use Rattle.bl_leaf_terms.specs.Nodes.{NodeLicence, IsNodeLicence}
use Rattle.bl_tree.specs.declared.licence.WhyFail.{WhyFail}
use Rattle.bl_tree.specs.declared.licence.WhyFail.TheVariants.{NotLicensed, Memory}

-- the licence doesn't hold, or there was no memory to find out
abbrev pub IsWhyFailure : NodeLicence → WhyFail → Type 0
IsWhyFailure l NotLicensed = ¬ IsNodeLicence l
IsWhyFailure l Memory = Unit {0}
