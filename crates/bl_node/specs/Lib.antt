-- Works and NodeCuts are trusted: what the work at a node answers, and the cuts that are made there. Standing and
-- CutOutcomes are internal.
pub mod NodeCuts
pub mod Works
pub mod Standing
pub mod CutOutcomes
