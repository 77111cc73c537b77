-- All are trusted. ValidRows and NoGoods: rows that no bilevel feasible point of a box breaks, and the cuts that are
-- shown to be such. Adopting: the list of steps of a cut that uses others, and cuts whose steps alone make such a list.
pub mod ValidRows
pub mod NoGoods
pub mod Adopting
