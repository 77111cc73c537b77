pub mod HeldLemmas
pub mod PartBoxes
pub mod RowLemmas
pub mod SumLemmas
pub mod UnitLemmas
