pub mod PlaceLemmas
pub mod BuildLemmas
pub mod ProgramLemmas
pub mod JoinLemmas
pub mod PointLemmas
pub mod BoxLemmas
