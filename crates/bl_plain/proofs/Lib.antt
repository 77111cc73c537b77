pub mod AnswerLemmas
pub mod BestLemmas
pub mod FollowerLemmas
pub mod LeaderLemmas
pub mod WalkLemmas
