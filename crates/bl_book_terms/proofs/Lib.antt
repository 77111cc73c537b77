pub mod NodeLemmas
pub mod StepLemmas
pub mod RunLemmas
pub mod ClaimLemmas
