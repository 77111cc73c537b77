pub mod OptionLemmas
pub mod ReadLemmas
pub mod StepLemmas
pub mod BookLemmas
pub mod OutcomeLemmas
