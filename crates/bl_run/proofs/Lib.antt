pub mod CertLemmas
pub mod OutcomeLemmas
pub mod PromiseLemmas
pub mod SolveLemmas
pub mod StatusLemmas
pub mod StepLemmas
pub mod WordsLemmas
