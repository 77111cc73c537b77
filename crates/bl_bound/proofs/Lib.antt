pub mod SumSteps
pub mod PlainLaws
