pub mod BasicValues
pub mod OpeningRows
pub mod OpenOptimum
