pub mod Truth
pub mod Picks
pub mod Problems
pub mod Walks
