pub mod Problems
pub mod Incumbents
pub mod Links
pub mod CutLists
pub mod Licences
pub mod PlainLaws
pub mod Leaves
