pub mod Responses
pub mod Boxes
pub mod Progress
pub mod Ends
