-- Written is trusted: what is written of a book. The others are internal.
pub mod Entered
pub mod Order
pub mod Pieces
pub mod Placing
pub mod Written
