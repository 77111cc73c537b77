-- what is read of a text (trusted)
pub mod Read
