-- Answers is trusted: what is said of a link. Numbers is internal: the numbers that pairs list.
pub mod Answers
pub mod Numbers
