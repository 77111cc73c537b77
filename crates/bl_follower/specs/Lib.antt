-- Exhausted and Answers are trusted: what is kept where the nodes are spent, and what an answer and a failure of the
-- solver mean. Search and Ends are internal.
pub mod Exhausted
pub mod Answers
pub mod Search
pub mod Ends
