-- that canonical texts read back (trusted)
pub mod ReadsBack
