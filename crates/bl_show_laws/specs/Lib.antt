-- that what `show` prints reads back (trusted)
pub mod ShowsBack
