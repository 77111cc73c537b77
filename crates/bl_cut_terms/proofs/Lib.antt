pub mod NoGoodLemmas
