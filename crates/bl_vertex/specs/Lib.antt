-- Internal: what the relaxation rests on.
pub mod Optima
