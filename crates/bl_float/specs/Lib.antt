-- Shapes is trusted: what a contract sees of the float simplex.
pub mod Shapes
