-- Cuts is trusted: what a proved cut and a list of cuts promise.
pub mod Cuts
