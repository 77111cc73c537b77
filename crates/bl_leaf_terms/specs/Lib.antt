-- All are trusted. Incumbents: bilevel feasible points with the entries of their links. Nodes: the problem of a box and
-- the licences to split it. Leaves: what it means that a box is closed, and what shows it.
pub mod Incumbents
pub mod Nodes
pub mod Leaves
