-- Trusted are Events, Accounts, Refusals, Tasks and Outcomes: the steps as the book keeps them, what contracts see of a
-- book, when a step is refused, what a worker gets to work on, and how a search ends. Tables is internal.
pub mod Events
pub mod Accounts
pub mod Refusals
pub mod Tasks
pub mod Outcomes
pub mod Tables
