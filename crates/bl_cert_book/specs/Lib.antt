-- All are trusted. Entries: the entries that a book's certificate has. Leaves: the cuts that it has, and what closes a
-- leaf by their places. BookCertificates: the tree, the whole, and the law. Examples: finished books of small programs.
pub mod Entries
pub mod Leaves
pub mod BookCertificates
pub mod Examples
