-- All are trusted. Values: what a line's words stand for. Reading: the certificate that lines say, line by line. Rules:
-- what each rule asks of a line. Accepting: which texts are accepted, where others are refused, and the laws. Writing:
-- the text of a certificate.
pub mod Accepting
pub mod Reading
pub mod Rules
pub mod Values
pub mod Writing
