-- Both are trusted. Certificates: what a certificate has, when it is accepted, and the laws. Examples: certificates
-- that were worked out by hand.
pub mod Certificates
pub mod Examples
