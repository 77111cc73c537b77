-- Trusted. What a checker keeps of a certificate's lines.
pub mod Saying
