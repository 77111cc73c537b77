pub mod CertificateLemmas
pub mod ExampleLemmas
