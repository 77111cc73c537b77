use Rattle.bl_cert_terms.proofs.CertificateLemmas.{accepted_law}
use Rattle.bl_cert_terms.proofs.laws.accepted_law.Goals as goal

pub returns : goal.returns
returns c = accepted_law
