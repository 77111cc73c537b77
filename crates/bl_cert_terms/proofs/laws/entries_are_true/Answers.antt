use Rattle.bl_cert_terms.proofs.CertificateLemmas.{entries_are_true}
use Rattle.bl_cert_terms.proofs.laws.entries_are_true.Goals as goal

pub returns : goal.returns
returns c = entries_are_true
