use Rattle.bl_cert_terms.proofs.CertificateLemmas.{one_more_rises}
use Rattle.bl_cert_terms.proofs.laws.one_more_rises.Goals as goal

pub returns : goal.returns
returns c = one_more_rises
