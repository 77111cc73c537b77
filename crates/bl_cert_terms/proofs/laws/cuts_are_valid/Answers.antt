use Rattle.bl_cert_terms.proofs.CertificateLemmas.{cuts_are_valid}
use Rattle.bl_cert_terms.proofs.laws.cuts_are_valid.Goals as goal

pub returns : goal.returns
returns c = cuts_are_valid
