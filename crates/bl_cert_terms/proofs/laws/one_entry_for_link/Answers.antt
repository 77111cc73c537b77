use Rattle.bl_cert_terms.proofs.CertificateLemmas.{one_entry_for_link}
use Rattle.bl_cert_terms.proofs.laws.one_entry_for_link.Goals as goal

pub returns : goal.returns
returns c = one_entry_for_link
