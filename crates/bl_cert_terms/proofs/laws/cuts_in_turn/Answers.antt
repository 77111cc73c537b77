use Rattle.bl_cert_terms.proofs.CertificateLemmas.{cuts_in_turn}
use Rattle.bl_cert_terms.proofs.laws.cuts_in_turn.Goals as goal

pub returns : goal.returns
returns c = cuts_in_turn
