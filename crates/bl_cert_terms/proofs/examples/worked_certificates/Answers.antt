use Rattle.bl_cert_terms.proofs.ExampleLemmas.{worked_certificates}
use Rattle.bl_cert_terms.proofs.examples.worked_certificates.Goals as goal

pub returns : goal.returns
returns c = worked_certificates
