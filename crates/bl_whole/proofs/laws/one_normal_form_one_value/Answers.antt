use Rattle.bl_whole.proofs.IdentityLemmas.{identity}
use Rattle.bl_whole.proofs.laws.one_normal_form_one_value.Goals as goal

pub returns : goal.returns
returns c = identity
