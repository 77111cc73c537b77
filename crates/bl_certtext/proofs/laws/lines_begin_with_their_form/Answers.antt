use Rattle.bl_certtext.proofs.BegunForms.{begins_with_form}
use Rattle.bl_certtext.proofs.laws.lines_begin_with_their_form.Goals as goal

pub returns : goal.returns
returns c = begins_with_form
