use Rattle.bl_book_terms.proofs.RunLemmas.{every_run_is_sound}
use Rattle.bl_book_terms.proofs.laws.every_run_is_sound.Goals as goal

pub returns : goal.returns
returns c = every_run_is_sound
