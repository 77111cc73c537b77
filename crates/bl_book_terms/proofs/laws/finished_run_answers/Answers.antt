use Rattle.bl_book_terms.proofs.RunLemmas.{finished_run_answers}
use Rattle.bl_book_terms.proofs.laws.finished_run_answers.Goals as goal

pub returns : goal.returns
returns c = finished_run_answers
