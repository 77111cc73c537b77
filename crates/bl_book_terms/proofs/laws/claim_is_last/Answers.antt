use Rattle.bl_book_terms.proofs.ClaimLemmas.{claim_is_last}
use Rattle.bl_book_terms.proofs.laws.claim_is_last.Goals as goal

pub returns : goal.returns
returns c = claim_is_last
