use Rattle.std.proofs.Common.{rules, ◌<◌, length, sym}
use Rattle.bl_cut_proof.proofs.AdoptLemmas.{last_place-at}
use Rattle.bl_cut_proof.proofs.steps.last_place.Goals as goal

pub returns-else-is_empty : goal.returns-else-is_empty
returns-else-is_empty c =
    let some : 0 < length c.args.places.now = search rules in
    sym (last_place-at c.args.places.now some)
