use Rattle.std.proofs.Common.{◌∙◌, ◌<◌}
use Rattle.std.proofs.lemmas.List.Elements.{All-same}
use Rattle.bl_model.proofs.JoinLemmas.{follower_numbers-within}
use Rattle.bl_model.proofs.join.follower_costs.Goals as goal

pub numbers-requires : goal.numbers-requires
numbers-requires c =
    All-same (λ e. e.0 < c.args.column_count) _ _ (c.deref.ensures.value ∙ c.in_ok-pairs.ensures)
    (follower_numbers-within c.args.column_count c.args.aux.now c.requires.columns)
