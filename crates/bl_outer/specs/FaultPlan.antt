-- Internal: which calls of a shelf or a sink in memory are to fail.
use Rattle.std.specs.Prelude.{ℕ, ◌==◌, Bool, List}
use Rattle.std.specs.List.{list_any}
use Rattle.bl_outer.specs.Count.{saturating_increment}

-- the numbers of the calls that are to fail, and how many calls there were
pub record Plan : Type 0 where
  pub fails : List ℕ
  pub calls : ℕ

-- the next call is to fail
abbrev pub is_to_fail : Plan → Bool
is_to_fail plan = list_any (λ number. number == saturating_increment plan.calls) plan.fails

-- one call on
abbrev pub after_call : Plan → Plan
after_call plan = record plan { calls = saturating_increment plan.calls }

-- no call yet
abbrev pub new_plan : List ℕ → Plan
new_plan fails = record { fails = fails; calls = 0 }
