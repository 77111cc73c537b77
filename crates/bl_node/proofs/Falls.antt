-- How far the cutoff can fall: the costs of incumbents are small.
use Rattle.std.proofs.Common.{◌≡◌, ◌^◌, ◌<◌, ◌≤◌, List, sym, subst, arith}
use Rattle.std.specs.Prelude.{ℤ, pos, ◌<ℤ◌, ◌+ℤ◌, Option, Some, None}
use Rattle.std.proofs.lemmas.Int.{ints, by_lt_z}
use Rattle.bl_limits.specs.declared.TheConstants.{MAX_NUMBER}
use Rattle.bl_whole.specs.Within.{IsWithin, AreWithin}
use Rattle.bl_whole.proofs.WithinLemmas.{within_low, within_high, within_more, within_dot}
use Rattle.bl_terms.specs.Programs.{Program, InBox, cost_at}
use Rattle.bl_terms.proofs.TestLemmas.{pos-unsigned_abs}
use Rattle.bl_bound.specs.Plain.{CostsLess}
use Rattle.bl_model.specs.View.{IsModel}
use Rattle.bl_model.proofs.PointLemmas.{InBox-within}
use Rattle.bl_leaf_terms.specs.Incumbents.{Incumbent, IsIncumbent, AreIncumbents, cost_of, cutoff_of}
use Rattle.bl_cut_terms.specs.NoGoods.{NoGoodCut}
use Rattle.bl_node.specs.declared.rounds.Round.{Round}
use Rattle.bl_node.specs.declared.rounds.Round.TheVariants as round
use Rattle.bl_node.specs.CutOutcomes.{IsRound}
use Rattle.bl_node.specs.Works.{Job, IsSoundJob}
use Rattle.bl_node.specs.Standing.{best_of, cutoff_with, IsFound, IsFoundAfter, IsNoHigher, IsSmallValue, height}

cost_small : (p : Program) (z : List ℤ) → IsModel p → InBox p z → IsWithin (2 ^ 62) (cost_at p z)
cost_small p z m inside =
    let costs : AreWithin MAX_NUMBER p.cost = record { each = λ k _. m.limits.costs k } in
    let cost = within_dot costs (InBox-within p z m inside) in
    let size = m.sound.cost_columns in
    let few = m.limits.few_columns in
    within_more cost (rw size (omega arith))

incumbent_small : (f : Incumbent) → IsIncumbent f → IsWithin (2 ^ 62) (cost_of f)
incumbent_small f is = cost_small f.program f.point is.model is.feasible.inside

cutoff_small : (p : Program) (best : Option Incumbent) → AreIncumbents p best → IsSmallValue (cutoff_of best)
cutoff_small p None is = tt
cutoff_small p (Some f) is = incumbent_small f is.1

found_small : (p : Program) (found best : Option Incumbent) → AreIncumbents p found → AreIncumbents p best
    → IsSmallValue (cutoff_of (best_of found best))
found_small p None best is is' = cutoff_small p best is'
found_small p (Some f) best is is' = incumbent_small f is.1

-- the cutoff is a small number
pub small_cutoff : (j : Job) (found : Option Incumbent) → IsSoundJob j → IsFound j found
    → IsSmallValue (cutoff_with j found)
small_cutoff j found job is = found_small j.program found j.best is.incumbent job.job.best

height_by : (v : ℤ) → IsWithin (2 ^ 62) v → pos (height (Some v)) ≡ v +ℤ pos (2 ^ 63)
height_by v small =
    let low = within_low small in let high = within_high small in
    pos-unsigned_abs (v +ℤ pos (2 ^ 63)) (omega (arith, ints))

lower_height : (v x : ℤ) → IsWithin (2 ^ 62) v → IsWithin (2 ^ 62) x → v <ℤ x → height (Some v) < height (Some x)
lower_height v x small small' less =
    let new = height_by v small in let old = height_by x small' in omega (arith, ints)

first_height : (v : ℤ) → IsWithin (2 ^ 62) v → height (Some v) < height None
first_height v small = let new = height_by v small in let high = within_high small in omega (arith, ints)

-- where some cost is below the one cutoff and not below the other, the other is lower
pub height_falls : (u v : Option ℤ) (x : ℤ) → IsSmallValue u → IsSmallValue v → CostsLess u x → ¬ CostsLess v x
    → height v < height u
height_falls u None x small small' less more = absurd (more tt)
height_falls None (Some v) x small small' less more = first_height v small'
height_falls (Some u) (Some v) x small small' less more =
    by_lt_z x v (λ below. absurd (more below)) (λ h. lower_height v u small' small (omega (arith, ints)))

-- an incumbent that costs less lowers the cutoff, and so does what is found where a point no longer is below it
pub judged_falls : (j : Job) (old new : Option Incumbent) (x : ℤ) → IsSoundJob j → IsFound j old → IsFound j new
    → CostsLess (cutoff_with j old) x → ¬ CostsLess (cutoff_with j new) x
    → height (cutoff_with j new) < height (cutoff_with j old)
judged_falls j old new x job is is' less more =
    height_falls (cutoff_with j old) (cutoff_with j new) x (small_cutoff j old job is) (small_cutoff j new job is') less
    more

not_itself : (x : ℤ) → ¬ CostsLess (Some x) x
not_itself x h = omega (arith, ints)

pub taken_falls : (j : Job) (old new : Option Incumbent) (f : Incumbent) → IsSoundJob j → IsFound j old → IsFound j new
    → new ≡ Some f → CostsLess (cutoff_with j old) (cost_of f)
    → height (cutoff_with j new) < height (cutoff_with j old)
taken_falls j old new f job is is' taken less =
    judged_falls j old new (cost_of f) job is is' less
    (subst (λ (o : Option Incumbent). ¬ CostsLess (cutoff_with j o) (cost_of f)) (sym taken) (not_itself (cost_of f)))

-- what doesn't fall isn't higher
height_no_higher : (u v : Option ℤ) → IsSmallValue u → IsSmallValue v → IsNoHigher u v → height v ≤ height u
height_no_higher None None small small' lower = omega arith
height_no_higher None (Some v) small small' lower = let h = first_height v small' in omega arith
height_no_higher (Some u) None small small' lower = absurd lower
height_no_higher (Some u) (Some v) small small' lower =
    let new = height_by v small' in let old = height_by u small in omega (arith, ints)

-- a round from what is found later is one from what was found before
pub later_round : (j : Job) (a b c : Option Incumbent) (made : List NoGoodCut) (r : Round) → IsSoundJob j → IsFound j a
    → IsFoundAfter j a b → IsRound j b c made r → IsRound j a c made r
later_round j a b c made (round.Closed leaf) job is after h = h
later_round j a b c made (round.Stuck why) job is after h = h
later_round j a b c made round.Fell job is after h =
    let low = height_no_higher (cutoff_with j a) (cutoff_with j b) (small_cutoff j a job is)
    (small_cutoff j b job after.found) after.lower in
    omega arith
