-- What the walk of the whole box answers.
use Rattle.std.proofs.Common.{◌≡◌, ℕ, ◌<◌, List, ◌++◌, refl, sym, ap, ⊎_elim, arith}
use Rattle.std.specs.Prelude.{All, ℤ, pos, Contains, Option, None, Some}
use Rattle.std.proofs.lemmas.Bool.{cases_lt}
use Rattle.std.proofs.lemmas.Int.{ints}
use Rattle.std.proofs.lemmas.List.{get_or_past}
use Rattle.std.proofs.lemmas.List.Elements.{All-contains, All-append}
use Rattle.std.specs.Option.{option_map}
use Rattle.bl_terms.specs.Programs.{Program, InBox, columns, cost_at, value_at}
use Rattle.bl_terms.specs.Feasible.{BilevelFeasible, Optimal}
use Rattle.bl_model.specs.View.{IsModel}
use Rattle.bl_plain.specs.Walk.{Varies, Best, Improves, Among, IsAnswer, optimum_of}
use Rattle.bl_plain.proofs.BestLemmas.{follower-below}

-- the least numbers are a point of the box
pub In-least : (p : Program) → IsModel p → InBox p p.lo
In-least p m = record {
  columns = refl;
  least = λ k below. omega (arith, ints);
  most =
      λ k below. m.sound.box.ordered k below;
}

-- a point of the box varies it on all columns
varies_from_In : (p : Program) (cs : List ℕ) (z : List ℤ) → All (λ c. c < columns p) cs
    → ((k : ℕ) → k < columns p → Contains cs k) → InBox p z → Varies p cs p.lo z
varies_from_In p cs z below all is = record {
  count = is.columns;
  others = λ k out. ⊎_elim
      (λ here. absurd (out (all k here)))
      (λ above. rw (
        get_or_past z k (pos 0) (omega (arith, above, is.columns)),
        get_or_past p.lo k (pos 0) (omega (arith, above)),
      ) refl)
      (cases_lt k (columns p));
  least = λ k has. is.least k (All-contains (λ c. c < columns p) cs k below has);
  most = λ k has. is.most k (All-contains (λ c. c < columns p) cs k below has);
}

-- the best of all bilevel feasible points is optimal
pub answer_found : (p : Program) (cs : List ℕ) (point : List ℤ) (b : Best) → IsModel p → All (λ c. c < columns p) cs
    → ((k : ℕ) → k < columns p → Contains (cs ++ p.follower) k)
    → Improves p (Among p (cs ++ p.follower) p.lo (BilevelFeasible p)) (record { point = point; cost = None }) b
    → IsAnswer p (optimum_of b)
answer_found p cs point b m below all h = by b.cost refl
  where
    within : All (λ c. c < columns p) (cs ++ p.follower)
    within = All-append (λ c. c < columns p) cs p.follower below (follower-below p m)

    varies : (z : List ℤ) → BilevelFeasible p z → Varies p (cs ++ p.follower) p.lo z
    varies z f = varies_from_In p (cs ++ p.follower) z within all f.inside

    found : (v : ℤ) → b.cost ≡ Some v → Optimal p b.point (value_at p b.point) × (v ≡ cost_at p b.point)
    found v e = ⊎_elim
        (λ same. let none = ap (λ (a : Best). a.cost) same in cc)
        (λ w.
        let cost : cost_at p b.point ≡ v = let s = w.1 in cc in (
          record { feasible = w.0.1; value = refl; least = λ z f. rw cost (rw e at (h.bound z (varies z f, f))) },
          sym cost,
        ))
        h.source

    none_found : b.cost ≡ None → (z : List ℤ) → ¬ BilevelFeasible p z
    none_found e z f = elim (rw e at (h.bound z (varies z f, f))) [ ]

    by : (v : Option ℤ) → b.cost ≡ v → IsAnswer p (option_map (λ x. record { point = b.point; cost = x }) v)
    by None same = none_found same
    by (Some v) same = found v same
