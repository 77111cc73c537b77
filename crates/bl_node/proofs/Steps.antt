-- What is found lowers the cutoff.
use Rattle.std.proofs.Common.{◌≡◌, refl, sym, ◌∙◌, ap, subst, arith, List}
use Rattle.std.specs.Prelude.{ℤ, ◌<ℤ◌, Option, Some, None, MatchOption}
use Rattle.std.proofs.lemmas.Int.{ints}
use Rattle.bl_terms.specs.Programs.{Program}
use Rattle.bl_bound.specs.Plain.{CostsLess}
use Rattle.bl_fproof.specs.Entries.{Admitted}
use Rattle.bl_leaf_terms.specs.Incumbents.{Incumbent, IsIncumbent, cost_of, cutoff_of}
use Rattle.bl_node.specs.Works.{Job}
use Rattle.bl_node.specs.Standing.{best_of, cutoff_with, IsFound, IsNoHigher, IsFoundAfter}

less_than_best : (best : Option Incumbent) (x y : ℤ) → x <ℤ y → CostsLess (cutoff_of best) y
    → CostsLess (cutoff_of best) x
less_than_best None x y less h = tt
less_than_best (Some b) x y less h = omega (arith, ints)

below_found : (best found : Option Incumbent) (x : ℤ) → CostsLess (cutoff_of (best_of found best)) x
    → MatchOption found (Unit {0}) (λ f. CostsLess (cutoff_of best) (cost_of f)) → CostsLess (cutoff_of best) x
below_found best None x less h = less
below_found best (Some f) x less h = less_than_best best x (cost_of f) less h

no_higher : (u : Option ℤ) (x : ℤ) → CostsLess u x → IsNoHigher u (Some x)
no_higher None x h = tt
no_higher (Some v) x h = omega (arith, ints)

-- an incumbent that costs less than the cutoff
pub taken : (j : Job) (found : Option Incumbent) (f : Incumbent) → IsFound j found → f.program ≡ j.program
    → IsIncumbent f → CostsLess (cutoff_with j found) (cost_of f) → IsFoundAfter j found (Some f)
taken j found f is program incumbent less = record {
  found = record {
    incumbent = (program, incumbent);
    better = below_found j.best found (cost_of f) less is.better;
  };
  lower = no_higher (cutoff_with j found) (cost_of f) less;
}

pub taken_as : (j : Job) (found : Option Incumbent) (p : Program) (z : List ℤ) (e : Admitted) (new : Incumbent)
    → IsFound j found → p ≡ j.program → new ≡ record { program = p; point = z; entry = e }
    → IsIncumbent (record { program = j.program; point = z; entry = e })
    → CostsLess (cutoff_with j found) (cost_of (record { program = j.program; point = z; entry = e }))
    → IsFoundAfter j found (Some new)
taken_as j found p z e new is ep en incumbent less =
    let same : new ≡ record { program = j.program; point = z; entry = e } =
    en ∙ ap (λ (x : Program). record { program = x; point = z; entry = e }) ep in
    subst (λ (x : Incumbent). IsFoundAfter j found (Some x)) (sym same)
    (taken j found (record { program = j.program; point = z; entry = e }) is refl incumbent less)

pub entered : (j : Job) (found : Option Incumbent) (f new : Incumbent) (u : Option ℤ) (x : ℤ) → IsFound j found
    → f.program ≡ j.program → IsIncumbent f → u ≡ cutoff_with j found → x ≡ cost_of f → CostsLess u x → new ≡ f
    → IsFoundAfter j found (Some new)
entered j found f new u x is ep incumbent eu ex less en =
    let below : CostsLess (cutoff_with j found) (cost_of f) =
    subst (λ (v : Option ℤ). CostsLess v (cost_of f)) eu (subst (λ (y : ℤ). CostsLess u y) ex less) in
    subst (λ (y : Incumbent). IsFoundAfter j found (Some y)) (sym en) (taken j found f is ep incumbent below)

no_higher_itself : (u : Option ℤ) → IsNoHigher u u
no_higher_itself None = tt
no_higher_itself (Some v) = omega (arith, ints)

pub no_higher_more : (u v w : Option ℤ) → IsNoHigher u v → IsNoHigher v w → IsNoHigher u w
no_higher_more None v w g h = tt
no_higher_more (Some x) None w g h = absurd g
no_higher_more (Some x) (Some y) None g h = absurd h
no_higher_more (Some x) (Some y) (Some z) g h = omega (arith, ints)

pub found_itself : (j : Job) (found : Option Incumbent) → IsFound j found → IsFoundAfter j found found
found_itself j found is = record { found = is; lower = no_higher_itself (cutoff_with j found) }

pub found_more : (j : Job) (a b c : Option Incumbent) → IsFoundAfter j a b → IsFoundAfter j b c → IsFoundAfter j a c
found_more j a b c g h = record {
  found = h.found;
  lower = no_higher_more (cutoff_with j a) (cutoff_with j b) (cutoff_with j c) g.lower h.lower;
}
