-- Licences to divide the job's box.
use Rattle.std.proofs.Common.{◌≡◌, ℕ, sym, ◌∙◌, ap, subst, arith, List}
use Rattle.std.specs.Prelude.{ℤ, Option, Some, None, MatchOption}
use Rattle.std.proofs.lemmas.Int.{ints}
use Rattle.bl_terms.specs.Points.{Area}
use Rattle.bl_terms.specs.Programs.{Program}
use Rattle.bl_bound.specs.Plain.{CostsLess}
use Rattle.bl_licence.specs.declared.why.Why.{Why}
use Rattle.bl_licence.specs.declared.why.Why.TheVariants.{Fraction, Better, Wide, Tired, Large}
use Rattle.bl_licence.specs.Why.{IsLicence}
use Rattle.bl_model.specs.Boxes.{Halved}
use Rattle.bl_fproof.specs.Entries.{Admitted}
use Rattle.bl_cut_terms.specs.NoGoods.{NoGoodCut}
use Rattle.bl_leaf_terms.specs.Incumbents.{Incumbent, cost_of, cutoff_of}
use Rattle.bl_leaf_terms.specs.Nodes.{plain_problem, IsFreeLicence, IsLicensedBox, NodeLicence}
use Rattle.bl_leaf_terms.specs.Nodes.{IsNodeLicence}
use Rattle.bl_book_terms.specs.Books.{IsCurrent}
use Rattle.bl_node.specs.Works.{Job, IsSoundJob, IsDividing}
use Rattle.bl_node.specs.NodeCuts.{IsTried}
use Rattle.bl_node.specs.Standing.{best_of, cutoff_with, IsFound, AreNodeCuts}
use Rattle.bl_node.proofs.Closings.{leading_incumbent}

-- a licence of the plain problem
pub free_licence : (p : Program) (a : Area) (u : Option ℤ) (why : Why) → IsLicence (plain_problem p a None) u why
    → IsFreeLicence p a u why
free_licence p a u (Fraction fs) h = h
free_licence p a u (Better z y) h = absurd h
free_licence p a u (Wide pivots row column) h = h
free_licence p a u (Tired pivots) h = h
free_licence p a u (Large pivots) h = h

-- the cutoff of what is found is current
current_found : (best found : Option Incumbent)
    → MatchOption found (Unit {0}) (λ f. CostsLess (cutoff_of best) (cost_of f))
    → IsCurrent (cutoff_of best) (cutoff_of (best_of found best))
current_found None found h = tt
current_found (Some b) None h = omega (arith, ints)
current_found (Some b) (Some f) h = omega (arith, ints)

pub current_with : (j : Job) (found best : Option Incumbent) → IsFound j found → best ≡ best_of found j.best
    → IsCurrent (cutoff_of j.best) (cutoff_of best)
current_with j found best is e =
    subst (λ (x : Option Incumbent). IsCurrent (cutoff_of j.best) (cutoff_of x)) (sym e)
    (current_found j.best found is.better)

-- a licence for the cutoff of what is found, with the incumbent that sets it
pub node_licence : (j : Job) (found : Option Incumbent) (p : Program) (a : Area) (best : Option Incumbent)
    (entry : Option Admitted) (why : Why) → IsSoundJob j → IsFound j found → p ≡ j.program → a ≡ j.area
    → best ≡ best_of found j.best → IsLicensedBox j.program j.area (cutoff_with j found) entry why
    → IsNodeLicence (record { program = p; area = a; cutoff = best; entry = entry; why = why })
node_licence j found p a best entry why job is ep ea eb licensed =
    let at_best : IsNodeLicence (record {
      program = j.program;
      area = j.area;
      cutoff = best_of found j.best;
      entry = entry;
      why = why;
    }) = record {
      model = job.model;
      area = job.area;
      within = job.job.within;
      incumbent = leading_incumbent j found job is;
      licensed = licensed;
    } in
    subst (λ (x : Program). IsNodeLicence (record { program = x; area = a; cutoff = best; entry = entry; why = why }))
    (sym ep)
    (subst (λ (x : Area).
    IsNodeLicence (record { program = j.program; area = x; cutoff = best; entry = entry; why = why })) (sym ea)
    (subst (λ (x : Option Incumbent).
    IsNodeLicence (record { program = j.program; area = j.area; cutoff = x; entry = entry; why = why })) (sym eb)
    at_best))

-- the halves and the licence are of the job's box
pub dividing : (j : Job) (found : Option Incumbent) (h : Halved) (licence : NodeLicence) (cuts : List NoGoodCut)
    (a : Area) (column : ℕ) (at : ℤ) (p : Program) (b : Area) (best : Option Incumbent) (entry : Option Admitted)
    (why : Why) (made : List NoGoodCut) → IsFound j found → h ≡ record { area = a; column = column; at = at }
    → a ≡ j.area → licence ≡ record { program = p; area = b; cutoff = best; entry = entry; why = why }
    → p ≡ j.program → b ≡ j.area → best ≡ best_of found j.best → AreNodeCuts j cuts made
    → IsTried j.program j.area j.node j.cuts made why → IsDividing j h licence cuts
dividing j found h licence cuts a column at p b best entry why made is eh ea el ep eb ebest are tried = record {
  halves = ap (λ (x : Halved). x.area) eh ∙ ea;
  program = ap (λ (x : NodeLicence). x.program) el ∙ ep;
  area = ap (λ (x : NodeLicence). x.area) el ∙ eb;
  current = current_with j found licence.cutoff is (ap (λ (x : NodeLicence). x.cutoff) el ∙ ebest);
  made = made;
  are_made = are.are_made;
  cuts = are.all_are;
  tried = subst (IsTried j.program j.area j.node j.cuts made) (sym (ap (λ (x : NodeLicence). x.why) el)) tried;
}
