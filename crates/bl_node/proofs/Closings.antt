-- Leaves that close the job's box.
use Rattle.std.proofs.Common.{◌≡◌, refl, sym, subst, ◌∙◌, arith}
use Rattle.std.proofs.Common.{List, [], length}
use Rattle.std.specs.Prelude.{ℤ, pos, Option, Some, None}
use Rattle.std.proofs.lemmas.List.{get_or_push, length-map}
use Rattle.bl_terms.specs.Points.{Area, Fixes}
use Rattle.bl_terms.specs.Programs.{Program, inequality}
use Rattle.bl_terms.specs.Responses.{Entry, Best, NoResponse}
use Rattle.bl_terms.specs.Bounds.{Multipliers, Proves}
use Rattle.bl_fproof.specs.Entries.{Admitted}
use Rattle.bl_fproof.specs.Steps.{entry_of}
use Rattle.bl_cut_terms.specs.NoGoods.{NoGoodCut}
use Rattle.bl_leaf_terms.specs.Incumbents.{Incumbent, IsEntryFor, AreIncumbents}
use Rattle.bl_leaf_terms.specs.Nodes.{plain_problem, fixed_link, HasValue}
use Rattle.bl_leaf_terms.specs.Leaves.{Evidence, IsBounded, HasNoAnswer, IsShownClosed, IsClosedLeaf}
use Rattle.bl_tree.specs.Laws.{with_zero}
use Rattle.bl_tree.proofs.PlainLaws.{plain_proof_closes}
use Rattle.bl_node.specs.Works.{Job, IsSoundJob}
use Rattle.bl_node.specs.Standing.{best_of, cutoff_with, IsFound}

best_found : (p : Program) (found best : Option Incumbent) → AreIncumbents p found → AreIncumbents p best
    → AreIncumbents p (best_of found best)
best_found p None best is is' = is'
best_found p (Some f) best is is' = is

-- the incumbent that sets the cutoff is one of the program
pub leading_incumbent : (j : Job) (found : Option Incumbent) → IsSoundJob j → IsFound j found
    → AreIncumbents j.program (best_of found j.best)
leading_incumbent j found job is = best_found j.program found j.best is.incumbent job.job.best

-- what shows the box closed for the cutoff, with the incumbent that sets it
pub closed_leaf : (j : Job) (found : Option Incumbent) (p : Program) (a : Area) (best : Option Incumbent)
    (e : Evidence) → IsSoundJob j → IsFound j found → p ≡ j.program → a ≡ j.area → best ≡ best_of found j.best
    → IsShownClosed j.program j.area (cutoff_with j found) e
    → IsClosedLeaf (record { program = p; area = a; cutoff = best; evidence = e })
closed_leaf j found p a best e job is ep ea eb shown =
    let at_best : IsClosedLeaf (record {
      program = j.program;
      area = j.area;
      cutoff = best_of found j.best;
      evidence = e;
    }) = record {
      model = job.model;
      area = job.area;
      within = job.job.within;
      incumbent = leading_incumbent j found job is;
      shown = shown;
    } in
    subst (λ (x : Program). IsClosedLeaf (record { program = x; area = a; cutoff = best; evidence = e })) (sym ep)
    (subst (λ (x : Area). IsClosedLeaf (record { program = j.program; area = x; cutoff = best; evidence = e }))
    (sym ea)
    (subst (λ (x : Option Incumbent).
    IsClosedLeaf (record { program = j.program; area = j.area; cutoff = x; evidence = e })) (sym eb) at_best))

no_cuts : (cuts : List NoGoodCut) → cuts ≡ [] → (p : Program) (a : Area) (u : Option ℤ) (w : Multipliers)
    (entry : Option Admitted) → IsBounded p a u w [] entry → IsBounded p a u w cuts entry
no_cuts cuts e p a u w entry h = subst (λ (x : List NoGoodCut). IsBounded p a u w x entry) (sym e) h

-- a proof with the value row
pub bounded_by_value : (p : Program) (a : Area) (u : Option ℤ) (w : Multipliers) (cuts : List NoGoodCut)
    (e : Admitted) (v : ℤ) → cuts ≡ [] → HasValue p a e v → Proves (plain_problem p a (Some v)) u w
    → IsBounded p a u w cuts (Some e)
bounded_by_value p a u w cuts e v none has proof =
    no_cuts cuts none p a u w (Some e) (record {
      few = omega arith;
      distinct = λ i j d b c. absurd (omega arith);
      valid = λ i d b. absurd (omega arith);
      value = Some v;
      has = has;
      proof = proof;
    })

-- ... and one without, with a further 0
pub bounded_plainly : (p : Program) (a : Area) (u : Option ℤ) (w w' : Multipliers) (cuts : List NoGoodCut)
    → cuts ≡ [] → w' ≡ with_zero w → Proves (plain_problem p a None) u w → IsBounded p a u w' cuts None
bounded_plainly p a u w w' cuts none e proof =
    let count : length w.mult ≡ length p.rows = proof.rows ∙ length-map p.rows inequality in
    no_cuts cuts none p a u w' None
    (subst (λ (x : Multipliers). IsBounded p a u x [] None) (sym e) (record {
      few = omega arith;
      distinct = λ i j d b c. absurd (omega arith);
      valid = λ i d b. absurd (omega arith);
      value = None;
      has = (refl, get_or_push w.mult (pos 0) (pos 0) (length p.rows) count);
      proof = plain_proof_closes.without p a u w proof;
    }))

-- where the entry of the link that the box fixes gives no value, it has no response
silent : (p : Program) (a : Area) (e : Admitted) (x : Entry) → Fixes a p.links → IsEntryFor p (fixed_link p a) e
    → ((v : ℤ) → ¬ HasValue p a e v) → entry_of e.answered ≡ x → entry_of e.answered ≡ NoResponse
silent p a e NoResponse fixes entry none is = is
silent p a e (Best y v) fixes entry none is =
    absurd (none v (record { fixes = fixes; entry = entry; best = (y, is) }))

pub no_answer : (p p' : Program) (a a' : Area) (l : List ℤ) (e : Admitted) → Fixes a p.links → l ≡ fixed_link p a
    → IsEntryFor p l e → p' ≡ p → a' ≡ a → ((v : ℤ) → ¬ HasValue p' a' e v) → HasNoAnswer p a e
no_answer p p' a a' l e fixes el entry ep ea none =
    let of_box : IsEntryFor p (fixed_link p a) e = subst (λ (x : List ℤ). IsEntryFor p x e) el entry in
    let no_value : (v : ℤ) → ¬ HasValue p a e v =
    λ v h. none v (subst (λ (x : Program). HasValue x a' e v) (sym ep)
    (subst (λ (y : Area). HasValue p y e v) (sym ea) h)) in
    record {
      fixes = fixes;
      entry = of_box;
      none = silent p a e (entry_of e.answered) fixes of_box no_value refl;
    }
