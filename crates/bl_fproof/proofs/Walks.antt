-- A walk over the nodes of a tree, step by step on the stack of the boxes that are still to be closed.
use Rattle.std.proofs.Common.{◌≡◌, ℕ, zero, suc, ◌+◌, ◌<◌, List, [], ◌∷◌, length, refl, sym, ◌∙◌, ap, subst, arith}
use Rattle.std.proofs.Common.{add-one}
use Rattle.std.specs.Prelude.{Option, ℤ, drop, All, reverse, ◌++◌, slice_index_or, true}
use Rattle.std.proofs.lemmas.List.{reverse-append, length-append, length-map, get_or_append_left, get_or-map}
use Rattle.std.proofs.Math.ListN.{get_or}
use Rattle.std.proofs.lemmas.List.Elements.{All-append}
use Rattle.std.proofs.Math.Seq.{get_or-append_seam}
use Rattle.std.proofs.Math.Seq.{drop-length, drop-cons}
use Rattle.bl_terms.specs.Points.{Area}
use Rattle.bl_terms.specs.Bounds.{Problem, Multipliers, Proves, over}
use Rattle.bl_terms.specs.Trees.{BareNode, Leaf, Split, Anything, CanSplit, Covers, FailsFirst, low_half}
use Rattle.bl_terms.specs.Trees.{high_half}
use Rattle.bl_terms.specs.Trees.{IsTree}
use Rattle.bl_terms.proofs.TreeLemmas.{leaves_are_parts}
use Rattle.bl_terms.proofs.PointLemmas.{part_of_part}
use Rattle.bl_fproof.specs.declared.answered.Step.{Step}
use Rattle.bl_fproof.specs.Steps.{node_of, nodes_of}
use Rattle.bl_fproof.specs.Entries.{Closes, FailsToClose}
use Rattle.bl_fproof.specs.Stacks.{IsPart, IsStepTaken, AreHalves, Stands, stack_after}

-- ---- halves

split_once : ℕ → ℤ → List (BareNode ℕ)
split_once j v = Split j v tt ∷ Leaf 0 ∷ Leaf 0 ∷ []

half_is_part : (q : Problem) (a : Area) (j : ℕ) (v : ℤ) → IsPart q a → CanSplit a j v
    → IsPart q (low_half a j v) × IsPart q (high_half a j v)
unfolding split_once
half_is_part q a j v part can =
    let tree : IsTree {S = Unit {0}} {L = ℕ} (split_once j v) a = ((can, tt), (tt, (tt, tt))) in
    let low = leaves_are_parts {S = Unit {0}} {L = ℕ} (split_once j v) a 0 tree part.area (omega arith) in
    let high = leaves_are_parts {S = Unit {0}} {L = ℕ} (split_once j v) a 1 tree part.area (omega arith) in (
      record { fits = part.fits; area = low.0; within = part_of_part low.1 part.within },
      record { fits = part.fits; area = high.0; within = part_of_part high.1 part.within },
    )

pub low_is_part : (q : Problem) (a : Area) (j : ℕ) (v : ℤ) → IsPart q a → CanSplit a j v → IsPart q (low_half a j v)
low_is_part q a j v part can = (half_is_part q a j v part can).0

pub high_is_part : (q : Problem) (a : Area) (j : ℕ) (v : ℤ) → IsPart q a → CanSplit a j v
    → IsPart q (high_half a j v)
high_is_part q a j v part can = (half_is_part q a j v part can).1

-- ---- one step

-- what the nodes show of the boxes on the stack
abbrev pub CoversStack : Problem → Option ℤ → List (BareNode Multipliers) → List Area → Type 0
CoversStack q u nodes stack = Covers Anything (λ a w. Proves (over q a) u w) nodes stack

abbrev pub FailsOnStack : Problem → Option ℤ → List (BareNode Multipliers) → List Area → ℕ → Type 0
FailsOnStack q u nodes stack k = FailsFirst Anything (λ a w. Proves (over q a) u w) nodes stack k

covers_step : (q : Problem) (u : Option ℤ) (n : BareNode Multipliers) (ns : List (BareNode Multipliers))
    (stack : List Area) → Stands q u n stack → CoversStack q u ns (stack_after n stack) → CoversStack q u (n ∷ ns) stack
covers_step q u n ns [] stands covers = absurd stands
covers_step q u (Leaf w) ns (a ∷ stack) stands covers = (stands, covers)
covers_step q u (Split j v s) ns (a ∷ stack) stands covers = ((stands, tt), covers)

fails_later : (q : Problem) (u : Option ℤ) (n : BareNode Multipliers) (ns : List (BareNode Multipliers))
    (stack : List Area) (k : ℕ) → Stands q u n stack → FailsOnStack q u ns (stack_after n stack) k
    → FailsOnStack q u (n ∷ ns) stack (suc k)
fails_later q u n ns [] k stands fails = absurd stands
fails_later q u (Leaf w) ns (a ∷ stack) k stands fails = (stands, fails)
fails_later q u (Split j v s) ns (a ∷ stack) k stands fails = ((stands, tt), fails)

fails_here : (q : Problem) (u : Option ℤ) (n : BareNode Multipliers) (ns : List (BareNode Multipliers))
    (stack : List Area) → ¬ Stands q u n stack → FailsOnStack q u (n ∷ ns) stack 0
fails_here q u n ns [] not = refl
fails_here q u (Leaf w) ns (a ∷ stack) not = not
fails_here q u (Split j v s) ns (a ∷ stack) not = λ h. not h.0

-- ---- a step is taken

-- the boxes on the stack but for the last one, and the last one, which is its top
pub top_first : (a : Area) (rest : List Area) → reverse (rest ++ a ∷ []) ≡ a ∷ reverse rest
top_first a rest = reverse-append rest (a ∷ [])

parts_below : (q : Problem) (a : Area) (rest : List Area) → All (IsPart q) (rest ++ a ∷ []) → All (IsPart q) rest
parts_below q a rest all = λ k d b.
    subst (λ x. IsPart q x) (get_or_append_left rest (a ∷ []) d k b) (all k d (rw length-append (omega arith)))

pub top_part : (q : Problem) (a : Area) (rest : List Area) → All (IsPart q) (rest ++ a ∷ []) → IsPart q a
top_part q a rest all =
    subst (λ x. IsPart q x) (get_or-append_seam rest a [] a) (all (length rest) a (rw length-append (omega arith)))

one_part : (q : Problem) (a : Area) → IsPart q a → All (IsPart q) (a ∷ [])
one_part q a part zero d b = part
one_part q a part (suc k) d b = absurd (omega arith)

pub step_split : (q : Problem) (u : Option ℤ) (j : ℕ) (v : ℤ) (a low high : Area) (rest : List Area)
    → All (IsPart q) (rest ++ a ∷ []) → AreHalves a j v (low, high)
    → IsStepTaken q u (Split j v tt) (rest ++ a ∷ []) ((rest ++ high ∷ []) ++ low ∷ []) true
step_split q u j v a low high rest all h =
    let part = top_part q a rest all in
    let below = parts_below q a rest all in
    let low_part : IsPart q low = rw (h.low) (low_is_part q a j v part h.can) in
    let high_part : IsPart q high = rw (h.high) (high_is_part q a j v part h.can) in
    let order : reverse ((rest ++ high ∷ []) ++ low ∷ []) ≡ low ∷ high ∷ reverse rest =
    top_first low (rest ++ high ∷ []) ∙ ap (λ xs. low ∷ xs) (top_first high rest) in
    let top = sym (top_first a rest) in
    let halves : low ∷ high ∷ reverse rest ≡ low_half a j v ∷ high_half a j v ∷ reverse rest =
    let e = h.low in let e' = h.high in cc in
    record {
      verdict = (λ _. subst (λ s. Stands q u (Split j v tt) s) top h.can, λ _. refl);
      after = λ _. order ∙ halves ∙ ap (λ s. stack_after (Split j v tt) s) top;
      parts = λ _. All-append (IsPart q) (rest ++ high ∷ []) (low ∷ [])
          (All-append (IsPart q) rest (high ∷ []) below (one_part q high high_part)) (one_part q low low_part);
    }

-- ---- the walk so far

-- what the nodes from place i on show of the stack is shown of the whole
pub record IsWalked (q : Problem) (u : Option ℤ) (nodes : List (BareNode Multipliers)) (i : ℕ) (stack : List Area)
    : Type 0 where
  pub covers : CoversStack q u (drop i nodes) stack → Closes q u nodes
  pub fails : (k : ℕ) → FailsOnStack q u (drop i nodes) stack k → FailsToClose q u nodes (i + k)

pub walk_goes_on : (q : Problem) (u : Option ℤ) (nodes : List (BareNode Multipliers)) (i : ℕ) (n : BareNode Multipliers)
    (stack : List Area) → IsWalked q u nodes i stack → drop i nodes ≡ n ∷ drop (i + 1) nodes → Stands q u n stack
    → IsWalked q u nodes (i + 1) (stack_after n stack)
walk_goes_on q u nodes i n stack walked e stands = record {
  covers = λ c. walked.covers
      (subst (λ ns. CoversStack q u ns stack) (sym e) (covers_step q u n (drop (i + 1) nodes) stack stands c));
  fails = λ k f. subst (λ m. FailsToClose q u nodes m) (omega arith)
      (walked.fails (suc k)
      (subst (λ ns. FailsOnStack q u ns stack (suc k)) (sym e)
      (fails_later q u n (drop (i + 1) nodes) stack k stands f)));
}

pub walk_fails : (q : Problem) (u : Option ℤ) (nodes : List (BareNode Multipliers)) (i : ℕ) (n : BareNode Multipliers)
    (stack : List Area) → IsWalked q u nodes i stack → drop i nodes ≡ n ∷ drop (i + 1) nodes → ¬ Stands q u n stack
    → FailsToClose q u nodes i
walk_fails q u nodes i n stack walked e not =
    subst (λ m. FailsToClose q u nodes m) (omega arith)
    (walked.fails 0
    (subst (λ ns. FailsOnStack q u ns stack 0) (sym e) (fails_here q u n (drop (i + 1) nodes) stack not)))

pub walk_ends_early : (q : Problem) (u : Option ℤ) (nodes : List (BareNode Multipliers)) (n : ℕ) (stack : List Area)
    → IsWalked q u nodes n stack → n ≡ length nodes → 0 < length stack → FailsToClose q u nodes n
walk_ends_early q u nodes n [] walked e some = absurd (omega arith)
walk_ends_early q u nodes n (a ∷ stack) walked e some =
    let nothing : drop n nodes ≡ [] = ap (λ m. drop m nodes) e ∙ drop-length nodes in
    subst (λ m. FailsToClose q u nodes m) (omega arith)
    (walked.fails 0 (subst (λ ns. FailsOnStack q u ns (a ∷ stack) 0) (sym nothing) refl))

-- ---- the steps of a proof as nodes

pub node_first : (steps : List Step) (i : ℕ) (x : Step) → i < length steps → x ≡ slice_index_or steps i x
    → drop i (nodes_of steps) ≡ node_of x ∷ drop (i + 1) (nodes_of steps)
node_first steps i x b e =
    let b' : i < length (nodes_of steps) = rw length-map b in
    let same : get_or (nodes_of steps) i (node_of x) ≡ node_of x =
    get_or-map node_of steps i x (node_of x) b ∙ ap node_of (sym e) in
    rw add-one
    (drop-cons (nodes_of steps) i (node_of x) b' ∙ ap (λ n. n ∷ drop (suc i) (nodes_of steps)) same)
