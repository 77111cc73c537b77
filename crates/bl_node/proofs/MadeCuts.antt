-- The cuts at a node, when one more is made.
use Rattle.std.proofs.Common.{◌≡◌, ◌≢◌, ◌<◌, ℕ, refl, sym, subst, ap, ◌∙◌, arith, inl, inr, true, false}
use Rattle.std.proofs.Common.{List, [], ◌∷◌, ◌++◌, length, cond, Bool}
use Rattle.std.specs.Prelude.{ℤ, All, nat_lt, drop}
use Rattle.std.proofs.lemmas.Bool.{lt-ltb, false≢true}
use Rattle.std.proofs.lemmas.List.{get_or_push, get_or_append_left, get_or_default, length_push}
use Rattle.std.proofs.lemmas.List.Elements.{All-push, All-drop}
use Rattle.std.proofs.lemmas.List.Quantifiers.{all_pairs_push}
use Rattle.bl_limits.specs.declared.TheConstants.{MAX_CUTS, MAX_NEW_CUTS, CUT_NODES}
use Rattle.bl_terms.specs.Points.{Area, IsWithinArea, Meets}
use Rattle.bl_terms.specs.Programs.{Program}
use Rattle.bl_licence.specs.declared.why.Why.{Why}
use Rattle.bl_licence.specs.declared.why.Why.TheVariants.{Better}
use Rattle.bl_terms.proofs.PointLemmas.{part_of_itself}
use Rattle.bl_cut_terms.specs.NoGoods.{NoGoodCut, cut_of}
use Rattle.bl_cut_terms.specs.declared.parts.Tight.TheVariants.{Cut}
use Rattle.bl_cut.specs.Cuts.{with_cut, cut_at, no_cut}
use Rattle.bl_cut_proof.specs.Rows.{IsUsable}
use Rattle.bl_nogood.specs.declared.no_cut.NoCut.TheVariants.{TooLarge}
use Rattle.bl_nogood.specs.Making.{IsCutAt, IsNoCut, IsTooLarge}
use Rattle.bl_node.specs.NodeCuts.{BreaksAt, BreaksOne, point_of, IsOwnCut, AreMade, with_cuts, IsNotMade, IsTried}
use Rattle.bl_node.specs.Works.{Job}
use Rattle.bl_node.specs.Standing.{AreNodeCuts, IsTriedAt, IsAttempt}

-- few cuts keep their first one when another is added
with_few : (cuts : List NoGoodCut) (c : NoGoodCut) → length cuts < MAX_NEW_CUTS → with_cut cuts c ≡ cuts ++ c ∷ []
with_few cuts c few =
    ap (λ (t : Bool). cond t cuts (drop 1 cuts) ++ c ∷ []) (lt-ltb (length cuts) MAX_CUTS (omega arith))

with_last : (cuts made : List NoGoodCut) (c : NoGoodCut)
    → with_cuts cuts (made ++ c ∷ []) ≡ with_cut (with_cuts cuts made) c
with_last cuts [] c = refl
with_last cuts (d ∷ made) c = with_last (with_cut cuts d) made c

-- a cut of the box takes its own point away
own_broken : (p : Program) (a : Area) (made : List NoGoodCut) (k : ℕ) → k < length made → IsOwnCut p a (cut_at made k)
    → BreaksAt p a made (point_of (cut_at made k)) k
own_broken p a made k there own = record {
  there = there;
  program = own.program;
  within = subst (λ (b : Area). IsWithinArea a b) (sym own.area) (part_of_itself a);
  broken = own.away;
}

-- where a point breaks no cut, it is the point of none
other_point : (p : Program) (a : Area) (made : List NoGoodCut) (z : List ℤ) (k : ℕ)
    → All (IsOwnCut p a) made → k < length made → ¬ BreaksOne p a made z → point_of (cut_at made k) ≢ z
other_point p a made z k own there fresh same =
    fresh (k, subst (λ (x : List ℤ). BreaksAt p a made x k) same (own_broken p a made k there (own k no_cut there)))

still_broken : (p : Program) (a : Area) (made : List NoGoodCut) (c : NoGoodCut) (z : List ℤ) → BreaksOne p a made z
    → BreaksOne p a (made ++ c ∷ []) z
still_broken p a made c z (k, b) =
    let same : cut_at (made ++ c ∷ []) k ≡ cut_at made k = get_or_append_left made (c ∷ []) no_cut k b.there in
    let more = length_push made c in (
      k,
      record {
        there = let there = b.there in omega arith;
        program = subst (λ (x : NoGoodCut). x.program ≡ p) (sym same) b.program;
        within = subst (λ (x : NoGoodCut). IsWithinArea a (cut_of x).area) (sym same) b.within;
        broken = subst (λ (x : NoGoodCut). ¬ Meets (cut_of x).row z) (sym same) b.broken;
      },
    )

last_broken : (p : Program) (a : Area) (made : List NoGoodCut) (c : NoGoodCut) (z : List ℤ) → IsOwnCut p a c
    → point_of c ≡ z → BreaksOne p a (made ++ c ∷ []) z
last_broken p a made c z own at =
    let same : cut_at (made ++ c ∷ []) (length made) ≡ c = get_or_push made c no_cut (length made) refl in
    let more = length_push made c in (
      length made,
      subst (λ (x : List ℤ). BreaksAt p a (made ++ c ∷ []) x (length made)) (ap point_of same ∙ at)
          (own_broken p a (made ++ c ∷ []) (length made) (omega arith)
          (subst (λ (x : NoGoodCut). IsOwnCut p a x) (sym same) own)),
    )

own_cut : (p : Program) (a : Area) (z y : List ℤ) (c : NoGoodCut) → IsCutAt p a z y c → IsOwnCut p a c
own_cut p a z y c at = record {
  program = at.program;
  area = at.area;
  away = subst (λ (x : List ℤ). ¬ Meets (cut_of c).row x) (sym at.point) at.away;
}

made_more : (j : Job) (made : List NoGoodCut) (c : NoGoodCut) (z y : List ℤ) → AreMade j.program j.area j.node made
    → IsCutAt j.program j.area z y c → j.node < CUT_NODES → length made < MAX_NEW_CUTS
    → ¬ BreaksOne j.program j.area made z → AreMade j.program j.area j.node (made ++ c ∷ [])
made_more j made c z y are at node room fresh = record {
  few = let more = length_push made c in omega arith;
  none = λ late. absurd (omega arith);
  own = All-push (IsOwnCut j.program j.area) made c are.own (own_cut j.program j.area z y c at);
  points = all_pairs_push (λ (x y : NoGoodCut). point_of x ≢ point_of y) made c are.points
      (λ k d there same. other_point j.program j.area made z k are.own there fresh
      (ap point_of (get_or_default made k no_cut d there) ∙ same ∙ at.point));
}

-- a further cut, made at a point that breaks none so far
pub cuts_more : (j : Job) (all made all' made' : List NoGoodCut) (c : NoGoodCut) (z y : List ℤ)
    → AreNodeCuts j all made → IsCutAt j.program j.area z y c → j.node < CUT_NODES → length made < MAX_NEW_CUTS
    → ¬ BreaksOne j.program j.area made z → all' ≡ with_cut all c → made' ≡ with_cut made c → AreNodeCuts j all' made'
cuts_more j all made all' made' c z y are at node room fresh eall emade =
    let pushed : made' ≡ made ++ c ∷ [] = emade ∙ with_few made c room in
    record {
      are_made = subst (λ (x : List NoGoodCut). AreMade j.program j.area j.node x) (sym pushed)
          (made_more j made c z y are.are_made at node room fresh);
      all_are = eall ∙ ap (λ (x : List NoGoodCut). with_cut x c) are.all_are ∙ sym (with_last j.cuts made c)
          ∙ ap (with_cuts j.cuts) (sym pushed);
    }

pub attempt_made : (j : Job) (made made' : List NoGoodCut) (c : NoGoodCut) (z y : List ℤ)
    → IsCutAt j.program j.area z y c → length made < MAX_NEW_CUTS → made' ≡ with_cut made c
    → IsAttempt j made made' z true
attempt_made j made made' c z y at room emade =
    let pushed : made' ≡ made ++ c ∷ [] = emade ∙ with_few made c room in
    let broken : BreaksOne j.program j.area made' z =
    subst (λ (x : List NoGoodCut). BreaksOne j.program j.area x z) (sym pushed)
    (last_broken j.program j.area made c z (own_cut j.program j.area z y c at) at.point) in
    let more = length_push made c in
    record {
      stay = λ x b. subst (λ (m : List NoGoodCut). BreaksOne j.program j.area m x) (sym pushed)
          (still_broken j.program j.area made c x b);
      tried = λ node. inr (inl broken);
      more = λ t. (ap length pushed ∙ (omega arith), broken);
    }

-- nothing is made
pub attempt_failed : (j : Job) (made : List NoGoodCut) (z : List ℤ) → IsTriedAt j made z
    → IsAttempt j made made z false
attempt_failed j made z tried = record { stay = λ x b. b; tried = tried; more = λ t. absurd (false≢true t) }

-- since no cut can be made at the point
pub attempt_unmade : (j : Job) (all made earlier : List NoGoodCut) (z : List ℤ) → AreNodeCuts j all made
    → earlier ≡ all → IsNotMade j.program j.area earlier z → IsAttempt j made made z false
attempt_unmade j all made earlier z are same unmade =
    attempt_failed j made z (λ node. inr (inr (inr (subst (λ (x : List NoGoodCut). IsNotMade j.program j.area x z)
    (same ∙ are.all_are) unmade))))

-- what is said of the model and the box that are handed in is said of the job's
pub cut_of_job : (p q : Program) (a b : Area) (z y : List ℤ) (c : NoGoodCut) → q ≡ p → b ≡ a → IsCutAt q b z y c
    → IsCutAt p a z y c
cut_of_job p q a b z y c e f h =
    subst (λ (x : Program). IsCutAt x a z y c) e (subst (λ (x : Area). IsCutAt q x z y c) f h)

pub too_large : (p q : Program) (a b : Area) (earlier : List NoGoodCut) (z y : List ℤ) (n : ℕ) → q ≡ p → b ≡ a
    → IsNoCut q b earlier z y (TooLarge n) → IsNotMade p a earlier z
too_large p q a b earlier z y n e f h = record {
  number = n;
  reason = inr (subst (λ (x : Program). IsTooLarge x a earlier z n) e
      (subst (λ (x : Area). IsTooLarge q x earlier z n) f h.1));
}

-- ---- the cuts that may be used

few_of_program : (p : Program) (cuts : List NoGoodCut) (t : Bool) → All (λ (c : NoGoodCut). c.program ≡ p) cuts
    → All (λ (c : NoGoodCut). c.program ≡ p) (cond t cuts (drop 1 cuts))
few_of_program p cuts true all = all
few_of_program p cuts false all = All-drop (λ (c : NoGoodCut). c.program ≡ p) 1 cuts all

pub of_program : (p q : Program) (a : Area) (cuts usable usable' : List NoGoodCut) (k : ℕ) (c d : NoGoodCut)
    → All (λ (x : NoGoodCut). x.program ≡ p) usable → IsUsable q a cuts (Cut k) → q ≡ p → d ≡ cut_at cuts k → c ≡ d
    → usable' ≡ with_cut usable c → All (λ (x : NoGoodCut). x.program ≡ p) usable'
of_program p q a cuts usable usable' k c d all is e there same eu =
    subst (All (λ (x : NoGoodCut). x.program ≡ p)) (sym eu)
    (All-push (λ (x : NoGoodCut). x.program ≡ p) (cond (nat_lt (length usable) MAX_CUTS) usable (drop 1 usable)) c
    (few_of_program p usable (nat_lt (length usable) MAX_CUTS) all)
    (ap (λ (x : NoGoodCut). x.program) (same ∙ there) ∙ is.model ∙ e))

pub tried_better : (j : Job) (made : List NoGoodCut) (why : Why) (z y x : List ℤ) → why ≡ Better z y → x ≡ z
    → IsTriedAt j made x → IsTried j.program j.area j.node j.cuts made why
tried_better j made why z y x e f h =
    subst (IsTried j.program j.area j.node j.cuts made) (sym e) (subst (IsTriedAt j made) f h)
