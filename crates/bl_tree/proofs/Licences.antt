-- Better responses, as points of the follower's problem.
use Rattle.std.proofs.Common.{◌≡◌, ◌<◌, refl, sym, ◌∙◌, subst, List, length}
use Rattle.std.specs.Prelude.{◌↔◌, ℤ, Bool, Option, Some, None, IsTrue, Result, Ok, Err, IfOk, MatchOption}
use Rattle.std.proofs.lemmas.List.{get_or-map, length-map}
use Rattle.std.specs.declared.alloc.AllocError.{AllocError}
use Rattle.bl_bound.specs.Plain.{IsBetterPoint}
use Rattle.bl_terms.specs.Programs.{Program, root, inequality, no_row, MeetsRows, link_of, follower_at}
use Rattle.bl_terms.specs.Points.{Area, IsArea, InArea, IsWithinArea, Fixes, Linear, Meets}
use Rattle.bl_terms.specs.Responses.{Best}
use Rattle.bl_terms.specs.Bounds.{Problem, IsPoint, no_linear}
use Rattle.bl_terms.specs.FollowerProofs.{follower_box}
use Rattle.bl_terms.proofs.FollowerProofLemmas.{follower_points, response_in_box}
use Rattle.bl_terms.proofs.PointLemmas.{part_of_itself}
use Rattle.bl_model.specs.View.{IsModel}
use Rattle.bl_fproof.specs.Entries.{Admitted, whole_problem}
use Rattle.bl_licence.specs.declared.why.Why.{Why}
use Rattle.bl_licence.specs.declared.why.Why.TheVariants.{Fraction, Better, Wide, Tired, Large}
use Rattle.bl_licence.specs.Why.{IsLicence}
use Rattle.bl_cut_terms.specs.NoGoods.{HasBetterResponse}
use Rattle.bl_leaf_terms.specs.Incumbents.{Incumbent, AreIncumbents, cutoff_of}
use Rattle.bl_leaf_terms.specs.Nodes.{plain_problem, HasValue, IsBettered, IsFreeLicence, IsFixedLicence}
use Rattle.bl_leaf_terms.specs.Nodes.{NodeLicence, IsNodeLicence}
use Rattle.bl_tree.specs.Values.{GivesValue, GivesNoValue}

better_point : (p : Program) (z y : List ℤ) → IsModel p
    → IsBetterPoint (whole_problem p (link_of p z)) (Some (follower_at p z)) y ↔ HasBetterResponse p z y
better_point p z y m =
    let points = follower_points p (link_of p z) y (follower_box p) m.sound (part_of_itself (follower_box p)) in (
      λ h. record { response = (points.0 h.point).1; cheaper = h.cost },
      λ h. record {
        point = points.1 (response_in_box p (link_of p z) y h.response, h.response);
        cost = h.cheaper;
      },
    )

pub better_by : (p : Program) (z y : List ℤ) (q : Problem) (cost : ℤ) (b : Bool) → IsModel p
    → q ≡ whole_problem p (link_of p z) → cost ≡ follower_at p z → IsTrue b ↔ IsBetterPoint q (Some cost) y
    → IsTrue b ↔ HasBetterResponse p z y
better_by p z y q cost b m problem value h =
    let law = better_point p z y m in
    let P : Problem → ℤ → Type 0 = λ x v. IsTrue b ↔ IsBetterPoint x (Some v) y in
    let at_problem : IsTrue b ↔ IsBetterPoint (whole_problem p (link_of p z)) (Some cost) y =
    subst (λ (x : Problem). P x cost) problem h in
    let there : IsTrue b ↔ IsBetterPoint (whole_problem p (link_of p z)) (Some (follower_at p z)) y =
    subst (λ (v : ℤ). P (whole_problem p (link_of p z)) v) value at_problem in
    (λ t. law.0 (there.0 t), λ g. there.1 (law.1 g))

-- ---- better responses as licences

plain_point : (p : Program) (a : Area) (z : List ℤ) → IsPoint (plain_problem p a None) z → MeetsRows p z
plain_point p a z h = record {
  each = λ i b. subst (λ (r : Linear). Meets r z) (get_or-map inequality p.rows i no_row no_linear b)
      (h.rows i (rw length-map b));
}

point_plain : (p : Program) (a : Area) (z : List ℤ) → InArea a z → MeetsRows p z → IsPoint (plain_problem p a None) z
point_plain p a z inside rows = record {
  inside = inside;
  rows = λ i b. let b' : i < length p.rows = rw length-map at b in
      subst (λ (r : Linear). Meets r z) (sym (get_or-map inequality p.rows i no_row no_linear b')) (rows.each i b');
}

bettered : (p : Program) (a : Area) (u : Option ℤ) (z y : List ℤ)
    → (IsBetterPoint (plain_problem p a None) u z × HasBetterResponse p z y) ↔ IsBettered p a u z y
bettered p a u z y = (
  λ h. record { inside = h.0.point.inside; rows = plain_point p a z h.0.point; cost = h.0.cost; better = h.1 },
  λ h. (record { point = point_plain p a z h.inside h.rows; cost = h.cost }, h.better),
)

pub better_licences : (p : Program) (a : Area) (u : Option ℤ) (why : Why) (z y z' y' : List ℤ) (q : Problem)
    (r : Result Bool AllocError) → q ≡ plain_problem p a None → why ≡ Better z' y' → z ≡ z' → y ≡ y'
    → IfOk r (λ b. IsTrue b ↔ (IsBetterPoint q u z × HasBetterResponse p z y))
    → IfOk r (λ b. IsTrue b ↔ IsFreeLicence p a u why)
better_licences p a u why z y z' y' q (Err e) problem better point response h = tt
better_licences p a u why z y z' y' q (Ok b) problem better point response h =
    let there : IsTrue b ↔ (IsBetterPoint (plain_problem p a None) u z × HasBetterResponse p z y) =
    subst (λ (x : Problem). IsTrue b ↔ (IsBetterPoint x u z × HasBetterResponse p z y)) problem h in
    let law = bettered p a u z y in
    let is : IsTrue b ↔ IsBettered p a u z y = (λ t. law.0 (there.0 t), λ g. there.1 (law.1 g)) in
    let at_point : IsTrue b ↔ IsBettered p a u z' y =
    subst (λ (x : List ℤ). IsTrue b ↔ IsBettered p a u x y) point is in
    let at_response : IsTrue b ↔ IsBettered p a u z' y' =
    subst (λ (x : List ℤ). IsTrue b ↔ IsBettered p a u z' x) response at_point in
    subst (λ (x : Why). IsTrue b ↔ IsFreeLicence p a u x) (sym better) at_response

-- a licence that is no better response is one of the plain problem
pub free_licence : (p : Program) (a : Area) (u : Option ℤ) (why : Why) (b : Bool)
    → ((z y : List ℤ) → why ≡ Better z y → ⊥) → IsTrue b ↔ IsLicence (plain_problem p a None) u why
    → IsTrue b ↔ IsFreeLicence p a u why
free_licence p a u (Better z y) b other h = absurd (other z y refl)
free_licence p a u (Fraction fs) b other h = h
free_licence p a u (Wide pivots row column) b other h = h
free_licence p a u (Tired pivots) b other h = h
free_licence p a u (Large pivots) b other h = h

pub free_licences : (p : Program) (a : Area) (u : Option ℤ) (why : Why) (q : Problem) (r : Result Bool AllocError)
    → q ≡ plain_problem p a None → ((z y : List ℤ) → why ≡ Better z y → ⊥) → IfOk r (λ b. IsTrue b ↔ IsLicence q u why)
    → IfOk r (λ b. IsTrue b ↔ IsFreeLicence p a u why)
free_licences p a u why q (Ok b) same other h =
    free_licence p a u why b other (subst (λ (x : Problem). IsTrue b ↔ IsLicence x u why) same h)
free_licences p a u why q (Err e) same other h = tt

-- ---- licences of a box that fixes its link

-- an entry gives a box one value
one_value : (p : Program) (a : Area) (e : Admitted) (v w : ℤ) → HasValue p a e v → HasValue p a e w → v ≡ w
one_value p a e v w g h = same_cost (sym g.best.1 ∙ h.best.1)
  where
    same_cost : {y y' : List ℤ} → Best y v ≡ Best y' w → v ≡ w
    same_cost e = cc

pub fixed_licences : (p : Program) (a : Area) (u : Option ℤ) (entry : Option Admitted) (why : Why) (v : ℤ) (q : Problem)
    (r : Result Bool AllocError) → q ≡ plain_problem p a (Some v) → GivesValue p a entry v
    → IfOk r (λ b. IsTrue b ↔ IsLicence q u why)
    → IfOk r (λ b. IsTrue b ↔ MatchOption entry ⊥ (λ e. IsFixedLicence p a u e why))
fixed_licences p a u entry why v q (Err e) problem gives h = tt
fixed_licences p a u None why v q (Ok b) problem gives h = absurd gives
fixed_licences p a u (Some e) why v q (Ok b) problem gives h =
    let there : IsTrue b ↔ IsLicence (plain_problem p a (Some v)) u why =
    subst (λ (x : Problem). IsTrue b ↔ IsLicence x u why) problem h in (
      λ t. record { value = v; has = gives; licence = there.0 t },
      λ f. there.1 (subst (λ (x : ℤ). IsLicence (plain_problem p a (Some x)) u why)
          (one_value p a e f.value v f.has gives) f.licence),
    )

pub not_fixed : (p : Program) (a : Area) (u : Option ℤ) (entry : Option Admitted) (why : Why)
    → GivesNoValue p a entry → MatchOption entry ⊥ (λ e. IsFixedLicence p a u e why) → ⊥
not_fixed p a u None why none h = h
not_fixed p a u (Some e) why none h = none h.value h.has

-- ---- licences of a node

-- what a licence of these parts is
abbrev pub parts : Program → Area → Option Incumbent → Option Admitted → Why → NodeLicence
parts p a best entry why = record { program = p; area = a; cutoff = best; entry = entry; why = why }

pub node_fixed : (p : Program) (a : Area) (best : Option Incumbent) (u : Option ℤ) (entry : Option Admitted) (why : Why)
    (r : Result Bool AllocError) → IsModel p → IsWithinArea a (root p) → AreIncumbents p best → u ≡ cutoff_of best
    → Fixes a p.links → IfOk r (λ b. IsTrue b ↔ MatchOption entry ⊥ (λ e. IsFixedLicence p a u e why))
    → IfOk r (λ b. IsTrue b → IsArea a) → IfOk r (λ b. IsTrue b ↔ IsNodeLicence (parts p a best entry why))
node_fixed p a best u entry why (Err e) m within of cutoff fixes h area = tt
node_fixed p a best u entry why (Ok b) m within of cutoff fixes h area =
    let there : IsTrue b ↔ MatchOption entry ⊥ (λ e. IsFixedLicence p a (cutoff_of best) e why) =
    subst (λ (x : Option ℤ). IsTrue b ↔ MatchOption entry ⊥ (λ e. IsFixedLicence p a x e why)) cutoff h in (
      λ t. record {
        model = m;
        area = area t;
        within = within;
        incumbent = of;
        licensed = record { free = λ other. absurd (other fixes); fixed = λ _. there.0 t };
      },
      λ l. there.1 (l.licensed.fixed fixes),
    )

pub node_free : (p : Program) (a : Area) (best : Option Incumbent) (u : Option ℤ) (entry : Option Admitted) (why : Why)
    (r : Result Bool AllocError) → IsModel p → IsWithinArea a (root p) → AreIncumbents p best → u ≡ cutoff_of best
    → ¬ Fixes a p.links → IfOk r (λ b. IsTrue b ↔ IsFreeLicence p a u why) → IfOk r (λ b. IsTrue b → IsArea a)
    → IfOk r (λ b. IsTrue b ↔ IsNodeLicence (parts p a best entry why))
node_free p a best u entry why (Err e) m within of cutoff free h area = tt
node_free p a best u entry why (Ok b) m within of cutoff free h area =
    let there : IsTrue b ↔ IsFreeLicence p a (cutoff_of best) why =
    subst (λ (x : Option ℤ). IsTrue b ↔ IsFreeLicence p a x why) cutoff h in (
      λ t. record {
        model = m;
        area = area t;
        within = within;
        incumbent = of;
        licensed = record { free = λ _. there.0 t; fixed = λ fixes. absurd (free fixes) };
      },
      λ l. there.1 (l.licensed.free free),
    )

-- a box that is known to be one whatever the answer
pub area_known : (a : Area) (r : Result Bool AllocError) → IsArea a → IfOk r (λ b. IsTrue b → IsArea a)
area_known a (Ok b) is = λ _. is
area_known a (Err e) is = tt
