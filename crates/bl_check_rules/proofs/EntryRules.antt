-- The follower's problem over a part of the program's box, its points, and what is proved of an entry.
use Rattle.std.proofs.Common.{◌≡◌, ◌<◌, ℕ, List, length, sym, ap, subst, ◌∙◌, Bool}
use Rattle.std.specs.Prelude.{ℤ, ◌↔◌, IsTrue, Option, slice_index}
use Rattle.std.proofs.lemmas.List.{length-map}
use Rattle.bl_whole.specs.Sums.{component}
use Rattle.bl_terms.specs.Points.{Area, IsArea, IsWithinArea, values_at}
use Rattle.bl_terms.specs.Programs.{Program, IsProgram}
use Rattle.bl_terms.specs.Responses.{IsResponse, response_cost}
use Rattle.bl_terms.specs.Bounds.{Multipliers, Problem, Proves, over}
use Rattle.bl_terms.specs.FollowerProofs.{follower_box}
use Rattle.bl_terms.proofs.PointLemmas.{part_of_itself}
use Rattle.bl_terms.proofs.FollowerProofLemmas.{follower_points, response_in_box}
use Rattle.bl_cert_terms.specs.Certificates.{ProvedEntry}
use Rattle.bl_fproof.specs.Entries.{IsPointOfCost, whole_problem}
use Rattle.bl_check_terms.specs.Rules.{ProvesEntry, cutoff_of_entry}
use Rattle.bl_check_terms.specs.Values.{followers_area}
use Rattle.bl_check_walk.specs.Sites.{IsPartOf}
use Rattle.bl_terms.proofs.PlaceLemmas.{Contains-at, values_at-entry}

-- the points of a cost are the responses of that cost
response-is : (p : Program) (l y : List ℤ) (v : ℤ) → IsProgram p
    → IsPointOfCost (whole_problem p l) y v ↔ (IsResponse p l y × (response_cost p y ≡ v))
response-is p l y v g =
    let law = follower_points p l y (follower_box p) g (part_of_itself (follower_box p)) in
    (λ h. ((law.0 h.0).1, h.1), λ h. (law.1 (response_in_box p l y h.0, h.0), h.1))

pub best-is : (p : Program) (rows : Problem) (l y : List ℤ) (v : ℤ) (b : Bool) → IsProgram p
    → IsTrue b ↔ IsPointOfCost rows y v → rows ≡ whole_problem p l
    → IsTrue b ↔ (IsResponse p l y × (response_cost p y ≡ v))
best-is p rows l y v b g h e =
    let law = response-is p l y v g in (
      λ t. law.0 (subst (λ (q : Problem). IsPointOfCost q y v) e (h.0 t)),
      λ k. h.1 (subst (λ (q : Problem). IsPointOfCost q y v) (sym e) (law.1 k)),
    )

-- a part of the program's box, on the follower's columns
pub followers-part : (p : Program) (a : Area) → IsProgram p → IsPartOf p a
    → IsArea (followers_area p a) × IsWithinArea (followers_area p a) (follower_box p)
followers-part p a g is = (
  record {
    sides = length-map p.follower (λ k. component a.hi k) ∙ sym (length-map p.follower (λ k. component a.lo k));
    ordered = λ j b.
        let b' : j < length p.follower = rw length-map at b in
        let k = slice_index p.follower j in
        let below : k < length a.lo =
        subst (λ (n : ℕ). k < n) (sym is.within.columns) (g.follower_below k (Contains-at p.follower j b')) in
        rw (values_at-entry a.lo p.follower j b', values_at-entry a.hi p.follower j b') (is.area.ordered k below);
  },
  record {
    columns = length-map p.follower (λ k. component a.lo k) ∙ sym (length-map p.follower (λ k. component p.lo k));
    least = λ j b.
        let b' : j < length p.follower = rw length-map at b in
        rw (values_at-entry p.lo p.follower j b', values_at-entry a.lo p.follower j b')
        (is.within.least (slice_index p.follower j)
        (g.follower_below (slice_index p.follower j) (Contains-at p.follower j b')));
    most = λ j b.
        let b' : j < length p.follower = rw length-map at b in
        rw (values_at-entry a.hi p.follower j b', values_at-entry p.hi p.follower j b')
        (is.within.most (slice_index p.follower j)
        (g.follower_below (slice_index p.follower j) (Contains-at p.follower j b')));
  },
)

-- what the multipliers prove of the follower's problem they prove of the entry
pub entry-is : (p : Program) (e : ProvedEntry) (rows : Problem) (value : Option ℤ) (a : Area) (w v : Multipliers)
    (b : Bool) → IsTrue b ↔ Proves (over rows (followers_area p a)) value w → w ≡ v → rows ≡ whole_problem p e.link
    → value ≡ cutoff_of_entry e.entry → IsTrue b ↔ ProvesEntry p e a v
entry-is p e rows value a w v b h same at says =
    let q = whole_problem p e.link in
    let u = cutoff_of_entry e.entry in (
      λ t. subst (λ (x : Multipliers). Proves (over q (followers_area p a)) u x)
          same
          (subst (λ (n : Option ℤ). Proves (over q (followers_area p a)) n w) says
          (subst (λ (r : Problem). Proves (over r (followers_area p a)) value w) at (h.0 t))),
      λ k. h.1
          (subst (λ (r : Problem). Proves (over r (followers_area p a)) value w) (sym at)
          (subst (λ (n : Option ℤ). Proves (over q (followers_area p a)) n w) (sym says)
          (subst (λ (x : Multipliers). Proves (over q (followers_area p a)) u x)
          (sym same) k))),
    )

-- the box of these sides
abbrev pub box_of : List ℤ → List ℤ → Area
box_of lo hi = record { lo = lo; hi = hi }

pub on-followers : (p : Program) (a : Area) (lo hi : List ℤ) → lo ≡ values_at a.lo p.follower
    → hi ≡ values_at a.hi p.follower → box_of lo hi ≡ followers_area p a
on-followers p a lo hi e f =
    ap (λ (x : List ℤ). box_of x hi) e ∙ ap (λ (x : List ℤ). box_of (values_at a.lo p.follower) x) f

-- the values at the follower's columns
pub picked-is : (p : Program) (got numbers sides : List ℤ) (places : List ℕ) → got ≡ values_at numbers places
    → places ≡ p.follower → numbers ≡ sides → got ≡ values_at sides p.follower
picked-is p got numbers sides places e f h =
    e ∙ ap (λ (ks : List ℕ). values_at numbers ks) f ∙ ap (λ (zs : List ℤ). values_at zs p.follower) h

-- what is proved of the problem over that box
pub over-is : (rows q : Problem) (b a : Area) (u : Option ℤ) (w : Multipliers) (r : Bool) → q ≡ over rows b → b ≡ a
    → IsTrue r ↔ Proves q u w → IsTrue r ↔ Proves (over rows a) u w
over-is rows q b a u w r e f h =
    subst (λ (x : Problem). IsTrue r ↔ Proves x u w) (e ∙ ap (λ (x : Area). over rows x) f) h
