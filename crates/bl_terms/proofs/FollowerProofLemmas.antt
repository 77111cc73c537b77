-- A follower proof implies a true entry.
use Rattle.std.proofs.Common.{◌≡◌, ℕ, zero, suc, ◌<◌, refl, sym, ◌∙◌, arith, Bool, true, false, cond, List, [], ◌∷◌}
use Rattle.std.proofs.Common.{length}
use Rattle.std.specs.Prelude.{ℤ, ◌≤ℤ◌, Some, None, slice_index, IsTrue}
use Rattle.std.proofs.lemmas.Int.{ints}
use Rattle.std.proofs.lemmas.List.{length-map}
use Rattle.std.proofs.lemmas.Bool.{false≢true}
use Rattle.bl_whole.specs.Sums.{component}
use Rattle.bl_terms.specs.Points.{Area, IsArea, InArea, Linear, Meets, values_at}
use Rattle.bl_terms.specs.Programs.{Program, Row, row_at, IsProgram}
use Rattle.bl_terms.specs.Responses.{IsResponse, response_cost, Best, NoResponse}
use Rattle.bl_terms.specs.Bounds.{linear_at, IsPoint, IsProblem, Proves}
use Rattle.bl_terms.specs.FollowerProofs.{follower_row, follower_rows, follower_box, follower_problem, FollowerProofLaw}
use Rattle.bl_terms.specs.FollowerProofs.{FollowerPoints}
use Rattle.bl_terms.proofs.PlaceLemmas.{Contains-at, values_at-entry}
use Rattle.bl_terms.specs.Trees.{Anything}
use Rattle.bl_terms.proofs.TreeLemmas.{tree_shows}
use Rattle.bl_terms.proofs.BoundLemmas.{weak_duality, no_cutoff_no_point}

-- what holds of each row of the follower among rows holds of each row of `follower_rows`
each_follower_row : (p : Program) (l : List ℤ) (P : Linear → Type 0) (rows : List Row)
    → ((i : ℕ) → i < length rows → IsTrue (row_at rows i).lower → P (follower_row p l (row_at rows i)))
    → (i : ℕ) → i < length (follower_rows p l rows) → P (linear_at (follower_rows p l rows) i)
each_follower_row p l P [] h = λ i b. absurd (omega arith)
each_follower_row p l P (r ∷ rs) h =
    by (each_follower_row p l P rs (λ i b low. h (suc i) (omega arith) low)) r.lower (h 0 (omega arith))
  where
    by : ((i : ℕ) → i < length (follower_rows p l rs) → P (linear_at (follower_rows p l rs) i)) → (t : Bool)
        → (IsTrue t → P (follower_row p l r))
        → (i : ℕ) → i < length (cond t (follower_row p l r ∷ follower_rows p l rs) (follower_rows p l rs))
        → P (linear_at (cond t (follower_row p l r ∷ follower_rows p l rs) (follower_rows p l rs)) i)
    by others true first zero b = first refl
    by others true first (suc i) b = others i (omega arith)
    by others false first i b = others i b

-- and the other way round
row_of_follower : (p : Program) (l : List ℤ) (P : Linear → Type 0) (rows : List Row)
    → ((i : ℕ) → i < length (follower_rows p l rows) → P (linear_at (follower_rows p l rows) i))
    → (i : ℕ) → i < length rows → IsTrue (row_at rows i).lower → P (follower_row p l (row_at rows i))
row_of_follower p l P [] h = λ i b low. absurd (omega arith)
row_of_follower p l P (r ∷ rs) h = by (λ others. row_of_follower p l P rs others) r.lower refl h
  where
    by : (((i : ℕ) → i < length (follower_rows p l rs) → P (linear_at (follower_rows p l rs) i)) → (i : ℕ)
        → i < length rs → IsTrue (row_at rs i).lower → P (follower_row p l (row_at rs i)))
        → (t : Bool) → r.lower ≡ t
        → ((i : ℕ) → i < length (cond t (follower_row p l r ∷ follower_rows p l rs) (follower_rows p l rs))
        → P (linear_at (cond t (follower_row p l r ∷ follower_rows p l rs) (follower_rows p l rs)) i))
        → (i : ℕ) → i < length (r ∷ rs) → IsTrue (row_at (r ∷ rs) i).lower → P (follower_row p l (row_at (r ∷ rs) i))
    by rest true e h zero b low = h 0 (omega arith)
    by rest true e h (suc i) b low = rest (λ k c. h (suc k) (omega arith)) i (omega arith) low
    by rest false e h zero b low = absurd (let x = rw e at low in false≢true x)
    by rest false e h (suc i) b low = rest h i (omega arith) low

pub follower_box-area : (p : Program) → IsProgram p → IsArea (follower_box p)
follower_box-area p g = record {
  sides = length-map p.follower (λ k. component p.hi k) ∙ sym (length-map p.follower (λ k. component p.lo k));
  ordered = λ j b.
      let b' : j < length p.follower = rw length-map at b in
      rw (values_at-entry p.lo p.follower j b', values_at-entry p.hi p.follower j b')
      (g.box.ordered (slice_index p.follower j)
      (g.follower_below (slice_index p.follower j) (Contains-at p.follower j b')));
}

-- a response lies in the follower's box
pub response_in_box : (p : Program) (l y : List ℤ) → IsResponse p l y → InArea (follower_box p) y
response_in_box p l y r = record {
  columns = r.ranges.count ∙ sym (length-map p.follower (λ k. component p.lo k));
  least = λ j b. let b' : j < length p.follower = rw length-map at b in
      rw (values_at-entry p.lo p.follower j b') (r.ranges.least j b');
  most = λ j b. let b' : j < length p.follower = rw length-map at b in
      rw (values_at-entry p.hi p.follower j b') (r.ranges.most j b');
}

-- a response in a box is a point of the follower's problem over it
point_from_response : (p : Program) (l y : List ℤ) (a : Area) → InArea a y → IsResponse p l y
    → IsPoint (follower_problem p l a) y
point_from_response p l y a inside r = record {
  inside = inside;
  rows = each_follower_row p l (λ h. Meets h y) p.rows
      (λ i b low. let h = r.rows i b low in record { holds = omega (arith, ints) });
}

-- the follower's problem over a box that has a response has one number for each column
problem_from_response : (p : Program) (l y : List ℤ) (a : Area) → IsProgram p → IsArea a → InArea a y
    → IsResponse p l y → IsProblem (follower_problem p l a)
problem_from_response p l y a g area inside r =
    let n : length p.follower ≡ length a.lo = sym r.ranges.count ∙ inside.columns in
    record {
      box = area;
      cost_columns = length-map p.follower (λ k. component p.follower_cost k) ∙ n;
      row_columns = each_follower_row p l (λ h. length h.coef ≡ length a.lo) p.rows
          (λ i b low. length-map p.follower (λ k. component (row_at p.rows i).coef k) ∙ n);
    }

pub follower_proof_law : FollowerProofLaw
follower_proof_law p l (Best y v) nodes g proof = record {
  response = proof.response;
  value = proof.value;
  least = λ y' r.
      tree_shows Anything (λ a w. Proves (follower_problem p l a) (Some v) w)
      (λ x. IsResponse p l x → v ≤ℤ response_cost p x)
      (λ a w x area closed inside r'. weak_duality (follower_problem p l a) v w x
      (problem_from_response p l x a g area inside r') closed (point_from_response p l x a inside r'))
      nodes (follower_box p) (follower_box-area p g) proof.tree y' (response_in_box p l y' r) r;
}
follower_proof_law p l NoResponse nodes g proof = λ y r.
    tree_shows Anything (λ a w. Proves (follower_problem p l a) None w) (λ x. IsResponse p l x → ⊥)
    (λ a w x area closed inside r'. no_cutoff_no_point (follower_problem p l a) w x
    (problem_from_response p l x a g area inside r') closed (point_from_response p l x a inside r'))
    nodes (follower_box p) (follower_box-area p g) proof y (response_in_box p l y r) r

pub follower_points : FollowerPoints
follower_points p l y a g part = (
  λ point. (
    point.inside,
    record {
      ranges = record {
        count = point.inside.columns ∙ part.columns ∙ length-map p.follower (λ k. component p.lo k);
        least = λ j b.
            let c : j < length (values_at p.lo p.follower) = rw length-map b in
            let h = part.least j c in
            let k = point.inside.least j (rw part.columns c) in
            let e = values_at-entry p.lo p.follower j b in
            omega (arith, ints);
        most = λ j b.
            let c : j < length (values_at p.lo p.follower) = rw length-map b in
            let h = part.most j c in
            let k = point.inside.most j (rw part.columns c) in
            let e = values_at-entry p.hi p.follower j b in
            omega (arith, ints);
      };
      rows = λ i b low.
          let m = row_of_follower p l (λ h. Meets h y) p.rows point.rows i b low in
          let h = m.holds in
          omega (arith, ints);
    },
  ),
  λ both. point_from_response p l y a both.0 both.1,
)
