-- Whole points of a box that fixes the linking columns are incumbents.
use Rattle.std.proofs.Common.{◌≡◌, ℕ, zero, suc, ◌+◌, ◌<◌, refl, sym, subst, arith}
use Rattle.std.proofs.Common.{List, [], ◌∷◌, ◌++◌, length, map}
use Rattle.std.specs.Prelude.{ℤ, ◌≤ℤ◌, ◌<ℤ◌, ◌↔◌, Bool, true, false, IsTrue, Option, Some, None}
use Rattle.std.proofs.lemmas.Int.{ints}
use Rattle.std.proofs.lemmas.List.{get_or-map, length-map}
use Rattle.bl_terms.specs.Points.{Area, InArea, IsWithinArea, Meets, Linear}
use Rattle.bl_terms.specs.Programs.{Program, Row, InBox, MeetsRows, inequality, row_at, no_row, root, link_of}
use Rattle.bl_terms.specs.Programs.{cost_at, follower_at}
use Rattle.bl_terms.specs.Bounds.{IsPoint, linear_at, no_linear}
use Rattle.bl_terms.specs.Responses.{Entry, Best, NoResponse, IsBest, IsTrueEntry}
use Rattle.bl_terms.proofs.PointLemmas.{point_of_part}
use Rattle.bl_bound.specs.Plain.{CostsLess, IsBetterPoint}
use Rattle.bl_model.specs.View.{IsModel}
use Rattle.bl_model.proofs.BoxLemmas.{link_of_box}
use Rattle.bl_fproof.specs.Entries.{Admitted}
use Rattle.bl_fproof.specs.Steps.{entry_of}
use Rattle.bl_leaf_terms.specs.Incumbents.{Incumbent, IsIncumbent, IsEntryFor, IsNoBetter}
use Rattle.bl_leaf_terms.specs.Nodes.{value_row, plain_problem, fixed_link, HasValue, IsBettered}
use Rattle.bl_leaf_terms.specs.Leaves.{leaf_problem, value_place}
use Rattle.bl_leaf_terms.proofs.LeafLemmas.{incumbent_law, true_entry}
use Rattle.bl_node.specs.Works.{Job}
use Rattle.bl_node.specs.Standing.{cutoff_with, IsBelow}
use Rattle.bl_tree.specs.Shows.{IsOwnEntry}
use Rattle.bl_tree.proofs.Incumbents.{answered_there, shown_by}

-- the row at a place of the rows of a program, and the row after them
rows_first : (rows : List Row) (more : List Linear) (i : ℕ) → i < length rows
    → linear_at (map inequality rows ++ more) i ≡ inequality (row_at rows i)
rows_first [] more i h = absurd (omega arith)
rows_first (r ∷ rows) more zero h = refl
rows_first (r ∷ rows) more (suc i) h = rows_first rows more i (omega arith)

more_rows : (rows : List Row) (more : List Linear) (i : ℕ) → i < length rows
    → i < length (map inequality rows ++ more)
more_rows [] more i h = absurd (omega arith)
more_rows (r ∷ rows) more zero h = omega arith
more_rows (r ∷ rows) more (suc i) h = let rest = more_rows rows more i (omega arith) in omega arith

row_after : (rows : List Row) (r : Linear) → linear_at (map inequality rows ++ r ∷ []) (length rows) ≡ r
row_after [] r = refl
row_after (x ∷ rows) r = row_after rows r

rows_count : (rows : List Row) (r : Linear) → length (map inequality rows ++ r ∷ []) ≡ length rows + 1
rows_count [] r = refl
rows_count (x ∷ rows) r = let e = rows_count rows r in omega arith

no_better : (p : Program) (z : List ℤ) (e : Admitted) (v : ℤ) (y : List ℤ) → entry_of e.answered ≡ Best y v
    → follower_at p z ≤ℤ v → IsNoBetter p z (entry_of e.answered)
no_better p z e v y is h = subst (λ x. IsNoBetter p z x) (sym is) h

-- a point of the plain problem with the value row, in a box that fixes the linking columns
pub fixed_point : (p : Program) (a : Area) (e : Admitted) (v : ℤ) (z : List ℤ) → IsModel p → IsWithinArea a (root p)
    → HasValue p a e v → IsPoint (plain_problem p a (Some v)) z
    → IsIncumbent (record { program = p; point = z; entry = e })
fixed_point p a e v z m within has point =
    let count = rows_count p.rows (value_row p v) in
    let rows : MeetsRows p z = record {
      each = λ i b. subst (λ r. Meets r z) (rows_first p.rows (value_row p v ∷ []) i b) (point.rows i (omega arith));
    } in
    let last : Meets (value_row p v) z =
    subst (λ r. Meets r z) (row_after p.rows (value_row p v)) (point.rows (length p.rows) (omega arith)) in
    let link : link_of p z ≡ fixed_link p a = link_of_box p a z m.sound within has.fixes point.inside in
    let entry : IsEntryFor p (link_of p z) e = subst (λ l. IsEntryFor p l e) (sym link) has.entry in
    let best = has.best in
    record {
      model = m;
      feasible = (incumbent_law p z e m entry).1
          (point_of_part within point.inside, rows, no_better p z e v best.0 best.1 last.holds);
      entry = entry;
    }

-- ... with a copy of the entry
pub fixed_incumbent : (p : Program) (a : Area) (e e' : Admitted) (v : ℤ) (z z' : List ℤ) → IsModel p
    → IsWithinArea a (root p) → HasValue p a e v → e' ≡ e → z' ≡ z → IsPoint (plain_problem p a (Some v)) z
    → IsIncumbent (record { program = p; point = z'; entry = e' })
fixed_incumbent p a e e' v z z' m within has ee ez point =
    subst (λ (x : Admitted). IsIncumbent (record { program = p; point = z'; entry = x })) (sym ee)
    (subst (λ (x : List ℤ). IsIncumbent (record { program = p; point = x; entry = e })) (sym ez)
    (fixed_point p a e v z m within has point))

-- ---- points of a box that leaves a linking column free

-- a point of the plain problem without the value row meets the rows
pub free_point : (p : Program) (a : Area) (z : List ℤ) → IsPoint (plain_problem p a None) z → MeetsRows p z
free_point p a z point = record {
  each = λ i b. subst (λ r. Meets r z) (get_or-map inequality p.rows i no_row no_linear b)
      (point.rows i (rw length-map b));
}

-- a point of the problem with cuts is one of the box that meets the rows and costs less than the cutoff
pub leaf_point : (j : Job) (found : Option Incumbent) (p : Program) (a : Area) (cuts : List Linear) (z : List ℤ)
    → p ≡ j.program → a ≡ j.area → IsBetterPoint (leaf_problem p a None cuts) (cutoff_with j found) z
    → IsBelow j found z
leaf_point j found p a cuts z ep ea better =
    let here : IsBetterPoint (leaf_problem j.program j.area None cuts) (cutoff_with j found) z =
    subst (λ (x : Program). IsBetterPoint (leaf_problem x j.area None cuts) (cutoff_with j found) z) ep
    (subst (λ (x : Area). IsBetterPoint (leaf_problem p x None cuts) (cutoff_with j found) z) ea better) in
    record {
      inside = here.point.inside;
      rows = record {
        each = λ i b. subst (λ (r : Linear). Meets r z)
            (rows_first j.program.rows (value_place j.program None ∷ cuts) i b)
            (here.point.rows i (more_rows j.program.rows (value_place j.program None ∷ cuts) i b));
      };
      cost = here.cost;
    }

own_entry : (p : Program) (z : List ℤ) (e : Admitted) → InBox p z → IsEntryFor p (link_of p z) e → IsOwnEntry p z e
own_entry p z e inside entry =
    record { placed = record { program = entry.program; inside = inside }; link = entry.link }

-- the entry of the link of a point that meets the rows has a response
pub answered_at : (p : Program) (z : List ℤ) (e : Admitted) → InBox p z → MeetsRows p z
    → IsEntryFor p (link_of p z) e → entry_of e.answered ≡ NoResponse → ⊥
answered_at p z e inside rows entry none =
    answered_there p z e entry.admitted (own_entry p z e inside entry) rows none

-- where it costs the follower no less, the point is an incumbent
pub judged_incumbent : (p : Program) (z z' : List ℤ) (e e' : Admitted) (y : List ℤ) (v : ℤ) → InBox p z
    → MeetsRows p z → IsEntryFor p (link_of p z) e → entry_of e.answered ≡ Best y v → follower_at p z ≤ℤ v → z' ≡ z
    → e' ≡ e → IsIncumbent (record { program = p; point = z'; entry = e' })
judged_incumbent p z z' e e' y v inside rows entry best low ez ee =
    subst (λ (x : Admitted). IsIncumbent (record { program = p; point = z'; entry = x })) (sym ee)
    (subst (λ (x : List ℤ). IsIncumbent (record { program = p; point = x; entry = e })) (sym ez)
    (shown_by p z e y v entry.admitted (own_entry p z e inside entry) rows best low))

-- where it costs him less, it is a better response
pub judged_bettered : (p : Program) (a : Area) (u : Option ℤ) (z y y' : List ℤ) (e : Admitted) (v : ℤ) → InArea a z
    → MeetsRows p z → CostsLess u (cost_at p z) → IsEntryFor p (link_of p z) e → entry_of e.answered ≡ Best y v
    → v <ℤ follower_at p z → y' ≡ y → IsBettered p a u z y'
judged_bettered p a u z y y' e v inside rows less entry best more ey =
    let true_best : IsBest p (link_of p z) y v =
    subst (λ (x : Entry). IsTrueEntry p (link_of p z) x) best (true_entry p (link_of p z) e entry) in
    let value = true_best.value in
    subst (λ (x : List ℤ). IsBettered p a u z x) (sym ey) (record {
      inside = inside;
      rows = rows;
      cost = less;
      better = record { response = true_best.response; cheaper = omega (arith, ints) };
    })

-- ---- a test of a cost

pub below_by : (b : Bool) (u u' : Option ℤ) (x x' : ℤ) → (IsTrue b ↔ CostsLess u x) → b ≡ true → u ≡ u' → x ≡ x'
    → CostsLess u' x'
below_by b u u' x x' test is eu ex =
    subst (λ (v : Option ℤ). CostsLess v x') eu (subst (λ (y : ℤ). CostsLess u y) ex (test.0 is))

pub not_below : (b : Bool) (u u' : Option ℤ) (x x' : ℤ) → (IsTrue b ↔ CostsLess u x) → b ≡ false → u ≡ u' → x ≡ x'
    → ¬ CostsLess u' x'
not_below b u u' x x' test is eu ex less =
    let t : b ≡ true = test.1
    (subst (λ (v : Option ℤ). CostsLess v x) (sym eu) (subst (λ (y : ℤ). CostsLess u' y) (sym ex) less)) in
    absurd (cc)
