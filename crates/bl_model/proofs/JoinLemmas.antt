-- What `build` puts together is the program.
use Rattle.std.proofs.Common.{◌≡◌, ℕ, ◌<◌, Bool, false, List, [], ◌∷◌, length, map, refl, arith}
use Rattle.std.specs.Prelude.{ℤ, All, slice_index_or, ◌*ℤ◌}
use Rattle.std.specs.List.{range_with_len, zip, AllByRecursion}
use Rattle.std.proofs.lemmas.List.Elements.{recursion_from_All, All-from_recursion}
use Rattle.std.proofs.lemmas.List.FromFn.{length-map-range_with_len, get_or-map-range_with_len}
use Rattle.bl_terms.specs.Points.{is_among}
use Rattle.bl_terms.specs.Programs.{Row, is_linking, places_where}
use Rattle.bl_raw.specs.declared.raw.RawMps.{RawMps}
use Rattle.bl_raw.specs.declared.raw.RawAux.{RawAux}
use Rattle.bl_model.specs.Build.{number_for, rows_of, follower_numbers, leader_sense_of, program_of}
use Rattle.bl_terms.proofs.ProgramLemmas.{places_where-agree}

-- the marked places, where the marks are a test's answers
pub marks_where : (marks : List Bool) (f : ℕ → Bool) (n : ℕ) → marks ≡ map f (range_with_len 0 n)
    → places_where (λ k. slice_index_or marks k false) (length marks) ≡ places_where f n
marks_where marks f n is =
    rw (is, length-map-range_with_len f 0 n)
    (places_where-agree (λ k. slice_index_or (map f (range_with_len 0 n)) k false) f n
    (λ k below. get_or-map-range_with_len f 0 n k k false below (omega arith)))

-- the places of pairs are those of the first list
small_places : (n : ℕ) (ks : List ℕ) (vs : List ℤ) → AllByRecursion (λ k. k < n) ks
    → AllByRecursion (λ e. e.0 < n) (zip ks vs)
small_places n [] vs h = tt
small_places n (k ∷ ks) [] h = tt
small_places n (k ∷ ks) (v ∷ vs) h = (h.0, small_places n ks vs h.1)

pub follower_numbers-within : (n : ℕ) (aux : RawAux) → All (λ k. k < n) aux.columns
    → All (λ e. e.0 < n) (follower_numbers aux)
follower_numbers-within n aux h =
    All-from_recursion (λ e. e.0 < n) (follower_numbers aux)
    (small_places n aux.columns (map (λ cost. cost *ℤ aux.sense) aux.costs)
    (recursion_from_All (λ k. k < n) aux.columns h))

-- the parts of a program
pub record Parts : Type 0 where
  pub lo : List ℤ
  pub hi : List ℤ
  pub rows : List Row
  pub cost : List ℤ
  pub follower_cost : List ℤ
  pub follower : List ℕ
  pub links : List ℕ
  pub sense : ℤ
  pub leader_sense : ℤ

-- the parts are those that two texts make
pub record AreParts (mps : RawMps) (aux : RawAux) (q : Parts) : Type 0 where
  pub lo : q.lo ≡ map (λ c. c.lo) mps.columns
  pub hi : q.hi ≡ map (λ c. c.hi) mps.columns
  pub rows : q.rows ≡ rows_of mps aux.rows
  pub cost : q.cost ≡ map (λ c. c.cost *ℤ leader_sense_of mps.maximise) mps.columns
  pub follower_cost : q.follower_cost ≡ map (number_for (follower_numbers aux)) (range_with_len 0 (length mps.columns))
  pub follower : q.follower ≡ places_where (λ k. is_among k aux.columns) (length mps.columns)
  pub links : q.links ≡ places_where (is_linking aux.columns q.rows) (length mps.columns)
  pub sense : q.sense ≡ aux.sense
  pub leader_sense : q.leader_sense ≡ leader_sense_of mps.maximise

pub program_made : (mps : RawMps) (aux : RawAux) (q : Parts) → AreParts mps aux q
    → record {
      lo = q.lo;
      hi = q.hi;
      rows = q.rows;
      cost = q.cost;
      follower_cost = q.follower_cost;
      follower = q.follower;
      links = q.links;
      sense = q.sense;
      leader_sense = q.leader_sense;
    } ≡ program_of mps aux
unfolding program_of
program_made mps aux q are =
    rw (are.links, are.lo, are.hi, are.rows, are.cost, are.follower_cost, are.follower, are.sense, are.leader_sense)
    refl
