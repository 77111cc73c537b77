-- A part of a model's box is a box.
use Rattle.std.proofs.Common.{ℕ, ◌<◌, List, length, arith}
use Rattle.std.specs.Prelude.{ℤ, pos, ◌≤ℤ◌}
use Rattle.std.proofs.lemmas.Int.{ints}
use Rattle.std.proofs.lemmas.List.{length-map, get_or-map}
use Rattle.bl_limits.specs.declared.TheConstants.{MAX_NUMBER}
use Rattle.bl_whole.specs.Sums.{component}
use Rattle.bl_whole.specs.Within.{IsWithin}
use Rattle.bl_whole.proofs.WithinLemmas.{within_from_bounds, within_high, within_low}
use Rattle.bl_terms.specs.Programs.{Program, columns}
use Rattle.bl_model.specs.Boxes.{IsBox}
use Rattle.bl_model.specs.View.{IsModel}
use Rattle.bl_certtext.specs.Places.{IsPart, side_at}
use Rattle.bl_check_terms.specs.Values.{area_of}
use Rattle.bl_check_terms.proofs.Numbers.{part_is_area}

-- between two small numbers all are small
between : (m : ℕ) (a z b : ℤ) → IsWithin m a → a ≤ℤ z → z ≤ℤ b → IsWithin m b → IsWithin m z
between m a z b low least most high =
    let l = within_low low in
    let h = within_high high in
    within_from_bounds m z (omega (arith, ints)) (omega (arith, ints))

-- both sides of a column are small
sides_small : (p : Program) (sides : List (ℤ × ℤ)) (k : ℕ) → IsModel p → IsPart p sides → k < columns p
    → IsWithin MAX_NUMBER (side_at sides k).0 × IsWithin MAX_NUMBER (side_at sides k).1
sides_small p sides k model part b =
    let lo = component p.lo k in
    let hi = component p.hi k in
    let side = side_at sides k in
    let least = part.least k b in
    let ordered = part.ordered k b in
    let most = part.most k b in (
      between MAX_NUMBER lo side.0 hi (model.limits.lower_bounds k) least (omega (arith, ints))
          (model.limits.upper_bounds k),
      between MAX_NUMBER lo side.1 hi (model.limits.lower_bounds k) (omega (arith, ints)) most
          (model.limits.upper_bounds k),
    )

pub part_is_box : (p : Program) (sides : List (ℤ × ℤ)) → IsModel p → IsPart p sides → IsBox (area_of sides)
part_is_box p sides model part =
    let count = part.count in
    let lo_count = length-map sides (λ s. s.0) in
    let hi_count = length-map sides (λ s. s.1) in
    let few = model.limits.few_columns in
    record {
      area = part_is_area p sides part;
      few = omega arith;
      lower_bounds = record {
        each = λ k b.
            let b' : k < length sides = omega arith in
            rw (get_or-map (λ s. s.0) sides k (pos 0, pos 0) (pos 0) b')
            (sides_small p sides k model part (omega arith)).0;
      };
      upper_bounds = record {
        each = λ k b.
            let b' : k < length sides = omega arith in
            rw (get_or-map (λ s. s.1) sides k (pos 0, pos 0) (pos 0) b')
            (sides_small p sides k model part (omega arith)).1;
      };
    }
