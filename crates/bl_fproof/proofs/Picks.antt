-- Values at places are as small as all values, and their products add up.
use Rattle.std.proofs.Common.{◌≡◌, ℕ, ◌+◌, ◌<◌, ◌≤◌, List, length, ℤ, sym, ap, arith, add-one}
use Rattle.std.specs.Prelude.{◌+ℤ◌, ◌*ℤ◌, slice_index, FitsSigned}
use Rattle.std.specs.Int.{w64}
use Rattle.std.proofs.lemmas.List.{length-map}
use Rattle.bl_limits.specs.declared.TheConstants.{MAX_COLUMNS, MAX_NUMBER}
use Rattle.bl_whole.specs.Sums.{component, sum_below}
use Rattle.bl_whole.specs.Within.{AreWithin}
use Rattle.bl_whole.proofs.WithinLemmas.{within_entry, dots_fit}
use Rattle.bl_terms.specs.Points.{values_at}
use Rattle.bl_terms.proofs.PlaceLemmas.{values_at-entry}

pub values_within : (m : ℕ) (cs : List ℤ) (ks : List ℕ) → AreWithin m cs → AreWithin m (values_at cs ks)
values_within m cs ks h = record {
  each = λ k b.
      let b' : k < length ks = rw length-map at b in
      rw (values_at-entry cs ks k b') (within_entry h (slice_index ks k));
}

pub pick_sum_fits : (cs zs : List ℤ) (ks : List ℕ) (j : ℕ) → AreWithin MAX_NUMBER cs → AreWithin MAX_NUMBER zs
    → length ks ≤ MAX_COLUMNS → j < length ks
    → FitsSigned w64 (sum_below j (λ k. component (values_at cs ks) k *ℤ component zs k)
    +ℤ component cs (slice_index ks j) *ℤ component zs j)
pick_sum_fits cs zs ks j c z few b =
    let size = length-map ks (λ k. component cs k) in
    let fit = dots_fit w64 (values_within MAX_NUMBER cs ks c) z (omega arith) in
    let more = rw add-one at (fit.each (j + 1) (omega arith)) in
    rw (sym (values_at-entry cs ks j b)) more

pub pick_sum_more : (cs zs : List ℤ) (ks : List ℕ) (j : ℕ) → j < length ks
    → sum_below (j + 1) (λ k. component (values_at cs ks) k *ℤ component zs k)
    ≡ sum_below j (λ k. component (values_at cs ks) k *ℤ component zs k)
    +ℤ component cs (slice_index ks j) *ℤ component zs j
pick_sum_more cs zs ks j b =
    rw add-one (ap (λ (x : ℤ). sum_below j (λ k. component (values_at cs ks) k *ℤ component zs k)
    +ℤ x *ℤ component zs j) (values_at-entry cs ks j b))
