-- Columns and distances times a common denominator.
use Rattle.std.proofs.Common.{◌≡◌, ℕ, Bool, true, false, cond, ◌+◌, ◌*◌, ◌/◌, ◌^◌, ◌<◌, ◌≤◌, ℤ, pos, ◌+ℤ◌, ◌-ℤ◌, ◌*ℤ◌}
use Rattle.std.proofs.Common.{◌≤ℤ◌, neg_ℤ, to_z, of_z, unsigned_abs, FitsSigned, List, [], ◌∷◌, ◌++◌, length, refl, sym}
use Rattle.std.proofs.Common.{ap, ◌∙◌, subst, arith, below_more, length-append}
use Rattle.std.specs.Int.{◌∣◌, w128}
use Rattle.std.proofs.Math.Nat.{div-mul_cancel, div-le_self}
use Rattle.std.proofs.Math.IntN.{*ℤ_comm, pos-*ℤ-pos}
use Rattle.std.proofs.lemmas.Int.{ints}
use Rattle.std.proofs.lemmas.List.{get_or_append_left, get_or_push}
use Rattle.bl_limits.specs.declared.TheConstants.{MAX_NUMBER}
use Rattle.bl_whole.specs.Sums.{component}
use Rattle.bl_whole.specs.Within.{IsWithin}
use Rattle.bl_whole.specs.Identities.{variable, times}
use Rattle.bl_whole.proofs.IdentityLemmas.{identity}
use Rattle.bl_whole.proofs.Products.{mul_le_left, mul_nonneg}
use Rattle.bl_whole.proofs.WithinLemmas.{within_from_bounds, within_product, within_sum, within_more, fits_from_within}
use Rattle.bl_terms.specs.Bounds.{Problem}
use Rattle.bl_simplex.specs.Fractions.{Fraction}
use Rattle.bl_simplex.specs.Rationals.{times_multiple, IsAtMost}
use Rattle.bl_simplex.specs.Dictionaries.{start_at, sign_at}
use Rattle.std.specs.Prelude.{int_lt, negsuc}
use Rattle.bl_frac.proofs.Signed.{signed_back, signed_of}
use Rattle.bl_licence.specs.Steps.{scaled_column, scaled_size}
use Rattle.bl_licence.proofs.Multiples.{den_read}

-- a product times a factor of the common denominator
grouped : (s m d : ℤ) → s *ℤ (m *ℤ d) ≡ m *ℤ (s *ℤ d)
grouped s m d = identity (s ∷ m ∷ d ∷ []) (times (variable 0) (times (variable 1) (variable 2)))
    (times (variable 1) (times (variable 0) (variable 2))) refl

-- a distance of at most m, times a common denominator of at most 2^50
pub distance_within : (x : Fraction) (m common : ℕ) → x.den ∣ common → common ≤ 2 ^ 50 → pos 0 ≤ℤ x.num
    → IsAtMost x (pos m) → IsWithin (m * 2 ^ 50) (times_multiple common x)
distance_within x m common divides small least most =
    let s = common / x.den in
    let whole : s * x.den ≡ common = div-mul_cancel x.den divides in
    let some : pos 0 ≤ℤ pos s = omega (arith, ints) in
    let product : (pos s *ℤ x.num) ≤ℤ (pos s *ℤ (pos m *ℤ pos x.den)) = mul_le_left (pos s) some most.cross in
    let bound : pos s *ℤ (pos m *ℤ pos x.den) ≡ pos m *ℤ pos common =
    grouped (pos s) (pos m) (pos x.den) ∙ ap (λ z. pos m *ℤ z) (pos-*ℤ-pos s x.den ∙ ap pos whole) in
    let some' : pos 0 ≤ℤ pos m = omega (arith, ints) in
    let few : pos common ≤ℤ pos (2 ^ 50) = omega (arith, ints) in
    let top : (pos m *ℤ pos common) ≤ℤ (pos m *ℤ pos (2 ^ 50)) = mul_le_left (pos m) some' few in
    let last : pos m *ℤ pos (2 ^ 50) ≡ pos (m * 2 ^ 50) = pos-*ℤ-pos m (2 ^ 50) in
    let turned : x.num *ℤ pos s ≡ pos s *ℤ x.num = *ℤ_comm x.num (pos s) in
    let low : pos 0 ≤ℤ (x.num *ℤ pos s) = mul_nonneg least some in
    within_from_bounds (m * 2 ^ 50) (x.num *ℤ pos s) (omega (arith, ints)) (omega (arith, ints))

-- the product of the parts that were read
pub distance_read : (r : ℤ × ℤ) (x : Fraction) (u common : ℕ) → unsigned_abs x.num < 2 ^ 127 → x.den < 2 ^ 127
    → r ≡ (x.num, pos x.den) → u ≡ unsigned_abs (to_z w128 (of_z w128 r.1)) → common ≤ 2 ^ 50
    → to_z w128 (of_z w128 r.0) *ℤ to_z w128 (common / u) ≡ times_multiple common x
distance_read r x u common num den er eu small =
    let eu' = den_read r x.num x.den u den er eu in
    let en : to_z w128 (of_z w128 r.0) ≡ x.num = ap (λ p. to_z w128 (of_z w128 p.0)) er ∙ signed_back x.num num in
    let fits : common / x.den < 2 ^ 127 = omega (arith, div-le common x.den) in
    ap (λ z. z *ℤ to_z w128 (common / u)) en ∙ ap (λ d. x.num *ℤ to_z w128 (common / d)) eu'
    ∙ ap (λ z. x.num *ℤ z) (signed_of (common / x.den) fits)
  where
    div-le : (n d : ℕ) → n / d ≤ n
    div-le n d = div-le_self n d

-- a column's start and its distance, as they are computed
pub column_read : (x start moved : ℤ) (n : ℕ) → x ≡ start → IsWithin MAX_NUMBER start → n ≤ 2 ^ 50
    → IsWithin (2 * (MAX_NUMBER * 2 ^ 50)) moved
    → to_z w128 (of_z w128
    (to_z w128 (of_z w128 (to_z w128 (of_z w128 x) *ℤ to_z w128 n)) +ℤ to_z w128 (of_z w128 moved))) ≡ start
    *ℤ pos n +ℤ moved
column_read x start moved n ex hs hn hm =
    let es : to_z w128 (of_z w128 x) ≡ start =
    ap (λ z. to_z w128 (of_z w128 z)) ex ∙ signed_back start (let m = hs.magnitude in omega arith) in
    let en : to_z w128 n ≡ pos n = signed_of n (omega arith) in
    let product : IsWithin (MAX_NUMBER * 2 ^ 50) (start *ℤ pos n) = within_product hs (record { magnitude = hn }) in
    let ep = ap (λ z. to_z w128 (of_z w128 (z *ℤ to_z w128 n))) es ∙ ap (λ z. to_z w128 (of_z w128 (start *ℤ z))) en
    ∙ signed_back (start *ℤ pos n) (let m = product.magnitude in omega arith) in
    let em : to_z w128 (of_z w128 moved) ≡ moved = signed_back moved (let m = hm.magnitude in omega arith) in
    let sum = within_sum product hm in
    ap (λ z. to_z w128 (of_z w128 (z +ℤ to_z w128 (of_z w128 moved)))) ep
    ∙ ap (λ z. to_z w128 (of_z w128 (start *ℤ pos n +ℤ z))) em
    ∙ signed_back (start *ℤ pos n +ℤ moved) (let m = sum.magnitude in omega arith)

pub column_within : (start moved : ℤ) (n : ℕ) → IsWithin MAX_NUMBER start → n ≤ 2 ^ 50
    → IsWithin (2 * (MAX_NUMBER * 2 ^ 50)) moved → IsWithin scaled_size (start *ℤ pos n +ℤ moved)
column_within start moved n hs hn hm =
    within_more (within_sum (within_product hs (record { magnitude = hn })) hm) (omega arith)

-- a range within two limits is at most twice the limit
pub range_at_most : (x : Fraction) (range : ℤ) (m : ℕ) → range ≤ℤ pos m → IsAtMost x range → IsAtMost x (pos m)
range_at_most x range m h l = record {
  cross =
      let some : pos 0 ≤ℤ pos x.den = omega (arith, ints) in
      let more : (pos x.den *ℤ range) ≤ℤ (pos x.den *ℤ pos m) = mul_le_left (pos x.den) some h in
      let a = *ℤ_comm range (pos x.den) in
      let b = *ℤ_comm (pos m) (pos x.den) in
      let c = l.cross in
      omega (arith, ints);
}

-- the columns so far
pub record ColumnsSoFar (q : Problem) (common : ℕ) (f : ℕ → Fraction) (xs : List ℤ) (k : ℕ) : Type 0 where
  pub size : length xs ≡ k
  pub each : (j : ℕ) → j < k → component xs j ≡ scaled_column q common f j
  pub within : (j : ℕ) → j < k → IsWithin scaled_size (component xs j)

pub columns_more : (q : Problem) (common : ℕ) (f : ℕ → Fraction) (xs ys : List ℤ) (k : ℕ) (x : ℤ)
    → ColumnsSoFar q common f xs k → ys ≡ xs ++ x ∷ [] → x ≡ scaled_column q common f k → IsWithin scaled_size x
    → ColumnsSoFar q common f ys (k + 1)
columns_more q common f xs ys k x so ey ex small =
    let here : component ys k ≡ x = ap (λ zs. component zs k) ey ∙ get_or_push xs x (pos 0) k so.size in
    let before : (j : ℕ) → j < k → component ys j ≡ component xs j =
    λ j l. ap (λ zs. component zs j) ey ∙ get_or_append_left xs (x ∷ []) (pos 0) j (omega (arith, so.size)) in
    record {
      size = ap length ey ∙ length-append xs (x ∷ []) ∙ omega (arith, so.size);
      each = below_more (λ j. component ys j ≡ scaled_column q common f j) k (λ j l. before j l ∙ so.each j l)
          (here ∙ ex);
      within = below_more (λ j. IsWithin scaled_size (component ys j)) k
          (λ j l. subst (IsWithin scaled_size) (sym (before j l)) (so.within j l))
          (subst (IsWithin scaled_size) (sym here) small);
    }

-- ---- starts

pub start_read : (q : Problem) (j : ℕ) (cost lo hi : ℤ) → cost ≡ component q.cost j → lo ≡ component q.area.lo j
    → hi ≡ component q.area.hi j → cond (int_lt cost (pos 0)) hi lo ≡ start_at q j
start_read q j cost lo hi ec el eh =
    ap (λ c. cond (int_lt c (pos 0)) hi lo) ec ∙ ap (λ l. cond (int_lt (component q.cost j) (pos 0)) hi l) el
    ∙ ap (λ h. cond (int_lt (component q.cost j) (pos 0)) h (component q.area.lo j)) eh

pub start_within : (q : Problem) (j : ℕ) → IsWithin MAX_NUMBER (component q.area.lo j)
    → IsWithin MAX_NUMBER (component q.area.hi j) → IsWithin MAX_NUMBER (start_at q j)
start_within q j hl hh = by (int_lt (component q.cost j) (pos 0))
  where
    by : (t : Bool) → IsWithin MAX_NUMBER (cond t (component q.area.hi j) (component q.area.lo j))
    by true = hh
    by false = hl

-- a column times the common denominator, from its start and its distance
pub column_is : (q : Problem) (common : ℕ) (f : ℕ → Fraction) (j : ℕ) (start cost moved distance : ℤ)
    → start ≡ start_at q j → cost ≡ component q.cost j
    → moved ≡ cond (int_lt cost (pos 0)) (negsuc 0) (pos 1) *ℤ distance → distance ≡ times_multiple common (f j)
    → start *ℤ pos common +ℤ moved ≡ scaled_column q common f j
column_is q common f j start cost moved distance es ec em ed =
    ap (λ s. s *ℤ pos common +ℤ moved) es
    ∙ ap (λ m. start_at q j *ℤ pos common +ℤ m)
    (em ∙ ap (λ c. cond (int_lt c (pos 0)) (negsuc 0) (pos 1) *ℤ distance) ec ∙ ap (λ d. sign_at q j *ℤ d) ed)
