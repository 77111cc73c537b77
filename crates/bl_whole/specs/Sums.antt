-- Sums by place: what a loop over the places below a number adds up.
use Rattle.std.specs.Prelude.{ℕ, zero, suc, ℤ, pos, ◌+ℤ◌, ◌*ℤ◌, List, length, slice_index, slice_index_or}

-- the number at a place, 0 past the end
abbrev pub component : List ℤ → ℕ → ℤ
component xs k = slice_index_or xs k (pos 0)

-- f 0 + f 1 + .. + f (n - 1)
abbrev pub sum_below : ℕ → (ℕ → ℤ) → ℤ
sum_below zero f = pos 0
sum_below (suc n) f = sum_below n f +ℤ f n

-- the sum of the products at the places of cs
abbrev pub dot : List ℤ → List ℤ → ℤ
dot cs zs = sum_below (length cs) (λ k. component cs k *ℤ component zs k)

-- the sum of f over the places in ks
abbrev pub sum_over : List ℕ → (ℕ → ℤ) → ℤ
sum_over ks f = sum_below (length ks) (λ j. f (slice_index ks j))
