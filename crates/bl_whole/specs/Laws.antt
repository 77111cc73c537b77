-- The laws of sums, products and sizes that std lacks.
use Rattle.std.specs.Prelude.{ℕ, ℤ, pos, ◌≡◌, ◌+◌, ◌*◌, ◌^◌, ◌<◌, ◌+ℤ◌, ◌-ℤ◌, ◌*ℤ◌, neg_ℤ, ◌≤ℤ◌, ◌<ℤ◌, List, length}
use Rattle.std.specs.Prelude.{Contains, FitsSigned}
use Rattle.std.specs.Int.{Width}
use Rattle.std.specs.List.Sorted.{IsStrictlyIncreasing}
use mir.Val.{hbits}
use Rattle.bl_whole.specs.Sums.{sum_below, sum_over}
use Rattle.bl_whole.specs.Within.{IsWithin, AreWithin, PartialDotsFit}

-- products are shared out over sums and differences, and may be grouped anyhow
pub record RingLaws : Type 0 where
  pub left : (a b c : ℤ) → a *ℤ (b +ℤ c) ≡ a *ℤ b +ℤ a *ℤ c
  pub right : (a b c : ℤ) → (a +ℤ b) *ℤ c ≡ a *ℤ c +ℤ b *ℤ c
  pub left_difference : (a b c : ℤ) → a *ℤ (b -ℤ c) ≡ a *ℤ b -ℤ a *ℤ c
  pub right_difference : (a b c : ℤ) → (a -ℤ b) *ℤ c ≡ a *ℤ c -ℤ b *ℤ c
  pub grouping : (a b c : ℤ) → (a *ℤ b) *ℤ c ≡ a *ℤ (b *ℤ c)
  pub negation : (a b : ℤ) → neg_ℤ a *ℤ b ≡ neg_ℤ (a *ℤ b)

-- a factor that isn't negative keeps an order, one that isn't positive turns it round, and a positive one may be taken
-- away
pub record ProductOrder : Type 0 where
  pub keeps : (a b c : ℤ) → pos 0 ≤ℤ c → a ≤ℤ b → (c *ℤ a) ≤ℤ (c *ℤ b)
  pub turns : (a b c : ℤ) → c ≤ℤ pos 0 → a ≤ℤ b → (c *ℤ b) ≤ℤ (c *ℤ a)
  pub strict : (a b c : ℤ) → pos 0 ≤ℤ c → (c *ℤ a) <ℤ (c *ℤ b) → a <ℤ b
  pub cancels : (a b c : ℤ) → pos 0 <ℤ c → (c *ℤ a) ≤ℤ (c *ℤ b) → a ≤ℤ b

-- sums by place: of sums, of multiples, in two parts, of sums the other way round, in order, and over the places that
-- count
pub record SumLaws : Type 0 where
  pub more : (n : ℕ) (f : ℕ → ℤ) → sum_below (n + 1) f ≡ sum_below n f +ℤ f n
  pub agree : (n : ℕ) (f g : ℕ → ℤ) → ((k : ℕ) → k < n → f k ≡ g k) → sum_below n f ≡ sum_below n g
  pub added : (n : ℕ) (f g : ℕ → ℤ) → sum_below n (λ k. f k +ℤ g k) ≡ sum_below n f +ℤ sum_below n g
  pub scaled : (n : ℕ) (c : ℤ) (f : ℕ → ℤ) → sum_below n (λ k. c *ℤ f k) ≡ c *ℤ sum_below n f
  pub parts : (m n : ℕ) (f : ℕ → ℤ) → sum_below (m + n) f ≡ sum_below m f +ℤ sum_below n (λ k. f (m + k))
  pub exchange : (m n : ℕ) (f : ℕ → ℕ → ℤ)
      → sum_below m (λ i. sum_below n (λ j. f i j)) ≡ sum_below n (λ j. sum_below m (λ i. f i j))
  pub monotone : (n : ℕ) (f g : ℕ → ℤ) → ((k : ℕ) → k < n → f k ≤ℤ g k) → sum_below n f ≤ℤ sum_below n g
  pub picked : (n : ℕ) (ks : List ℕ) (f : ℕ → ℤ) → IsStrictlyIncreasing ks → ((k : ℕ) → Contains ks k → k < n)
      → ((k : ℕ) → k < n → ¬ Contains ks k → f k ≡ pos 0) → sum_below n f ≡ sum_over ks f

-- sizes of sums, products and sums by place, and what fits a width
pub record SizeLaws : Type 0 where
  pub bounds : (m : ℕ) (z : ℤ) → IsWithin m z → (neg_ℤ (pos m) ≤ℤ z) × (z ≤ℤ pos m)
  pub from_bounds : (m : ℕ) (z : ℤ) → neg_ℤ (pos m) ≤ℤ z → z ≤ℤ pos m → IsWithin m z
  pub sum : (m n : ℕ) (a b : ℤ) → IsWithin m a → IsWithin n b → IsWithin (m + n) (a +ℤ b)
  pub product : (m n : ℕ) (a b : ℤ) → IsWithin m a → IsWithin n b → IsWithin (m * n) (a *ℤ b)
  pub sum_by_place : (m n : ℕ) (f : ℕ → ℤ) → ((k : ℕ) → k < n → IsWithin m (f k)) → IsWithin (n * m) (sum_below n f)
  pub fits : (w : Width) (m : ℕ) (z : ℤ) → IsWithin m z → m < 2 ^ hbits w → FitsSigned w z
  pub dots_fit : (w : Width) (m n : ℕ) (cs zs : List ℤ) → AreWithin m cs → AreWithin n zs
      → length cs * (m * n) < 2 ^ hbits w → PartialDotsFit w cs zs
