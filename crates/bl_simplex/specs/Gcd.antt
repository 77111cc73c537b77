-- Trusted: greatest common divisors and least common multiples, as Euclid's remainders compute them.
use Rattle.std.specs.Prelude.{ℕ, zero, suc, ◌*◌, ◌/◌, ◌%◌}

-- the greatest common divisor of a and b, in at most n remainders
abbrev pub gcd_within : ℕ → ℕ → ℕ → ℕ
gcd_within zero a b = a
gcd_within (suc n) a zero = a
gcd_within (suc n) a (suc b) = gcd_within n (suc b) (a % suc b)

-- the greatest common divisor: each remainder is smaller than the last, so b of them are enough
unfoldable pub gcd : ℕ → ℕ → ℕ
gcd a b = gcd_within b a b

-- the least common multiple
unfoldable pub lcm : ℕ → ℕ → ℕ
lcm a b = (a / gcd a b) * b
