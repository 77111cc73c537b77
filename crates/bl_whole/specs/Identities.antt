-- Identities of polynomials with whole coefficients, by a normal form that computes.
use Rattle.std.specs.Prelude.{ℕ, ℤ, pos, negsuc, ◌+ℤ◌, ◌-ℤ◌, ◌*ℤ◌, Bool, true, false, ◌&&◌, List, [], ◌∷◌}
use Rattle.std.specs.Prelude.{if◌then◌else◌, nat_eq, nat_le, nat_lt, ◌≡◌}
use Rattle.bl_whole.specs.Sums.{component}

-- a polynomial over numbered variables
pub data Polynomial : Type 0 where
  variable : ℕ → Polynomial
  constant : ℤ → Polynomial
  plus : Polynomial → Polynomial → Polynomial
  minus : Polynomial → Polynomial → Polynomial
  times : Polynomial → Polynomial → Polynomial

-- its value where variable k is the number at place k of vs
abbrev pub value : List ℤ → Polynomial → ℤ
value vs (variable k) = component vs k
value vs (constant c) = c
value vs (plus p q) = value vs p +ℤ value vs q
value vs (minus p q) = value vs p -ℤ value vs q
value vs (times p q) = value vs p *ℤ value vs q

-- a coefficient, and the numbers of the variables that it is multiplied by, each as often as it is a factor
pub record Monomial : Type 0 where
  pub factors : List ℕ
  pub coefficient : ℤ

-- two lists of numbers are the same
abbrev pub same_factors : List ℕ → List ℕ → Bool
same_factors [] [] = true
same_factors [] (j ∷ js) = false
same_factors (i ∷ is) [] = false
same_factors (i ∷ is) (j ∷ js) = nat_eq i j && same_factors is js

-- the first list comes before the second, as words do
abbrev pub comes_before : List ℕ → List ℕ → Bool
comes_before [] js = true
comes_before (i ∷ is) [] = false
comes_before (i ∷ is) (j ∷ js) = if nat_eq i j then comes_before is js else nat_lt i j

-- a further factor, in its place
abbrev pub with_factor : ℕ → List ℕ → List ℕ
with_factor k [] = k ∷ []
with_factor k (j ∷ js) = if nat_le k j then k ∷ j ∷ js else j ∷ with_factor k js

abbrev pub with_factors : List ℕ → List ℕ → List ℕ
with_factors [] js = js
with_factors (i ∷ is) js = with_factor i (with_factors is js)

abbrev pub is_zero : ℤ → Bool
is_zero (pos n) = nat_eq n 0
is_zero (negsuc n) = false

-- a monomial in front, if its coefficient is not 0
abbrev pub in_front : Monomial → List Monomial → List Monomial
in_front m ms = if is_zero m.coefficient then ms else m ∷ ms

-- a further monomial, in its place
abbrev pub with_monomial : Monomial → List Monomial → List Monomial
with_monomial m [] = in_front m []
with_monomial m (n ∷ ns) =
    if same_factors m.factors n.factors
    then in_front (record { factors = n.factors; coefficient = m.coefficient +ℤ n.coefficient }) ns
    else (if comes_before m.factors n.factors then in_front m (n ∷ ns) else n ∷ with_monomial m ns)

abbrev pub monomial_sum : List Monomial → List Monomial → List Monomial
monomial_sum [] ns = ns
monomial_sum (m ∷ ms) ns = with_monomial m (monomial_sum ms ns)

-- every monomial multiplied by m
abbrev pub multiples : Monomial → List Monomial → List Monomial
multiples m [] = []
multiples m (n ∷ ns) =
    with_monomial (record { factors = with_factors m.factors n.factors; coefficient = m.coefficient *ℤ n.coefficient })
    (multiples m ns)

abbrev pub monomial_product : List Monomial → List Monomial → List Monomial
monomial_product [] ns = []
monomial_product (m ∷ ms) ns = monomial_sum (multiples m ns) (monomial_product ms ns)

-- the sum of monomials that a polynomial is
abbrev pub normal_form : Polynomial → List Monomial
normal_form (variable k) = record { factors = k ∷ []; coefficient = pos 1 } ∷ []
normal_form (constant c) = in_front (record { factors = []; coefficient = c }) []
normal_form (plus p q) = monomial_sum (normal_form p) (normal_form q)
normal_form (minus p q) =
    monomial_sum (normal_form p) (multiples (record { factors = []; coefficient = negsuc 0 }) (normal_form q))
normal_form (times p q) = monomial_product (normal_form p) (normal_form q)

-- two polynomials with one normal form have one value
abbrev pub OneNormalFormOneValue : Type 0
OneNormalFormOneValue = (vs : List ℤ) (p q : Polynomial) → normal_form p ≡ normal_form q → value vs p ≡ value vs q
