-- A polynomial and its normal form have one value, so two polynomials with one normal form have one value.
use Rattle.std.proofs.Common.{◌≡◌, ℕ, refl, sym, ◌∙◌, ap, arith, Bool, true, false, ◌&&◌, cond, List, [], ◌∷◌}
use Rattle.std.specs.Prelude.{ℤ, pos, negsuc, ◌+ℤ◌, ◌*ℤ◌, neg_ℤ, nat_eq, nat_le}
use Rattle.std.proofs.Math.IntN.{zero-*ℤ, *ℤ-zero, *ℤ_comm}
use Rattle.std.proofs.lemmas.Int.{ints}
use Rattle.std.proofs.lemmas.Bool.{eqb-true}
use Rattle.bl_whole.specs.Sums.{component}
use Rattle.bl_whole.specs.Identities.{Polynomial, variable, constant, plus, minus, times, value, Monomial, same_factors}
use Rattle.bl_whole.specs.Identities.{comes_before, with_factor, with_factors, is_zero, in_front, with_monomial}
use Rattle.bl_whole.specs.Identities.{monomial_sum, multiples, monomial_product, normal_form}
use Rattle.bl_whole.proofs.Products.{*ℤ-+ℤ, +ℤ-*ℤ, *ℤ_assoc, neg_ℤ-*ℤ, one-*ℤ, *ℤ_one}

-- the product of the factors
abbrev factors_value : List ℤ → List ℕ → ℤ
factors_value vs [] = pos 1
factors_value vs (k ∷ ks) = component vs k *ℤ factors_value vs ks

abbrev monomial_value : List ℤ → Monomial → ℤ
monomial_value vs m = m.coefficient *ℤ factors_value vs m.factors

-- the sum of the monomials
abbrev sum_value : List ℤ → List Monomial → ℤ
sum_value vs [] = pos 0
sum_value vs (m ∷ ms) = monomial_value vs m +ℤ sum_value vs ms

-- a · (b · c) = b · (a · c)
swap_factors : (a b c : ℤ) → a *ℤ (b *ℤ c) ≡ b *ℤ (a *ℤ c)
swap_factors a b c = sym (*ℤ_assoc a b c) ∙ ap (λ x. x *ℤ c) (*ℤ_comm a b) ∙ *ℤ_assoc b a c

same_from_test : (is js : List ℕ) → same_factors is js ≡ true → is ≡ js
same_from_test [] [] h = refl
same_from_test [] (j ∷ js) h = cc
same_from_test (i ∷ is) [] h = cc
same_from_test (i ∷ is) (j ∷ js) h = by (λ g. same_from_test is js g) (nat_eq i j) refl h
  where
    by : (same_factors is js ≡ true → is ≡ js) → (t : Bool) → nat_eq i j ≡ t → (t && same_factors is js) ≡ true
        → (i ∷ is) ≡ (j ∷ js)
    by rest true e g = let r = rest g in let s = eqb-true i j e in cc
    by rest false e g = cc

with_factor_value : (vs : List ℤ) (k : ℕ) (js : List ℕ)
    → factors_value vs (with_factor k js) ≡ component vs k *ℤ factors_value vs js
with_factor_value vs k [] = refl
with_factor_value vs k (j ∷ js) = by (with_factor_value vs k js) (nat_le k j)
  where
    by : factors_value vs (with_factor k js) ≡ component vs k *ℤ factors_value vs js → (t : Bool)
        → factors_value vs (cond t (k ∷ j ∷ js) (j ∷ with_factor k js)) ≡ component vs k
        *ℤ (component vs j *ℤ factors_value vs js)
    by rest true = refl
    by rest false = ap (λ x. component vs j *ℤ x) rest
        ∙ swap_factors (component vs j) (component vs k) (factors_value vs js)

with_factors_value : (vs : List ℤ) (is js : List ℕ)
    → factors_value vs (with_factors is js) ≡ factors_value vs is *ℤ factors_value vs js
with_factors_value vs [] js = sym (one-*ℤ (factors_value vs js))
with_factors_value vs (i ∷ is) js =
    with_factor_value vs i (with_factors is js) ∙ ap (λ x. component vs i *ℤ x) (with_factors_value vs is js)
    ∙ sym (*ℤ_assoc (component vs i) (factors_value vs is) (factors_value vs js))

zero_from_test : (c : ℤ) → is_zero c ≡ true → c ≡ pos 0
zero_from_test (pos n) h = ap pos (eqb-true n 0 h)
zero_from_test (negsuc n) h = cc

in_front_value : (vs : List ℤ) (m : Monomial) (ms : List Monomial)
    → sum_value vs (in_front m ms) ≡ monomial_value vs m +ℤ sum_value vs ms
in_front_value vs m ms = by (is_zero m.coefficient) refl
  where
    by : (t : Bool) → is_zero m.coefficient ≡ t
        → sum_value vs (cond t ms (m ∷ ms)) ≡ monomial_value vs m +ℤ sum_value vs ms
    by true e =
        let z = zero_from_test m.coefficient e in
        let f : monomial_value vs m ≡ pos 0 =
        ap (λ x. x *ℤ factors_value vs m.factors) z ∙ zero-*ℤ (factors_value vs m.factors) in
        omega (arith, ints)
    by false e = refl

with_monomial_value : (vs : List ℤ) (m : Monomial) (ns : List Monomial)
    → sum_value vs (with_monomial m ns) ≡ monomial_value vs m +ℤ sum_value vs ns
with_monomial_value vs m [] = in_front_value vs m []
with_monomial_value vs m (n ∷ ns) =
    by (with_monomial_value vs m ns) (same_factors m.factors n.factors) refl (comes_before m.factors n.factors)
  where
    by : sum_value vs (with_monomial m ns) ≡ monomial_value vs m +ℤ sum_value vs ns → (t : Bool)
        → same_factors m.factors n.factors ≡ t → (u : Bool)
        → sum_value vs (cond t
        (in_front (record { factors = n.factors; coefficient = m.coefficient +ℤ n.coefficient }) ns)
        (cond u (in_front m (n ∷ ns)) (n ∷ with_monomial m ns))) ≡ monomial_value vs m
        +ℤ (monomial_value vs n +ℤ sum_value vs ns)
    by rest true e u =
        let s = ap (λ x. m.coefficient *ℤ factors_value vs x) (same_from_test m.factors n.factors e) in
        let f = in_front_value vs (record { factors = n.factors; coefficient = m.coefficient +ℤ n.coefficient }) ns in
        let g = +ℤ-*ℤ m.coefficient n.coefficient (factors_value vs n.factors) in
        omega (arith, ints)
    by rest false e true = in_front_value vs m (n ∷ ns)
    by rest false e false = omega (arith, ints)

monomial_sum_value : (vs : List ℤ) (ms ns : List Monomial)
    → sum_value vs (monomial_sum ms ns) ≡ sum_value vs ms +ℤ sum_value vs ns
monomial_sum_value vs [] ns = omega (arith, ints)
monomial_sum_value vs (m ∷ ms) ns =
    let i = monomial_sum_value vs ms ns in
    let f = with_monomial_value vs m (monomial_sum ms ns) in
    omega (arith, ints)

-- (a · b) · (c · d) = (a · c) · (b · d)
exchange_factors : (a b c d : ℤ) → (a *ℤ b) *ℤ (c *ℤ d) ≡ (a *ℤ c) *ℤ (b *ℤ d)
exchange_factors a b c d = *ℤ_assoc a b (c *ℤ d) ∙ ap (λ x. a *ℤ x) (swap_factors b c d) ∙ sym (*ℤ_assoc a c (b *ℤ d))

multiples_value : (vs : List ℤ) (m : Monomial) (ns : List Monomial)
    → sum_value vs (multiples m ns) ≡ monomial_value vs m *ℤ sum_value vs ns
multiples_value vs m [] = sym (*ℤ-zero (monomial_value vs m))
multiples_value vs m (n ∷ ns) =
    let i = multiples_value vs m ns in
    let f = with_monomial_value vs
    (record { factors = with_factors m.factors n.factors; coefficient = m.coefficient *ℤ n.coefficient })
    (multiples m ns) in
    let e = ap (λ x. (m.coefficient *ℤ n.coefficient) *ℤ x) (with_factors_value vs m.factors n.factors) in
    let g = exchange_factors m.coefficient n.coefficient (factors_value vs m.factors) (factors_value vs n.factors) in
    let d = *ℤ-+ℤ (monomial_value vs m) (monomial_value vs n) (sum_value vs ns) in
    omega (arith, ints)

monomial_product_value : (vs : List ℤ) (ms ns : List Monomial)
    → sum_value vs (monomial_product ms ns) ≡ sum_value vs ms *ℤ sum_value vs ns
monomial_product_value vs [] ns = sym (zero-*ℤ (sum_value vs ns))
monomial_product_value vs (m ∷ ms) ns =
    let i = monomial_product_value vs ms ns in
    let f = monomial_sum_value vs (multiples m ns) (monomial_product ms ns) in
    let g = multiples_value vs m ns in
    let d = +ℤ-*ℤ (monomial_value vs m) (sum_value vs ms) (sum_value vs ns) in
    omega (arith, ints)

-- a polynomial has the value of its normal form
normal_form_value : (vs : List ℤ) (p : Polynomial) → sum_value vs (normal_form p) ≡ value vs p
normal_form_value vs (variable k) =
    let e = one-*ℤ (component vs k *ℤ pos 1) in
    let f = *ℤ_one (component vs k) in
    omega (arith, ints)
normal_form_value vs (constant c) =
    let f = in_front_value vs (record { factors = []; coefficient = c }) [] in
    let e = *ℤ_one c in
    omega (arith, ints)
normal_form_value vs (plus p q) =
    let f = monomial_sum_value vs (normal_form p) (normal_form q) in
    let i = normal_form_value vs p in
    let j = normal_form_value vs q in
    omega (arith, ints)
normal_form_value vs (minus p q) =
    let f = monomial_sum_value vs (normal_form p)
    (multiples (record { factors = []; coefficient = negsuc 0 }) (normal_form q)) in
    let g = multiples_value vs (record { factors = []; coefficient = negsuc 0 }) (normal_form q) in
    let d : (negsuc 0 *ℤ pos 1) *ℤ sum_value vs (normal_form q) ≡ neg_ℤ (pos 1 *ℤ sum_value vs (normal_form q)) =
    neg_ℤ-*ℤ (pos 1) (sum_value vs (normal_form q)) in
    let o = one-*ℤ (sum_value vs (normal_form q)) in
    let i = normal_form_value vs p in
    let j = normal_form_value vs q in
    omega (arith, ints)
normal_form_value vs (times p q) =
    let f = monomial_product_value vs (normal_form p) (normal_form q) in
    let i = normal_form_value vs p in
    let j = normal_form_value vs q in
    cc

-- two polynomials with one normal form have one value
pub identity : (vs : List ℤ) (p q : Polynomial) → normal_form p ≡ normal_form q → value vs p ≡ value vs q
identity vs p q h = sym (normal_form_value vs p) ∙ ap (sum_value vs) h ∙ normal_form_value vs q

-- the square of a sum, for an example of its use
square_of_sum : (a b : ℤ) → (a +ℤ b) *ℤ (a +ℤ b) ≡ a *ℤ a +ℤ pos 2 *ℤ (a *ℤ b) +ℤ b *ℤ b
square_of_sum a b =
    let x = variable 0 in
    let y = variable 1 in
    identity (a ∷ b ∷ []) (times (plus x y) (plus x y))
    (plus (plus (times x x) (times (constant (pos 2)) (times x y))) (times y y)) refl
