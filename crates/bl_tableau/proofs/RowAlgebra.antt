-- The rows of a dictionary over one common denominator: what a pivot does to them, in whole numbers.
use Rattle.std.proofs.Common.{◌≡◌, ℕ, ◌<◌, [], ◌∷◌, ℤ, pos, neg_ℤ, ◌+ℤ◌, ◌-ℤ◌, ◌*ℤ◌, refl, sym, ap, ◌∙◌, arith}
use Rattle.std.proofs.lemmas.Int.{ints}
use Rattle.bl_whole.specs.Identities.{variable, constant, plus, minus, times}
use Rattle.bl_whole.proofs.IdentityLemmas.{identity}
use Rattle.bl_whole.proofs.Products.{*ℤ_assoc, neg_ℤ-*ℤ}
use Rattle.bl_tableau.proofs.Scaling.{cancel, cancel_nonzero}

-- The pivot row says g·z = f·m - s - y·m: p is the pivot, g one over it, f the right side's share, s the
-- shares' sum without the pivot column, y the value of the column, z that of the row, all over m.
abbrev pub PivotEquation : ℤ → ℤ → ℤ → ℤ → ℤ → ℤ → Type 0
PivotEquation m g z f s y = g *ℤ z ≡ (f *ℤ m -ℤ s) -ℤ y *ℤ m

-- the row before the pivot, times p
times_pivot : (m p g z b t f s y : ℤ) → m *ℤ m ≡ g *ℤ p → b *ℤ m ≡ f *ℤ p → t *ℤ m ≡ s *ℤ p +ℤ (p *ℤ y) *ℤ m
    → ((z *ℤ m) *ℤ m ≡ (g *ℤ z) *ℤ p) × ((b *ℤ m -ℤ t) *ℤ m ≡ ((f *ℤ m -ℤ s) -ℤ y *ℤ m) *ℤ p)
times_pivot m p g z b t f s y one right sum =
    let v0 = variable 0 in
    let v1 = variable 1 in
    let v2 = variable 2 in
    let v3 = variable 3 in
    let v4 = variable 4 in (
      identity (z ∷ m ∷ []) (times (times v0 v1) v1) (times v0 (times v1 v1)) refl ∙ ap (λ x. z *ℤ x) one
          ∙ identity (z ∷ g ∷ p ∷ []) (times v0 (times v1 v2)) (times (times v1 v0) v2) refl,
      identity (b ∷ m ∷ t ∷ []) (times (minus (times v0 v1) v2) v1) (minus (times (times v0 v1) v1) (times v2 v1)) refl
          ∙ ap (λ x. x *ℤ m -ℤ t *ℤ m) right ∙ ap (λ x. (f *ℤ p) *ℤ m -ℤ x) sum
          ∙ identity (f ∷ p ∷ m ∷ s ∷ y ∷ [])
          (minus (times (times v0 v1) v2) (plus (times v3 v1) (times (times v1 v4) v2)))
          (times (minus (minus (times v0 v2) v3) (times v4 v2)) v1) refl,
    )

pub pivot_from_row : (m p g z b t f s y : ℤ) → (p ≡ pos 0 → ⊥) → m *ℤ m ≡ g *ℤ p → b *ℤ m ≡ f *ℤ p
    → t *ℤ m ≡ s *ℤ p +ℤ (p *ℤ y) *ℤ m
    → z *ℤ m ≡ b *ℤ m -ℤ t → PivotEquation m g z f s y
pivot_from_row m p g z b t f s y nonzero one right sum row =
    let both = times_pivot m p g z b t f s y one right sum in
    cancel_nonzero (g *ℤ z) ((f *ℤ m -ℤ s) -ℤ y *ℤ m) p nonzero (sym both.0 ∙ ap (λ x. x *ℤ m) row ∙ both.1)

pub row_from_pivot : (n : ℕ) (p g z b t f s y : ℤ) → 0 < n → pos n *ℤ pos n ≡ g *ℤ p → b *ℤ pos n ≡ f *ℤ p
    → t *ℤ pos n ≡ s *ℤ p +ℤ (p *ℤ y) *ℤ pos n
    → PivotEquation (pos n) g z f s y → z *ℤ pos n ≡ b *ℤ pos n -ℤ t
row_from_pivot n p g z b t f s y some one right sum pivot =
    let both = times_pivot (pos n) p g z b t f s y one right sum in
    cancel (z *ℤ pos n) (b *ℤ pos n -ℤ t) n some (both.0 ∙ ap (λ x. x *ℤ p) pivot ∙ sym both.1)

-- the row after the pivot
pub new_from_pivot : (m g z f s y t : ℤ) → t ≡ g *ℤ z +ℤ s → PivotEquation m g z f s y → y *ℤ m ≡ f *ℤ m -ℤ t
new_from_pivot m g z f s y t sum pivot = omega (arith, ints)

pub pivot_from_new : (m g z f s y t : ℤ) → t ≡ g *ℤ z +ℤ s → y *ℤ m ≡ f *ℤ m -ℤ t → PivotEquation m g z f s y
pivot_from_new m g z f s y t sum row = omega (arith, ints)

zero_minus : (z : ℤ) → neg_ℤ z ≡ pos 0 -ℤ z
zero_minus z = omega (arith, ints)

-- another row, of entry e in the pivot column, right side b and sum t: what it says stays
pub other_row : (n : ℕ) (e b b' t t' a f s g z y : ℤ) → 0 < n → b' *ℤ pos n ≡ b *ℤ pos n -ℤ e *ℤ f → t ≡ e *ℤ y +ℤ a
    → t' *ℤ pos n ≡ neg_ℤ (e *ℤ g) *ℤ z +ℤ (a *ℤ pos n -ℤ e *ℤ s) → PivotEquation (pos n) g z f s y
    → b' *ℤ pos n -ℤ t' ≡ b *ℤ pos n -ℤ t
other_row n e b b' t t' a f s g z y some right sum sum' pivot =
    let m = pos n in
    let v0 = variable 0 in
    let v1 = variable 1 in
    let v2 = variable 2 in
    let v3 = variable 3 in
    let v4 = variable 4 in
    let v5 = variable 5 in
    let negative : neg_ℤ (e *ℤ g) *ℤ z ≡ pos 0 -ℤ e *ℤ (g *ℤ z) =
    neg_ℤ-*ℤ (e *ℤ g) z ∙ ap neg_ℤ (*ℤ_assoc e g z) ∙ zero_minus (e *ℤ (g *ℤ z)) in
    let spread : (b' *ℤ m -ℤ t') *ℤ m ≡ (b' *ℤ m) *ℤ m -ℤ t' *ℤ m =
    identity (b' ∷ m ∷ t' ∷ []) (times (minus (times v0 v1) v2) v1)
    (minus (times (times v0 v1) v1) (times v2 v1)) refl in
    let gather : (b *ℤ m -ℤ e *ℤ f) *ℤ m -ℤ ((pos 0 -ℤ e *ℤ ((f *ℤ m -ℤ s) -ℤ y *ℤ m)) +ℤ (a *ℤ m -ℤ e *ℤ s))
    ≡ (b *ℤ m -ℤ (e *ℤ y +ℤ a)) *ℤ m =
    identity (b ∷ m ∷ e ∷ f ∷ s ∷ y ∷ a ∷ [])
    (minus (times (minus (times v0 v1) (times v2 v3)) v1)
    (plus (minus (constant (pos 0)) (times v2 (minus (minus (times v3 v1) v4) (times v5 v1))))
    (minus (times (variable 6) v1) (times v2 v4))))
    (times (minus (times v0 v1) (plus (times v2 v5) (variable 6))) v1) refl in
    cancel (b' *ℤ m -ℤ t') (b *ℤ m -ℤ t) n some (
    spread ∙ ap (λ x. x *ℤ m -ℤ t' *ℤ m) right ∙ ap (λ x. (b *ℤ m -ℤ e *ℤ f) *ℤ m -ℤ x) sum'
    ∙ ap (λ x. (b *ℤ m -ℤ e *ℤ f) *ℤ m -ℤ (x +ℤ (a *ℤ m -ℤ e *ℤ s))) negative
    ∙ ap (λ x. (b *ℤ m -ℤ e *ℤ f) *ℤ m -ℤ ((pos 0 -ℤ e *ℤ x) +ℤ (a *ℤ m -ℤ e *ℤ s))) pivot
    ∙ gather ∙ ap (λ x. (b *ℤ m -ℤ x) *ℤ m) (sym sum))
