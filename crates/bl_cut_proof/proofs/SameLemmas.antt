-- The tests of equality decide it.
use Rattle.std.proofs.Common.{◌≡◌, ℕ, refl, ◌∙◌, ap, arith, Bool, ◌&&◌, List, [], ◌∷◌}
use Rattle.std.specs.Prelude.{ℤ, nat_eq}
use Rattle.std.specs.Bool.{Decides}
use Rattle.std.specs.Ordering.{int_eq}
use Rattle.std.specs.Cmp.Lexicographic.{pointwise}
use Rattle.std.proofs.lemmas.Bool.Decides.{Decides-and, Decides-eqb, Decides-int_eq}
use Rattle.bl_terms.specs.Points.{Linear}
use Rattle.bl_cut_terms.specs.declared.parts.Tight.{Tight}
use Rattle.bl_cut_terms.specs.declared.parts.Tight.TheVariants.{Row, Upper, Lower, Cut}
use Rattle.bl_cut_terms.specs.declared.parts.CutParts.{CutParts}
use Rattle.bl_cut_terms.specs.NoGoods.{kind_of, place_of, CutStep}
use Rattle.bl_cut_terms.specs.Adopting.{same_numbers, same_item, same_unit, same_parts, same_step}

abbrev head_or : {X : Type 0} → X → List X → X
head_or d [] = d
head_or d (x ∷ xs) = x

abbrev tail_of : {X : Type 0} → List X → List X
tail_of [] = []
tail_of (x ∷ xs) = xs

-- a test of elements decides equality of lists
pub Decides-lists : {X : Type 0} (E : X → X → Bool) → ((x y : X) → Decides (E x y) (x ≡ y)) → (xs ys : List X)
    → Decides (pointwise E xs ys) (xs ≡ ys)
Decides-lists E d [] [] = (λ h. refl, λ h. refl)
Decides-lists E d [] (y ∷ ys) = (λ h. absurd cc, λ h. absurd cc)
Decides-lists E d (x ∷ xs) [] = (λ h. absurd cc, λ h. absurd cc)
Decides-lists E d (x ∷ xs) (y ∷ ys) =
    let both = Decides-and (E x y) (pointwise E xs ys) (d x y) (Decides-lists E d xs ys) in (
      λ h. let e = both.0 h in ap (λ z. z ∷ xs) e.0 ∙ ap (λ zs. y ∷ zs) e.1,
      λ h. both.1 (ap (head_or x) h, ap (λ zs. tail_of zs) h),
    )

pub Decides-numbers : (xs ys : List ℤ) → Decides (same_numbers xs ys) (xs ≡ ys)
Decides-numbers xs ys = Decides-lists int_eq Decides-int_eq xs ys

pub Decides-item : (x y : Tight) → Decides (same_item x y) (x ≡ y)
Decides-item x y = (
  λ h. let e = (Decides-and (nat_eq (kind_of x) (kind_of y)) (nat_eq (place_of x) (place_of y))
      (Decides-eqb (kind_of x) (kind_of y)) (Decides-eqb (place_of x) (place_of y))).0 h in
      same x y e.0 e.1,
  λ h. (Decides-and (nat_eq (kind_of x) (kind_of y)) (nat_eq (place_of x) (place_of y))
      (Decides-eqb (kind_of x) (kind_of y)) (Decides-eqb (place_of x) (place_of y))).1 (ap kind_of h, ap place_of h),
)
  where
    same : (x y : Tight) → kind_of x ≡ kind_of y → place_of x ≡ place_of y → x ≡ y
    same (Row i) (Row j) e f = ap Row f
    same (Row i) (Upper j) e f = absurd (omega arith)
    same (Row i) (Lower j) e f = absurd (omega arith)
    same (Row i) (Cut j) e f = absurd (omega arith)
    same (Upper i) (Row j) e f = absurd (omega arith)
    same (Upper i) (Upper j) e f = ap Upper f
    same (Upper i) (Lower j) e f = absurd (omega arith)
    same (Upper i) (Cut j) e f = absurd (omega arith)
    same (Lower i) (Row j) e f = absurd (omega arith)
    same (Lower i) (Upper j) e f = absurd (omega arith)
    same (Lower i) (Lower j) e f = ap Lower f
    same (Lower i) (Cut j) e f = absurd (omega arith)
    same (Cut i) (Row j) e f = absurd (omega arith)
    same (Cut i) (Upper j) e f = absurd (omega arith)
    same (Cut i) (Lower j) e f = absurd (omega arith)
    same (Cut i) (Cut j) e f = ap Cut f

pub Decides-term : (x y : ℕ × ℤ) → Decides (nat_eq x.0 y.0 && int_eq x.1 y.1) (x ≡ y)
Decides-term x y =
    let both = Decides-and (nat_eq x.0 y.0) (int_eq x.1 y.1) (Decides-eqb x.0 y.0) (Decides-int_eq x.1 y.1) in (
      λ h. let e = both.0 h in
          let first : x ≡ (y.0, x.1) = ap (λ (i : ℕ). (let z : ℕ × ℤ = (i, x.1) in z)) e.0 in
          let second : (y.0, x.1) ≡ y = ap (λ (m : ℤ). (let z : ℕ × ℤ = (y.0, m) in z)) e.1 in
          first ∙ second,
      λ h. both.1 (ap (λ (z : ℕ × ℤ). z.0) h, ap (λ (z : ℕ × ℤ). z.1) h),
    )

pub Decides-unit : (x y : List (ℕ × ℤ)) → Decides (same_unit x y) (x ≡ y)
Decides-unit x y = Decides-lists (λ x y. nat_eq x.0 y.0 && int_eq x.1 y.1) Decides-term x y

pub Decides-items : (x y : List Tight) → Decides (pointwise same_item x y) (x ≡ y)
Decides-items x y = Decides-lists same_item Decides-item x y

pub Decides-units : (x y : List (List (ℕ × ℤ))) → Decides (pointwise same_unit x y) (x ≡ y)
Decides-units x y = Decides-lists same_unit Decides-unit x y

-- parts and steps that agree in each field
abbrev parts_of : List Tight → ℤ → List (List (ℕ × ℤ)) → List ℤ → List ℤ → CutParts
parts_of tight den units point response =
    record { tight = tight; den = den; units = units; point = point; response = response }

pub parts_same : (x y : CutParts) → x.tight ≡ y.tight → x.den ≡ y.den → x.units ≡ y.units → x.point ≡ y.point
    → x.response ≡ y.response → x ≡ y
parts_same x y tight den units point response =
    ap (λ v. parts_of v x.den x.units x.point x.response) tight
    ∙ ap (λ v. parts_of y.tight v x.units x.point x.response) den
    ∙ ap (λ v. parts_of y.tight y.den v x.point x.response) units
    ∙ ap (λ v. parts_of y.tight y.den y.units v x.response) point
    ∙ ap (λ v. parts_of y.tight y.den y.units y.point v) response

pub Decides-parts : (x y : CutParts) → Decides (same_parts x y) (x ≡ y)
Decides-parts x y =
    let all =
    Decides-and (pointwise same_item x.tight y.tight && int_eq x.den y.den && pointwise same_unit x.units y.units
    && same_numbers x.point y.point) (same_numbers x.response y.response)
    (Decides-and (pointwise same_item x.tight y.tight && int_eq x.den y.den && pointwise same_unit x.units y.units)
    (same_numbers x.point y.point)
    (Decides-and (pointwise same_item x.tight y.tight && int_eq x.den y.den) (pointwise same_unit x.units y.units)
    (Decides-and (pointwise same_item x.tight y.tight) (int_eq x.den y.den) (Decides-items x.tight y.tight)
    (Decides-int_eq x.den y.den)) (Decides-units x.units y.units)) (Decides-numbers x.point y.point))
    (Decides-numbers x.response y.response) in (
      λ h. let e = all.0 h in
          parts_same x y e.0.0.0.0 e.0.0.0.1 e.0.0.1 e.0.1 e.1,
      λ h. all.1 (
        (((ap (λ v. v.tight) h, ap (λ v. v.den) h), ap (λ v. v.units) h), ap (λ v. v.point) h),
        ap (λ v. v.response) h,
      ),
    )

abbrev step_of : List ℤ → List ℤ → CutParts → List ℤ → ℤ → CutStep
step_of lo hi parts coef rhs =
    record { area = record { lo = lo; hi = hi }; parts = parts; row = record { coef = coef; rhs = rhs } }

pub Decides-step : (s t : CutStep) → Decides (same_step s t) (s ≡ t)
Decides-step s t =
    let all =
    Decides-and (same_numbers s.area.lo t.area.lo && same_numbers s.area.hi t.area.hi && same_parts s.parts t.parts
    && same_numbers s.row.coef t.row.coef) (int_eq s.row.rhs t.row.rhs)
    (Decides-and (same_numbers s.area.lo t.area.lo && same_numbers s.area.hi t.area.hi && same_parts s.parts t.parts)
    (same_numbers s.row.coef t.row.coef)
    (Decides-and (same_numbers s.area.lo t.area.lo && same_numbers s.area.hi t.area.hi) (same_parts s.parts t.parts)
    (Decides-and (same_numbers s.area.lo t.area.lo) (same_numbers s.area.hi t.area.hi)
    (Decides-numbers s.area.lo t.area.lo) (Decides-numbers s.area.hi t.area.hi)) (Decides-parts s.parts t.parts))
    (Decides-numbers s.row.coef t.row.coef)) (Decides-int_eq s.row.rhs t.row.rhs) in (
      λ h. let e = all.0 h in
          ap (λ v. step_of v s.area.hi s.parts s.row.coef s.row.rhs) e.0.0.0.0
          ∙ ap (λ v. step_of t.area.lo v s.parts s.row.coef s.row.rhs) e.0.0.0.1
          ∙ ap (λ v. step_of t.area.lo t.area.hi v s.row.coef s.row.rhs) e.0.0.1
          ∙ ap (λ v. step_of t.area.lo t.area.hi t.parts v s.row.rhs) e.0.1
          ∙ ap (λ v. step_of t.area.lo t.area.hi t.parts t.row.coef v) e.1,
      λ h. all.1 (
        (((ap (λ v. v.area.lo) h, ap (λ v. v.area.hi) h), ap (λ v. v.parts) h), ap (λ v. v.row.coef) h),
        ap (λ v. v.row.rhs) h,
      ),
    )

pub row_same : (r s : Linear) → r.coef ≡ s.coef → r.rhs ≡ s.rhs → r ≡ s
row_same r s e f =
    let first : r ≡ record { coef = s.coef; rhs = r.rhs } =
    ap (λ (c : List ℤ). (let x : Linear = record { coef = c; rhs = r.rhs } in x)) e in
    let second : record { coef = s.coef; rhs = r.rhs } ≡ s =
    ap (λ (b : ℤ). (let x : Linear = record { coef = s.coef; rhs = b } in x)) f in
    first ∙ second
