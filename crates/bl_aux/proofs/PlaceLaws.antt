-- Places that are given, and those that may follow.
use Rattle.std.proofs.Common.{◌≡◌, ℕ, ◌<◌, Bool, true, false, cond, ltb, List, [], ◌∷◌, ◌++◌, Some, None, refl, sym, ap}
use Rattle.std.proofs.Common.{◌∙◌, ℤ, pos, negsuc, map, nat_eq, eq-eqb}
use Rattle.std.specs.List.{list_any, list_all}
use Rattle.std.specs.Ordering.{int_eq}
use Rattle.std.proofs.lemmas.Bool.{eqb-true, ltb-true, lt-ltb, false≢true}
use Rattle.std.proofs.lemmas.Bool.Decides.{Decides-int_eq, same_from_decides}
use Rattle.std.proofs.lemmas.List.{map_push}
use Rattle.bl_text.proofs.Digits.{and_true}
use Rattle.bl_aux.specs.declared.fault.AuxRule.TheVariants.{Repeated, BadIndex}
use Rattle.bl_aux.specs.Given.{is_below, index_rule}
use Rattle.bl_aux.specs.Drafts.{place_below}

abbrev pub AreBelow : ℕ → List ℕ → Type 0
AreBelow limit places = list_all (λ place. ltb place limit) places ≡ true

pub int_eq-pos : (k p : ℕ) → int_eq (pos k) (pos p) ≡ nat_eq p k
int_eq-pos k p = same_from_decides (int_eq (pos k) (pos p)) (nat_eq p k) (Decides-int_eq (pos k) (pos p))
    ((λ e. ap pos (sym (eqb-true p k e))), (λ e. let same : p ≡ k = cc in eq-eqb p k same))

pub int_eq-other : (x y : ℤ) → (x ≡ y → ⊥) → (test : Bool) → int_eq x y ≡ test → test ≡ false
int_eq-other x y differ true e = absurd (differ ((Decides-int_eq x y).0 e))
int_eq-other x y differ false e = refl

cond-none : (b : Bool) (k : ℕ) → cond b (Some k) None ≡ None → b ≡ false
cond-none true k e = absurd cc
cond-none false k e = refl

cond-some : (b : Bool) (k p : ℕ) → cond b (Some k) None ≡ Some p → (b ≡ true) × (k ≡ p)
cond-some true k p e = (refl, cc)
cond-some false k p e = absurd cc

differs : (p limit : ℕ) (number : ℤ) → p < limit → place_below limit number ≡ None → pos p ≡ number → ⊥
differs p limit (pos k) lt e same =
    let equal : p ≡ k = cc in
    let past : ltb p limit ≡ false = rw equal (cond-none (ltb k limit) k e) in
    false≢true (sym past ∙ lt-ltb p limit lt)
differs p limit (negsuc k) lt e same = cc

-- a number that is no place below the limit isn't among such places
none-given : (limit : ℕ) (places : List ℕ) (number : ℤ) → AreBelow limit places → place_below limit number ≡ None
    → list_any (λ other. int_eq other number) (map pos places) ≡ false
none-given limit [] number h e = refl
none-given limit (p ∷ ps) number h e =
    let both = and_true (ltb p limit) (list_all (λ place. ltb place limit) ps) h in
    let other : int_eq (pos p) number ≡ false =
    int_eq-other (pos p) number (differs p limit number (ltb-true p limit both.0) e) (int_eq (pos p) number) refl in
    rw other (none-given limit ps number both.1 e)

is_below-none : (limit : ℕ) (number : ℤ) → place_below limit number ≡ None → is_below limit number ≡ false
is_below-none limit (pos k) e = cond-none (ltb k limit) k e
is_below-none limit (negsuc k) e = refl

pub index_rule-outside : (limit : ℕ) (places : List ℕ) (number : ℤ) → AreBelow limit places
    → place_below limit number ≡ None → index_rule limit (map pos places) number ≡ Some BadIndex
index_rule-outside limit places number h e = rw (none-given limit places number h e, is_below-none limit number e) refl

record IsPlace (limit place : ℕ) (number : ℤ) : Type 0 where
  is_number : number ≡ pos place
  below : ltb place limit ≡ true

place-is : (limit place : ℕ) (number : ℤ) → place_below limit number ≡ Some place → IsPlace limit place number
place-is limit place (pos k) e =
    let some = cond-some (ltb k limit) k place e in
    record { is_number = ap pos some.1; below = ap (λ (n : ℕ). ltb n limit) (sym some.1) ∙ some.0 }
place-is limit place (negsuc k) e = absurd cc

given-same : (places : List ℕ) (place : ℕ)
    → list_any (λ other. int_eq other (pos place)) (map pos places) ≡ list_any (nat_eq place) places
given-same [] place = refl
given-same (p ∷ ps) place = rw (int_eq-pos p place, given-same ps place) refl

pub index_rule-repeated : (limit : ℕ) (places : List ℕ) (number : ℤ) (place : ℕ)
    → place_below limit number ≡ Some place → list_any (nat_eq place) places ≡ true
    → index_rule limit (map pos places) number ≡ Some Repeated
index_rule-repeated limit places number place e there =
    let is = place-is limit place number e in
    rw (is.is_number) (rw (given-same places place ∙ there) refl)

pub index_rule-next : (limit : ℕ) (places : List ℕ) (number : ℤ) (place : ℕ) → place_below limit number ≡ Some place
    → list_any (nat_eq place) places ≡ false → index_rule limit (map pos places) number ≡ None
index_rule-next limit places number place e absent =
    let is = place-is limit place number e in
    rw (is.is_number) (rw (given-same places place ∙ absent, is.below) refl)

-- the places with the next one
pub places-pushed : (limit : ℕ) (places pushed : List ℕ) (number : ℤ) (place : ℕ)
    → place_below limit number ≡ Some place → list_any (nat_eq place) places ≡ false
    → pushed ≡ cond (list_any (nat_eq place) places) places (places ++ place ∷ [])
    → map pos pushed ≡ map pos places ++ number ∷ []
places-pushed limit places pushed number place e absent put =
    let is = place-is limit place number e in
    let end : pushed ≡ places ++ place ∷ [] = put ∙ ap (λ (b : Bool). cond b places (places ++ place ∷ [])) absent in
    ap (map pos) end ∙ map_push pos places place ∙ ap (λ (z : ℤ). map pos places ++ z ∷ []) (sym is.is_number)

list_all-push : (p : ℕ → Bool) (xs : List ℕ) (x : ℕ) → list_all p xs ≡ true → p x ≡ true
    → list_all p (xs ++ x ∷ []) ≡ true
list_all-push p [] x h e = rw e refl
list_all-push p (y ∷ ys) x h e =
    let both = and_true (p y) (list_all p ys) h in
    rw (both.0) (list_all-push p ys x both.1 e)

pub below-pushed : (limit : ℕ) (places pushed : List ℕ) (number : ℤ) (place : ℕ) → AreBelow limit places
    → place_below limit number ≡ Some place → list_any (nat_eq place) places ≡ false
    → pushed ≡ cond (list_any (nat_eq place) places) places (places ++ place ∷ []) → AreBelow limit pushed
below-pushed limit places pushed number place h e absent put =
    let is = place-is limit place number e in
    let end : pushed ≡ places ++ place ∷ [] = put ∙ ap (λ (b : Bool). cond b places (places ++ place ∷ [])) absent in
    rw end (list_all-push (λ q. ltb q limit) places place h is.below)
