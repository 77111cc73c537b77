-- The last of a list.
use Rattle.std.proofs.Common.{◌≡◌, List, [], ◌∷◌, ◌++◌, refl, sym, ap, ◌∙◌}
use Rattle.bl_cut_terms.specs.NoGoods.{CutStep, last_step}
use Rattle.bl_cert_terms.specs.Certificates.{ProvedEntry}
use Rattle.bl_check_terms.specs.Reading.{at_last, before_last, last_entry}

pub last_entry-push : (entries : List ProvedEntry) (e : ProvedEntry) → last_entry (entries ++ e ∷ []) ≡ e
last_entry-push [] e = refl
last_entry-push (x ∷ []) e = refl
last_entry-push (x ∷ y ∷ entries) e = last_entry-push (y ∷ entries) e

pub last_step-push : (steps : List CutStep) (s : CutStep) → last_step (steps ++ s ∷ []) ≡ s
last_step-push [] s = refl
last_step-push (x ∷ []) s = refl
last_step-push (x ∷ y ∷ steps) s = last_step-push (y ∷ steps) s

pub before_last-push : {A : Type 0} (xs : List A) (x : A) → before_last (xs ++ x ∷ []) ≡ xs
before_last-push [] x = refl
before_last-push (y ∷ []) x = refl
before_last-push (y ∷ z ∷ xs) x = ap (λ ys. y ∷ ys) (before_last-push (z ∷ xs) x)

pub at_last-push : {A : Type 0} (f : A → A) (xs : List A) (x : A) → at_last f (xs ++ x ∷ []) ≡ xs ++ f x ∷ []
at_last-push f [] x = refl
at_last-push f (y ∷ []) x = refl
at_last-push f (y ∷ z ∷ xs) x = ap (λ ys. y ∷ ys) (at_last-push f (z ∷ xs) x)

-- the list is those before its last element, and that one
pub record EndsIn {A : Type 0} (last : List A → A) (xs : List A) : Type 0 where
  pub whole : xs ≡ before_last xs ++ last xs ∷ []

-- the parts of a list that ends in an element
pub record HasLast {A : Type 0} (last : List A → A) (xs ys : List A) (x : A) : Type 0 where
  pub before : before_last xs ≡ ys
  pub same : last xs ≡ x
  pub ends : EndsIn last xs

module _ {A : Type 0} (last : List A → A) (push : (ys : List A) (y : A) → last (ys ++ y ∷ []) ≡ y) where
  pub has_last : (xs ys : List A) (x : A) → xs ≡ ys ++ x ∷ [] → HasLast last xs ys x
  has_last xs ys x e =
      let front : before_last xs ≡ ys = ap (λ zs. before_last zs) e ∙ before_last-push ys x in
      let end : last xs ≡ x = ap last e ∙ push ys x in
      record {
        before = front;
        same = end;
        ends = record {
          whole = e ∙ sym (ap (λ zs. zs ++ last xs ∷ []) front ∙ ap (λ y. ys ++ y ∷ []) end);
        };
      }

  -- where the last element changes, those before it stay
  pub changed_last : (f : A → A) (xs : List A) → EndsIn last xs
      → HasLast last (at_last f xs) (before_last xs) (f (last xs))
  changed_last f xs h =
      has_last (at_last f xs) (before_last xs) (f (last xs))
      (ap (λ ys. at_last f ys) h.whole ∙ at_last-push f (before_last xs) (last xs))
