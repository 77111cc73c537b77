-- The best point of a walk.
use Rattle.std.proofs.Common.{◌≡◌, ℕ, ◌<◌, List, [], ◌∷◌, ◌++◌, length, set, get_or, sym, refl, subst, inl, inr, ⊎_elim}
use Rattle.std.proofs.Common.{arith}
use Rattle.std.specs.Prelude.{All, ℤ, pos, ◌≤ℤ◌, ◌<ℤ◌, ◌+ℤ◌, ◌⊎◌, Option, None, Some, IfSome, IsSomeAnd}
use Rattle.std.proofs.lemmas.Int.{ints, by_lt_z}
use Rattle.std.proofs.lemmas.List.Elements.{All-cons, All-append, Contains-get_or}
use Rattle.bl_whole.specs.Sums.{component}
use Rattle.bl_terms.specs.Programs.{Program, InBox, columns, cost_at}
use Rattle.bl_model.specs.View.{IsModel}
use Rattle.bl_plain.specs.Walk.{Varies, Best, Improves, Among, AnswersAt}
use Rattle.bl_plain.proofs.WalkLemmas.{Varies-none, Varies-narrow, Varies-widen, Contains-first, below_or_here}

-- a lower value, through one between
some_le : (b c : Option ℤ) (y : ℤ) → IsSomeAnd b (λ now. now ≤ℤ y)
    → IfSome b (λ before. IsSomeAnd c (λ now. now ≤ℤ before)) → IsSomeAnd c (λ now. now ≤ℤ y)
some_le None c y h k = elim h [ ]
some_le (Some b) None y h k = elim k [ ]
some_le (Some b) (Some c) y h k = omega (arith, ints, h, k)

kept_trans : (a b c : Option ℤ) → IfSome a (λ before. IsSomeAnd b (λ now. now ≤ℤ before))
    → IfSome b (λ before. IsSomeAnd c (λ now. now ≤ℤ before)) → IfSome a (λ before. IsSomeAnd c (λ now. now ≤ℤ before))
kept_trans None b c h k = tt
kept_trans (Some a) b c h k = some_le b c a h k

kept_same : (a : Option ℤ) → IfSome a (λ before. IsSomeAnd a (λ now. now ≤ℤ before))
kept_same None = tt
kept_same (Some a) = omega (arith, ints)

-- nothing changes where there is no point
pub Improves-none : (p : Program) (S : List ℤ → Type 0) (a : Best) → ((z : List ℤ) → ¬ S z) → Improves p S a a
Improves-none p S a none = record { source = inl refl; kept = kept_same a.cost; bound = λ z h. absurd (none z h) }

-- the same of sets with the same points
pub Improves-same : (p : Program) (S T : List ℤ → Type 0) (a b : Best) → ((z : List ℤ) → S z → T z)
    → ((z : List ℤ) → T z → S z) → Improves p S a b → Improves p T a b
Improves-same p S T a b to from h = record {
  source = ⊎_elim (λ e. inl e) (λ w. inr (to b.point w.0, w.1)) h.source;
  kept = h.kept;
  bound = λ z t. h.bound z (from z t);
}

-- ---- a walk over one column's values

-- the points whose value of column c is below x
abbrev pub Below : Program → ℕ → List ℕ → List ℤ → (List ℤ → Type 0) → ℤ → List ℤ → Type 0
Below p c cs z T x z' = Varies p (c ∷ cs) z z' × T z' × (component z' c <ℤ x)

-- new is the best of old, of the points below x, and perhaps of further ones
pub record Seeks (p : Program) (c : ℕ) (cs : List ℕ) (z : List ℤ) (T : List ℤ → Type 0) (x : ℤ)
    (old new : Best) : Type 0 where
  pub source : (new ≡ old) ⊎ (Among p (c ∷ cs) z T new.point × (new.cost ≡ Some (cost_at p new.point)))
  pub kept : IfSome old.cost (λ before. IsSomeAnd new.cost (λ now. now ≤ℤ before))
  pub bound : (z' : List ℤ) → Below p c cs z T x z' → IsSomeAnd new.cost (λ now. now ≤ℤ cost_at p z')

pub Seeks-start : (p : Program) (c : ℕ) (cs : List ℕ) (z : List ℤ) (T : List ℤ → Type 0) (a : Best)
    → Seeks p c cs z T (component p.lo c) a a
Seeks-start p c cs z T a = record {
  source = inl refl;
  kept = kept_same a.cost;
  bound = λ z' b. let low = b.0.least c (Contains-first c cs) in let less = b.2 in absurd (omega (arith, ints));
}

pub Seeks-end : (p : Program) (c : ℕ) (cs : List ℕ) (z : List ℤ) (T : List ℤ → Type 0) (x : ℤ) (a b : Best)
    → component p.hi c <ℤ x → Seeks p c cs z T x a b → Improves p (Among p (c ∷ cs) z T) a b
Seeks-end p c cs z T x a b past h = record {
  source = h.source;
  kept = h.kept;
  bound = λ z' w. let high = w.0.most c (Contains-first c cs) in h.bound z' (w.0, w.1, omega (arith, ints));
}

pub Seeks-step : (p : Program) (c : ℕ) (cs : List ℕ) (z₀ z : List ℤ) (T : List ℤ → Type 0) (x : ℤ) (a b d : Best)
    → c < length z → component p.lo c ≤ℤ x → x ≤ℤ component p.hi c → Varies p (c ∷ cs) z₀ z → Seeks p c cs z₀ T x a b
    → Improves p (Among p cs (set z c x) T) b d → Seeks p c cs z₀ T (x +ℤ pos 1) a d
Seeks-step p c cs z₀ z T x a b d below low high v old new = record {
  source = ⊎_elim
      (λ same. let P : Best → Type 0 =
      λ q. (q ≡ a) ⊎ (Among p (c ∷ cs) z₀ T q.point × (q.cost ≡ Some (cost_at p q.point))) in
      subst P (sym same) old.source)
      (λ w. inr ((Varies-widen p c cs z₀ z d.point x below low high v w.0.0, w.0.1), w.1))
      new.source;
  kept = kept_trans a.cost b.cost d.cost old.kept new.kept;
  bound = λ z' w. ⊎_elim
      (λ less. some_le b.cost d.cost (cost_at p z') (old.bound z' (w.0, w.1, less)) new.kept)
      (λ here. new.bound z' (Varies-narrow p c cs z₀ z z' x below v w.0 here, w.1))
      (below_or_here (component z' c) x w.2);
}

-- ---- one point

-- a point that doesn't answer
pub offer-none : (p : Program) (z : List ℤ) (least : ℤ) (a : Best) → ¬ AnswersAt p least z
    → Improves p (Among p [] z (AnswersAt p least)) a a
offer-none p z least a fails =
    Improves-none p (Among p [] z (AnswersAt p least)) a
    (λ z' w. fails (let T : List ℤ → Type 0 = AnswersAt p least in subst T (Varies-none p z z' w.0) w.1))

-- a point that costs no less
pub offer-dear : (p : Program) (z : List ℤ) (least : ℤ) (a : Best) → ¬ IfSome a.cost (λ before. cost_at p z <ℤ before)
    → Improves p (Among p [] z (AnswersAt p least)) a a
offer-dear p z least a dear = record {
  source = inl refl;
  kept = kept_same a.cost;
  bound = λ z' w. rw (Varies-none p z z' w.0) (not_below a.cost (cost_at p z) dear);
}
  where
    not_below : (v : Option ℤ) (y : ℤ) → ¬ IfSome v (λ before. y <ℤ before) → IsSomeAnd v (λ now. now ≤ℤ y)
    not_below None y h = h tt
    not_below (Some b) y h = by_lt_z y b (λ less. absurd (h less)) (λ ge. ge)

-- a point that is taken
pub offer-taken : (p : Program) (z : List ℤ) (least : ℤ) (a : Best) → InBox p z → Varies p [] z z → AnswersAt p least z
    → IfSome a.cost (λ before. cost_at p z <ℤ before)
    → Improves p (Among p [] z (AnswersAt p least)) a (record { point = z; cost = Some (cost_at p z) })
offer-taken p z least a is v answers less = record {
  source = inr ((v, answers), refl);
  kept = lower a.cost less;
  bound = λ z' w. rw (Varies-none p z z' w.0) (omega (arith, ints));
}
  where
    lower : (v : Option ℤ) → IfSome v (λ before. cost_at p z <ℤ before) → IfSome v (λ before. cost_at p z ≤ℤ before)
    lower None h = tt
    lower (Some b) h = omega (arith, ints, h)

-- ---- the follower of one list of leader values

-- the follower's columns are columns
pub follower-below : (p : Program) → IsModel p → All (λ c. c < columns p) p.follower
follower-below p m i d below = m.sound.follower_below (get_or p.follower i d) (Contains-get_or p.follower i d below)

pub choices-below : (p : Program) (column : ℕ) (rest : List ℕ) → IsModel p → column < columns p
    → All (λ c. c < columns p) rest → All (λ c. c < columns p) (column ∷ (rest ++ p.follower))
choices-below p column rest m below all =
    All-cons (λ c. c < columns p) column (rest ++ p.follower) below
    (All-append (λ c. c < columns p) rest p.follower all (follower-below p m))
