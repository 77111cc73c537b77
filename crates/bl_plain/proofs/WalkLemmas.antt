-- Points that vary others on some columns.
use Rattle.std.proofs.Common.{◌≡◌, ℕ, zero, suc, ◌<◌, Bool, true, false, cond, List, [], ◌∷◌, length, get_or, set, ◌∙◌}
use Rattle.std.proofs.Common.{sym, refl, ap, subst, inl, inr, ⊎_elim, arith}
use Rattle.std.specs.Prelude.{ℤ, pos, ◌≤ℤ◌, ◌<ℤ◌, ◌+ℤ◌, ◌⊎◌, ◌≢◌, Contains, All, int_lt, Option, None, Some, IfSome}
use Rattle.std.specs.Prelude.{IsSomeAnd}
use Rattle.std.proofs.lemmas.Bool.{cases_lt}
use Rattle.std.proofs.lemmas.Int.{ints, clamps, by_lt_z}
use Rattle.std.proofs.lemmas.List.{ext_get_or, length-set, get_or-set_same, get_or-set_other}
use Rattle.bl_whole.specs.Sums.{component}
use Rattle.bl_terms.specs.Programs.{Program, InBox, MeetsLowerRows, columns, follower_at}
use Rattle.bl_terms.specs.Points.{is_among}
use Rattle.bl_terms.proofs.TestLemmas.{Decides-among}
use Rattle.bl_plain.specs.Walk.{Varies, IsLeastCost, lesser}

-- a column is among some or not
pub among_or_not : (ks : List ℕ) (k : ℕ) → Contains ks k ⊎ (¬ Contains ks k)
among_or_not ks k = by (is_among k ks) refl
  where
    by : (b : Bool) → is_among k ks ≡ b → Contains ks k ⊎ (¬ Contains ks k)
    by true e = inl ((Decides-among k ks).0 e)
    by false e = inr (λ has. let yes = (Decides-among k ks).1 has in cc)

-- one column more
pub Contains-first : (c : ℕ) (cs : List ℕ) → Contains (c ∷ cs) c
Contains-first c cs = (0, omega arith, refl)

pub Contains-later : (c : ℕ) (cs : List ℕ) (k : ℕ) → Contains cs k → Contains (c ∷ cs) k
Contains-later c cs k h = (suc h.0, omega (arith, h.1), h.2)

pub Contains-cases : (c : ℕ) (cs : List ℕ) (k : ℕ) → Contains (c ∷ cs) k → (c ≡ k) ⊎ Contains cs k
Contains-cases c cs k h = at h.0 h.1 h.2
  where
    at : (i : ℕ) → i < length (c ∷ cs) → get_or (c ∷ cs) i k ≡ k → (c ≡ k) ⊎ Contains cs k
    at zero below e = inl e
    at (suc i) below e = inr (i, omega (arith, below), e)

-- a point of the box varies itself
pub Varies-refl : (p : Program) (cs : List ℕ) (z : List ℤ) → All (λ c. c < columns p) cs → InBox p z → Varies p cs z z
Varies-refl p cs z below is = record {
  count = refl;
  others = λ k not_there. refl;
  least = λ k has. is.least k (column k has);
  most = λ k has. is.most k (column k has);
}
  where
    column : (k : ℕ) → Contains cs k → k < columns p
    column k has = let at = below has.0 k has.1 in omega (arith, at, has.2)

-- with no column to vary there is the point alone
pub Varies-none : (p : Program) (z z' : List ℤ) → Varies p [] z z' → z' ≡ z
Varies-none p z z' v = ext_get_or (pos 0) z' z v.count (λ k below. v.others k (λ has. omega (arith, has.1)))

-- a point that varies a point of the box lies in the box
pub In-varies : (p : Program) (cs : List ℕ) (z z' : List ℤ) → InBox p z → Varies p cs z z' → InBox p z'
In-varies p cs z z' is v = record {
  columns = v.count ∙ is.columns;
  least = λ k below. ⊎_elim (λ has. v.least k has) (λ not_there. rw (v.others k not_there) (is.least k below))
      (among_or_not cs k);
  most = λ k below. ⊎_elim (λ has. v.most k has) (λ not_there. rw (v.others k not_there) (is.most k below))
      (among_or_not cs k);
}

same_or_not : (k c : ℕ) → (k ≡ c) ⊎ (k ≢ c)
same_or_not k c = ⊎_elim (λ less. inr (omega arith))
    (λ ge. ⊎_elim (λ more. inr (omega arith)) (λ le. inl (omega (arith, ge, le))) (cases_lt c k)) (cases_lt k c)

-- a value of column c that is put into a point
entry-set_same : (z : List ℤ) (c : ℕ) (x : ℤ) → c < length z → component (set z c x) c ≡ x
entry-set_same z c x below = get_or-set_same z c x (pos 0) below

entry-set_other : (z : List ℤ) (c k : ℕ) (x : ℤ) → k ≢ c → component (set z c x) k ≡ component z k
entry-set_other z c k x apart = get_or-set_other z c k x (pos 0) apart

pub In-set : (p : Program) (z : List ℤ) (c : ℕ) (x : ℤ) → InBox p z → c < columns p → component p.lo c ≤ℤ x
    → x ≤ℤ component p.hi c → InBox p (set z c x)
In-set p z c x is below low high = record {
  columns = length-set z c x ∙ is.columns;
  least = λ k at. ⊎_elim (λ e. rw (e, entry-set_same z c x (omega (arith, is.columns, below))) low)
      (λ apart. rw (entry-set_other z c k x apart) (is.least k at)) (same_or_not k c);
  most = λ k at. ⊎_elim (λ e. rw (e, entry-set_same z c x (omega (arith, is.columns, below))) high)
      (λ apart. rw (entry-set_other z c k x apart) (is.most k at)) (same_or_not k c);
}

pub below_or_here : (y x : ℤ) → y <ℤ (x +ℤ pos 1) → (y <ℤ x) ⊎ (y ≡ x)
below_or_here y x h = by_lt_z y x (λ less. inl less) (λ ge. inr (omega (arith, ints, h, ge)))

-- ---- a walk over one column's values

-- a point with the value x of column c varies, on the other columns, the point in which x was put
pub Varies-narrow : (p : Program) (c : ℕ) (cs : List ℕ) (z₀ z z' : List ℤ) (x : ℤ) → c < length z
    → Varies p (c ∷ cs) z₀ z → Varies p (c ∷ cs) z₀ z' → component z' c ≡ x → Varies p cs (set z c x) z'
Varies-narrow p c cs z₀ z z' x below v v' is = record {
  count = v'.count ∙ sym v.count ∙ sym (length-set z c x);
  others = λ k not_there.
      ⊎_elim
      (λ e. ap (component z') e ∙ is ∙ sym (entry-set_same z c x below) ∙ ap (component (set z c x)) (sym e))
      (λ apart.
      let out : ¬ Contains (c ∷ cs) k = λ has. ⊎_elim (λ e. apart (sym e)) not_there (Contains-cases c cs k has) in
      v'.others k out ∙ sym (v.others k out) ∙ sym (entry-set_other z c k x apart))
      (same_or_not k c);
  least = λ k has. v'.least k (Contains-later c cs k has);
  most = λ k has. v'.most k (Contains-later c cs k has);
}

-- and the other way round
pub Varies-widen : (p : Program) (c : ℕ) (cs : List ℕ) (z₀ z z' : List ℤ) (x : ℤ) → c < length z
    → component p.lo c ≤ℤ x → x ≤ℤ component p.hi c → Varies p (c ∷ cs) z₀ z → Varies p cs (set z c x) z'
    → Varies p (c ∷ cs) z₀ z'
Varies-widen p c cs z₀ z z' x below low high v v' = record {
  count = v'.count ∙ length-set z c x ∙ v.count;
  others = λ k out.
      let apart : k ≢ c = λ e. out (rw e (Contains-first c cs)) in
      let not_there : ¬ Contains cs k = λ has. out (Contains-later c cs k has) in
      v'.others k not_there ∙ entry-set_other z c k x apart ∙ v.others k out;
  least = λ k has. ⊎_elim
      (λ e. ⊎_elim (λ later. v'.least k later)
      (λ not_there. rw (v'.others k not_there, ← e, entry-set_same z c x below) low) (among_or_not cs k))
      (λ later. v'.least k later) (Contains-cases c cs k has);
  most = λ k has. ⊎_elim
      (λ e. ⊎_elim (λ later. v'.most k later)
      (λ not_there. rw (v'.others k not_there, ← e, entry-set_same z c x below) high) (among_or_not cs k))
      (λ later. v'.most k later) (Contains-cases c cs k has);
}

-- ---- the follower's least cost

-- r is the least cost among the points whose value of column c is below x, and is reached
pub record IsLeastBelow (p : Program) (cs : List ℕ) (z : List ℤ) (c : ℕ) (x : ℤ) (r : Option ℤ) : Type 0 where
  pub reached : IfSome r (λ least. (z' : List ℤ) × Varies p cs z z' × MeetsLowerRows p z' × (follower_at p z' ≡ least))
  pub bound : (z' : List ℤ) → Varies p cs z z' → MeetsLowerRows p z' → component z' c <ℤ x
      → IsSomeAnd r (λ least. least ≤ℤ follower_at p z')

lesser_left : (r s : Option ℤ) (y : ℤ) → IsSomeAnd r (λ least. least ≤ℤ y)
    → IsSomeAnd (lesser r s) (λ least. least ≤ℤ y)
lesser_left None s y h = elim h [ ]
lesser_left (Some a) None y h = h
lesser_left (Some a) (Some b) y h = omega (arith, ints, clamps, h)

lesser_right : (r s : Option ℤ) (y : ℤ) → IsSomeAnd s (λ least. least ≤ℤ y)
    → IsSomeAnd (lesser r s) (λ least. least ≤ℤ y)
lesser_right None s y h = h
lesser_right (Some a) None y h = elim h [ ]
lesser_right (Some a) (Some b) y h = omega (arith, ints, clamps, h)

-- what both reach, the lesser reaches
lesser_reached : (r s : Option ℤ) (R : ℤ → Type 0) → IfSome r R → IfSome s R → IfSome (lesser r s) R
lesser_reached None s R p q = q
lesser_reached (Some a) None R p q = p
lesser_reached (Some a) (Some b) R p q = by (int_lt b a)
  where
    by : (t : Bool) → R (cond t b a)
    by true = q
    by false = p

-- one more value of the column
pub IsLeastBelow-step : (p : Program) (c : ℕ) (cs : List ℕ) (z₀ z : List ℤ) (x : ℤ) (r s : Option ℤ) → c < length z
    → component p.lo c ≤ℤ x → x ≤ℤ component p.hi c → Varies p (c ∷ cs) z₀ z → IsLeastBelow p (c ∷ cs) z₀ c x r
    → IsLeastCost p cs (set z c x) s → IsLeastBelow p (c ∷ cs) z₀ c (x +ℤ pos 1) (lesser r s)
IsLeastBelow-step p c cs z₀ z x r s below low high v old new = record {
  reached = lesser_reached r s
      (λ least. (z' : List ℤ) × Varies p (c ∷ cs) z₀ z' × MeetsLowerRows p z' × (follower_at p z' ≡ least)) old.reached
      (widened s new.reached);
  bound = λ z' v' lower less.
      ⊎_elim
      (λ before. lesser_left r s (follower_at p z') (old.bound z' v' lower before))
      (λ here. lesser_right r s (follower_at p z')
      (new.bound z' (Varies-narrow p c cs z₀ z z' x below v v' here) lower))
      (below_or_here (component z' c) x less);
}
  where
    widened : (s : Option ℤ)
        → IfSome s (λ least. (z' : List ℤ) × Varies p cs (set z c x) z' × MeetsLowerRows p z'
        × (follower_at p z' ≡ least))
        → IfSome s (λ least. (z' : List ℤ) × Varies p (c ∷ cs) z₀ z' × MeetsLowerRows p z' × (follower_at p z' ≡ least))
    widened None h = h
    widened (Some least) h = (h.0, Varies-widen p c cs z₀ z h.0 x below low high v h.1, h.2, h.3)

-- before the first value
pub IsLeastBelow-none : (p : Program) (c : ℕ) (cs : List ℕ) (z : List ℤ)
    → IsLeastBelow p (c ∷ cs) z c (component p.lo c) None
IsLeastBelow-none p c cs z = record {
  reached = tt;
  bound = λ z' v lower less. let low = v.least c (Contains-first c cs) in absurd (omega (arith, ints));
}

-- after the last
pub IsLeastBelow-all : (p : Program) (c : ℕ) (cs : List ℕ) (z : List ℤ) (x : ℤ) (r : Option ℤ) → component p.hi c <ℤ x
    → IsLeastBelow p (c ∷ cs) z c x r → IsLeastCost p (c ∷ cs) z r
IsLeastBelow-all p c cs z x r past h = record {
  reached = h.reached;
  bound = λ z' v lower. let high = v.most c (Contains-first c cs) in h.bound z' v lower (omega (arith, ints));
}

-- a column's value, and what the walk of the other columns made of the point
pub Varies-step : (p : Program) (c : ℕ) (cs : List ℕ) (z₀ z z' : List ℤ) (x : ℤ) → InBox p z → c < columns p
    → component p.lo c ≤ℤ x → x ≤ℤ component p.hi c → Varies p (c ∷ cs) z₀ z → Varies p cs (set z c x) z'
    → InBox p z' × Varies p (c ∷ cs) z₀ z'
Varies-step p c cs z₀ z z' x is below low high v v' =
    let count : c < length z = omega (arith, below, is.columns) in (
      In-varies p cs (set z c x) z' (In-set p z c x is below low high) v',
      Varies-widen p c cs z₀ z z' x count low high v v',
    )

-- a point alone that doesn't meet the follower's rows
pub IsLeastCost-none : (p : Program) (z : List ℤ) → ¬ MeetsLowerRows p z → IsLeastCost p [] z None
IsLeastCost-none p z fails = record {
  reached = tt;
  bound = λ z' v lower. absurd
      (fails (let L : List ℤ → Type 0 = MeetsLowerRows p in subst L (Varies-none p z z' v) lower));
}

pub Varies-nothing : (p : Program) (z : List ℤ) → Varies p [] z z
Varies-nothing p z = record {
  count = refl;
  others = λ k not_there. refl;
  least = λ k has. absurd (omega (arith, has.1));
  most = λ k has. absurd (omega (arith, has.1));
}

-- two points that vary one vary each other
pub Varies-trans : (p : Program) (cs : List ℕ) (z z₁ z' : List ℤ) → Varies p cs z z₁ → Varies p cs z₁ z'
    → Varies p cs z z'
Varies-trans p cs z z₁ z' v w = record {
  count = w.count ∙ v.count;
  others = λ k out. w.others k out ∙ v.others k out;
  least = w.least;
  most = w.most;
}

pub Varies-back : (p : Program) (cs : List ℕ) (z z₁ z' : List ℤ) → Varies p cs z z₁ → Varies p cs z z'
    → Varies p cs z₁ z'
Varies-back p cs z z₁ z' v w = record {
  count = w.count ∙ sym v.count;
  others = λ k out. w.others k out ∙ sym (v.others k out);
  least = w.least;
  most = w.most;
}
