-- The ratio test picks one candidate: it orders the candidates, no two of which have one label.
use Rattle.std.proofs.Common.{◌≡◌, ◌≢◌, ℕ, ◌+◌, ◌<◌, ◌⊎◌, inl, inr, Less, Equal, Greater, ℤ, pos, ◌-ℤ◌, ◌*ℤ◌, ◌<ℤ◌}
use Rattle.std.proofs.Common.{◌≤ℤ◌, [], ◌∷◌}
use Rattle.std.proofs.Common.{refl, sym, ap, ◌∙◌, subst, arith}
use Rattle.std.specs.Prelude.{Option, Some, None}
use Rattle.std.specs.declared.cmp.Ordering.{Ordering}
use Rattle.std.specs.Ordering.{int_cmp, MatchOrdering}
use Rattle.std.specs.Cmp.{int_cmp_is, int_ranks}
use Rattle.std.proofs.lemmas.Bool.{cases_eq, cases_order}
use Rattle.std.proofs.lemmas.Int.{ints}
use Rattle.bl_whole.specs.Identities.{variable, times}
use Rattle.bl_whole.proofs.IdentityLemmas.{identity}
use Rattle.bl_whole.proofs.Products.{*ℤ--ℤ, mul_positive, mul_le_left, lt_of_mul_lt, le_of_mul_le}
use Rattle.bl_simplex.specs.Fractions.{Fraction, order_of}
use Rattle.bl_simplex.specs.LegalPivots.{ratio_of, IsCandidate, WinsRatioTest}
use Rattle.bl_relax.specs.declared.choice.Candidate.{Candidate}
use Rattle.bl_relax.specs.Choices.{AreDistinct, HasNoCandidate, IsRatioOf, Wins, IsWinner, LosesTo, IsBest, IsBestSoFar}

-- ---- the order of fractions, crosswise

left : Fraction → Fraction → ℤ
left a b = a.num *ℤ pos b.den

ranks : (x y : ℤ) (r : Ordering) → int_cmp x y ≡ r → MatchOrdering r (x <ℤ y) (x ≡ y) (y <ℤ x)
ranks x y r e = subst (λ o. MatchOrdering o (x <ℤ y) (x ≡ y) (y <ℤ x)) e (int_ranks x y)

mul_lt_left : {a b : ℤ} (c : ℤ) → pos 0 <ℤ c → a <ℤ b → (c *ℤ a) <ℤ (c *ℤ b)
mul_lt_left {a} {b} c some h =
    let g = mul_positive {a = c} {b = b -ℤ a} some (omega (arith, ints)) in
    let e = *ℤ--ℤ c b a in
    omega (arith, ints)

turned : (a x y : ℤ) → y *ℤ (a *ℤ x) ≡ x *ℤ (a *ℤ y)
turned a x y = identity (a ∷ x ∷ y ∷ []) (times (variable 2) (times (variable 0) (variable 1)))
    (times (variable 1) (times (variable 0) (variable 2))) refl

-- a/x is below b/y, and b/y at most c/z
below_then : (a b c x y z : ℤ) → pos 0 <ℤ x → pos 0 <ℤ y → pos 0 <ℤ z → (a *ℤ y) <ℤ (b *ℤ x) → (b *ℤ z) ≤ℤ (c *ℤ y)
    → (a *ℤ z) <ℤ (c *ℤ x)
below_then a b c x y z hx hy hz first second =
    let p = mul_lt_left z hz first in
    let s = mul_le_left x (omega (arith, ints)) second in
    let e = turned a y z in
    let f = turned b x z in
    let g = turned c y x in
    lt_of_mul_lt y (omega (arith, ints)) (omega (arith, ints))

-- a/x is at most b/y, and b/y below c/z
then_below : (a b c x y z : ℤ) → pos 0 <ℤ x → pos 0 <ℤ y → pos 0 <ℤ z → (a *ℤ y) ≤ℤ (b *ℤ x) → (b *ℤ z) <ℤ (c *ℤ y)
    → (a *ℤ z) <ℤ (c *ℤ x)
then_below a b c x y z hx hy hz first second =
    let p = mul_le_left z (omega (arith, ints)) first in
    let s = mul_lt_left x hx second in
    let e = turned a y z in
    let f = turned b x z in
    let g = turned c y x in
    lt_of_mul_lt y (omega (arith, ints)) (omega (arith, ints))

order_is : (a b : Fraction) (r : Ordering)
    → MatchOrdering r (left a b <ℤ left b a) (left a b ≡ left b a) (left b a <ℤ left a b) → order_of a b ≡ r
unfolding order_of left
order_is a b r h = sym (int_cmp_is (a.num *ℤ pos b.den) (b.num *ℤ pos a.den) r h)

order_ranks : (a b : Fraction) (r : Ordering) → order_of a b ≡ r
    → MatchOrdering r (left a b <ℤ left b a) (left a b ≡ left b a) (left b a <ℤ left a b)
unfolding order_of left
order_ranks a b r e = ranks (a.num *ℤ pos b.den) (b.num *ℤ pos a.den) r e

-- ---- the ratio test orders

same_then : (a b c x y z : ℤ) → pos 0 <ℤ x → pos 0 <ℤ y → pos 0 <ℤ z → a *ℤ y ≡ b *ℤ x → b *ℤ z ≡ c *ℤ y
    → a *ℤ z ≡ c *ℤ x
same_then a b c x y z hx hy hz first second =
    let p : z *ℤ (a *ℤ y) ≡ z *ℤ (b *ℤ x) = ap (λ w. z *ℤ w) first in
    let s : x *ℤ (b *ℤ z) ≡ x *ℤ (c *ℤ y) = ap (λ w. x *ℤ w) second in
    let e = turned a y z in
    let f = turned b x z in
    let g = turned c y x in
    let up : (y *ℤ (a *ℤ z)) ≤ℤ (y *ℤ (c *ℤ x)) = omega (arith, ints) in
    let down : (y *ℤ (c *ℤ x)) ≤ℤ (y *ℤ (a *ℤ z)) = omega (arith, ints) in
    let most = le_of_mul_le y hy up in
    let least = le_of_mul_le y hy down in
    omega (arith, ints)

some_den : (a : Fraction) → 0 < a.den → pos 0 <ℤ pos a.den
some_den a h = omega (arith, ints)

wins_then : (l m n : ℕ) (a b c : Fraction) → 0 < a.den → 0 < b.den → 0 < c.den → WinsRatioTest l m a b
    → WinsRatioTest m n b c → WinsRatioTest l n a c
unfolding left
wins_then l m n a b c ha hb hc (inl first) (inl second) =
    let f = order_ranks a b Less first in
    let s = order_ranks b c Less second in
    inl (order_is a c Less
    (below_then a.num b.num c.num (pos a.den) (pos b.den) (pos c.den) (some_den a ha) (some_den b hb) (some_den c hc) f
    (omega (arith, ints))))
wins_then l m n a b c ha hb hc (inl first) (inr second) =
    let f = order_ranks a b Less first in
    let s = order_ranks b c Equal second.0 in
    inl (order_is a c Less
    (below_then a.num b.num c.num (pos a.den) (pos b.den) (pos c.den) (some_den a ha) (some_den b hb) (some_den c hc) f
    (omega (arith, ints))))
wins_then l m n a b c ha hb hc (inr first) (inl second) =
    let f = order_ranks a b Equal first.0 in
    let s = order_ranks b c Less second in
    inl (order_is a c Less
    (then_below a.num b.num c.num (pos a.den) (pos b.den) (pos c.den) (some_den a ha) (some_den b hb) (some_den c hc)
    (omega (arith, ints)) s))
wins_then l m n a b c ha hb hc (inr first) (inr second) =
    let f = order_ranks a b Equal first.0 in
    let s = order_ranks b c Equal second.0 in
    inr (
      order_is a c Equal
          (same_then a.num b.num c.num (pos a.den) (pos b.den) (pos c.den) (some_den a ha) (some_den b hb)
          (some_den c hc) f s),
      omega arith,
    )

-- of two with different labels one wins
one_wins : (l m : ℕ) (a b : Fraction) → l ≢ m → ¬ WinsRatioTest l m a b → WinsRatioTest m l b a
one_wins l m a b apart loses = by (order_of a b) refl
  where
    by : (o : Ordering) → order_of a b ≡ o → WinsRatioTest m l b a
    by Less e = absurd (loses (inl e))
    by Equal e =
        inr (order_is b a Equal (sym (order_ranks a b Equal e)), labels (cases_order l m))
      where
        labels : (l ≡ m) ⊎ ((l < m) ⊎ (m < l)) → m < l
        labels (inl same) = absurd (apart same)
        labels (inr (inl less)) = absurd (loses (inr (e, less)))
        labels (inr (inr more)) = more
    by Greater e = inl (order_is b a Less (order_ranks a b Greater e))

-- ---- one candidate more

here_below : (n j : ℕ) (entries : ℕ → Fraction) → j < n → (entries j).num <ℤ pos 0 → IsCandidate n entries j
here_below n j entries h less = record { column_in = h; negative = less }

narrower : (n k : ℕ) (entries : ℕ → Fraction) → IsCandidate (n + 1) entries k → k ≢ n → IsCandidate n entries k
narrower n k entries can apart =
    record { column_in = (let h = can.column_in in omega arith); negative = can.negative }

wider : (n k : ℕ) (entries : ℕ → Fraction) → IsCandidate n entries k → IsCandidate (n + 1) entries k
wider n k entries can = record { column_in = (let h = can.column_in in omega arith); negative = can.negative }

same_ratio : (x y : Fraction) (o : Option Fraction) → o ≡ Some x → o ≡ Some y → x ≡ y
same_ratio x y o e f = cc

-- a candidate loses to itself
loses_own : (costs entries : ℕ → Fraction) (label : ℕ → ℕ) (n k : ℕ) (c : Candidate)
    → IsRatioOf costs entries label n c → k ≡ n → LosesTo c label k (ratio_of costs entries k)
loses_own costs entries label n k c r e =
    subst (λ o. LosesTo c label k o) (sym (ap (ratio_of costs entries) e ∙ r.ratio))
    (r.reduced.den_positive, inl (e ∙ sym r.column))

loses_later : (label : ℕ → ℕ) (k : ℕ) (best next : Candidate) (o p : Option Fraction) → 0 < best.ratio.den
    → 0 < next.ratio.den → Wins next best → best.label ≡ label best.column
    → (k ≡ best.column → o ≡ Some best.ratio) → LosesTo best label k o → LosesTo next label k o
loses_later label k best next None p hb hn wins eb own h = h
loses_later label k best next (Some y) p hb hn wins eb own (some, inl same) =
    let ratio : y ≡ best.ratio = same_ratio y best.ratio (Some y) refl (own same) in
    let named : best.label ≡ label k = eb ∙ ap label (sym same) in (
      some,
      inr (subst (λ z. WinsRatioTest next.label (label k) next.ratio z) (sym ratio)
          (subst (λ l. WinsRatioTest next.label l next.ratio best.ratio) named wins)),
    )
loses_later label k best next (Some y) p hb hn wins eb own (some, inr loses) =
    (some, inr (wins_then next.label best.label (label k) next.ratio best.ratio y hn hb some wins loses))

module _ (size n : ℕ) (costs entries : ℕ → Fraction) (label : ℕ → ℕ) (below : n < size)
    (distinct : AreDistinct size label) where
  first_is_best : (next : Candidate) → HasNoCandidate n entries → (entries n).num <ℤ pos 0
      → IsRatioOf costs entries label n next → IsBest (n + 1) costs entries label next
  first_is_best next none less r = record {
    candidate = subst (IsCandidate (n + 1) entries) (sym r.column) (here_below (n + 1) n entries (omega arith) less);
    ratio = subst (λ k. IsRatioOf costs entries label k next) (sym r.column) r;
    others = λ k can.
        elim (cases_eq k n) [
          | inl e ↦ loses_own costs entries label n k next r e
          | inr ne ↦ absurd (none k (narrower n k entries can ne))
        ];
  }

  winner_is_best : (best next : Candidate) → IsBest n costs entries label best → (entries n).num <ℤ pos 0
      → IsRatioOf costs entries label n next → Wins next best → IsBest (n + 1) costs entries label next
  winner_is_best best next b less r wins = record {
    candidate = subst (IsCandidate (n + 1) entries) (sym r.column) (here_below (n + 1) n entries (omega arith) less);
    ratio = subst (λ k. IsRatioOf costs entries label k next) (sym r.column) r;
    others = λ k can.
        elim (cases_eq k n) [
          | inl e ↦ loses_own costs entries label n k next r e
          | inr ne ↦
              loses_later label k best next (ratio_of costs entries k) None b.ratio.reduced.den_positive
              r.reduced.den_positive wins b.ratio.labelled (λ same. ap (ratio_of costs entries) same ∙ b.ratio.ratio)
              (b.others k (narrower n k entries can ne))
        ];
  }

  best_stays : (best next : Candidate) → IsBest n costs entries label best → IsRatioOf costs entries label n next
      → ¬ Wins next best → IsBest (n + 1) costs entries label best
  best_stays best next b r loses = record {
    candidate = wider n best.column entries b.candidate;
    ratio = b.ratio;
    others = λ k can.
        elim (cases_eq k n) [
          | inl e ↦
              let apart : next.label ≢ best.label =
              λ same. let at = distinct.each n best.column below (let h = b.candidate.column_in in omega arith)
              (sym r.labelled ∙ same ∙ b.ratio.labelled) in
              let h = b.candidate.column_in in omega arith in
              let won = one_wins next.label best.label next.ratio best.ratio apart loses in
              let named : next.label ≡ label k = r.labelled ∙ ap label (sym e) in
              subst (λ o. LosesTo best label k o) (sym (ap (ratio_of costs entries) e ∙ r.ratio)) (
                r.reduced.den_positive,
                inr (subst (λ l. WinsRatioTest best.label l best.ratio next.ratio) named won),
              )
          | inr ne ↦ b.others k (narrower n k entries can ne)
        ];
  }

  pub one_more : (best : Option Candidate) (next w : Candidate) → IsBestSoFar n costs entries label best
      → (entries n).num <ℤ pos 0 → IsRatioOf costs entries label n next → IsWinner best next w
      → IsBest (n + 1) costs entries label w
  one_more None next w none less r e =
      subst (IsBest (n + 1) costs entries label) (sym e) (first_is_best next none less r)
  one_more (Some best) next w b less r (inl (wins, e)) =
      subst (IsBest (n + 1) costs entries label) (sym e) (winner_is_best best next b less r wins)
  one_more (Some best) next w b less r (inr (loses, e)) =
      subst (IsBest (n + 1) costs entries label) (sym e) (best_stays best next b r loses)

-- a column whose entry isn't negative is no candidate
pub none_more : (n : ℕ) (costs entries : ℕ → Fraction) (label : ℕ → ℕ) (best : Option Candidate)
    → IsBestSoFar n costs entries label best → ¬ ((entries n).num <ℤ pos 0)
    → IsBestSoFar (n + 1) costs entries label best
none_more n costs entries label best b not = by best b
  where
    apart : (k : ℕ) → IsCandidate (n + 1) entries k → k ≢ n
    apart k can e = not (subst (λ i. (entries i).num <ℤ pos 0) e can.negative)

    by : (o : Option Candidate) → IsBestSoFar n costs entries label o → IsBestSoFar (n + 1) costs entries label o
    by None none = λ k can. none k (narrower n k entries can (apart k can))
    by (Some c) so = record {
      candidate = wider n c.column entries so.candidate;
      ratio = so.ratio;
      others = λ k can. so.others k (narrower n k entries can (apart k can));
    }
