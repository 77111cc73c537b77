-- Lists of cuts, place by place.
use Rattle.std.proofs.Common.{◌≡◌, ◌≢◌, ℕ, ◌+◌, ◌<◌, ◌≤◌, sym, ap, ◌∙◌, append_assoc}
use Rattle.std.proofs.Common.{subst, arith, inl, inr, List, [], ◌∷◌, ◌++◌, length}
use Rattle.std.specs.Prelude.{take, ℤ, slice_index_or}
use Rattle.std.proofs.lemmas.Bool.{cases_lt}
use Rattle.std.proofs.lemmas.List.{get_or_default, map_more}
use Rattle.bl_terms.specs.Points.{Linear}
use Rattle.bl_terms.specs.Bounds.{Problem}
use Rattle.bl_cut_terms.specs.NoGoods.{NoGoodCut, cut_of}
use Rattle.bl_cut.specs.Cuts.{no_cut, cut_at}
use Rattle.bl_leaf_terms.specs.Leaves.{AreDistinctCuts}
use Rattle.bl_tree.specs.Closing.{rows_of}

-- cuts of which each differs from those before it
pub distinct_by_places : (cuts : List NoGoodCut) (n : ℕ) → length cuts ≤ n
    → ((j : ℕ) → j < n → (i : ℕ) → i < j → cut_of (cut_at cuts i) ≢ cut_of (cut_at cuts j)) → AreDistinctCuts cuts
distinct_by_places cuts n e each i j d b c =
    let first : cut_at cuts i ≡ slice_index_or cuts i d = get_or_default cuts i no_cut d (omega arith) in
    let second : cut_at cuts j ≡ slice_index_or cuts j d = get_or_default cuts j no_cut d c in
    λ same. each j (omega arith) i b (ap cut_of first ∙ same ∙ sym (ap cut_of second))

-- a row of these parts
pub row_is : (r : Linear) (coef : List ℤ) (rhs : ℤ) → coef ≡ r.coef → rhs ≡ r.rhs
    → record { coef = coef; rhs = rhs } ≡ r
row_is r coef rhs e f =
    ap (λ (x : List ℤ). record { coef = x; rhs = rhs }) e ∙ ap (λ (y : ℤ). record { coef = r.coef; rhs = y }) f

-- the rows of the first cuts, with one more
pub rows_more : (cuts : List NoGoodCut) (i : ℕ) → i < length cuts
    → rows_of (take (i + 1) cuts) ≡ rows_of (take i cuts) ++ (cut_of (cut_at cuts i)).row ∷ []
rows_more cuts i b = map_more (λ c. (cut_of c).row) cuts i no_cut b

-- a problem to which the rows of the first cuts were added, with the row of the next
pub cut_added : (start before after : Problem) (cuts : List NoGoodCut) (i : ℕ) (r : Linear) → i < length cuts
    → before ≡ record start { rows = start.rows ++ rows_of (take i cuts) } → r ≡ (cut_of (cut_at cuts i)).row
    → after ≡ record before { rows = before.rows ++ r ∷ [] }
    → after ≡ record start { rows = start.rows ++ rows_of (take (i + 1) cuts) }
cut_added start before after cuts i r b e row added =
    let first = rows_of (take i cuts) in
    let more : first ++ r ∷ [] ≡ rows_of (take (i + 1) cuts) =
    ap (λ (x : Linear). first ++ x ∷ []) row ∙ sym (rows_more cuts i b) in
    let all : start.rows ++ first ++ r ∷ [] ≡ start.rows ++ rows_of (take (i + 1) cuts) =
    append_assoc start.rows first (r ∷ []) ∙ ap (λ (x : List Linear). start.rows ++ x) more in
    added ∙ ap (λ (x : Problem). record x { rows = x.rows ++ r ∷ [] }) e
    ∙ ap (λ (x : List Linear). record start { rows = x }) all

-- what holds below i and at i holds below i + 1
pub one_more : (P : ℕ → Type 0) (i : ℕ) → ((k : ℕ) → k < i → P k) → P i → (k : ℕ) → k < i + 1 → P k
one_more P i before here k b = elim (cases_lt k i) [
  | inl c ↦ before k c
  | inr c ↦ let same : i ≡ k = omega arith in subst P same here
]
