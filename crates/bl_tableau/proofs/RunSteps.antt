-- What a tableau keeps, over one more pivot.
use Rattle.std.proofs.Common.{◌≡◌, ℕ, ◌+◌, ◌*◌, ◌<◌, ◌≤◌, inl, inr, true, false, Bool, cond, List, [], ◌∷◌, ◌++◌}
use Rattle.std.proofs.Common.{length, take, drop, refl, sym, ap, ◌∙◌, subst, arith, length-append, length-set}
use Rattle.std.proofs.Common.{get_or-set_same, get_or-set_other}
use Rattle.std.specs.Prelude.{Option, Some, IsSome, unwrap_or, ◌==◌, pos, slice_index, slice_index_or, slice_set}
use Rattle.std.proofs.lemmas.Bool.{cases_eq}
use Rattle.std.proofs.Math.Seq.{take-append_seam}
use Rattle.bl_terms.specs.Bounds.{Problem, Fits}
use Rattle.bl_simplex.specs.Fractions.{Fraction, IsReduced, whole_fraction}
use Rattle.bl_simplex.specs.Dictionaries.{Dictionary, columns, opening, opening_number, height_of, width_of}
use Rattle.bl_tableau.specs.Cells.{placed, AreReduced}
use Rattle.bl_simplex.specs.Pivots.{scaled_entry, eliminated_entry, pivot_place, pivoted, IsPivot, IsNarrowPivot}
use Rattle.bl_simplex.specs.Pivots.{IsFirstWide, replay, AllNarrow, FailsFirstAt}
use Rattle.bl_tableau.specs.Runs.{Shows, KeepsReplay}
use Rattle.bl_tableau.proofs.RowSteps.{test_same, test_other, some_is_some, read_cell, read_reduced, row_within}

-- two dictionaries that agree at four places agree after a pivot
pivot_place-agree : (p s : ℕ → ℕ → Fraction) (r c i j : ℕ) → p i c ≡ s i c → p i j ≡ s i j → p r j ≡ s r j
    → p r c ≡ s r c → pivot_place p r c i j ≡ pivot_place s r c i j
unfolding pivot_place
pivot_place-agree p s r c i j eic eij erj erc =
    let at : Fraction → Fraction → Fraction → Fraction → Option Fraction =
    λ e x y z. cond (i == r) (scaled_entry y z (j == c))
    (eliminated_entry e x (unwrap_or (scaled_entry y z (j == c)) (whole_fraction (pos 0))) (j == c)) in
    ap (λ e. at e (p i j) (p r j) (p r c)) eic ∙ ap (λ x. at (s i c) x (p r j) (p r c)) eij
    ∙ ap (λ y. at (s i c) (s i j) y (p r c)) erj ∙ ap (at (s i c) (s i j) (s r j)) erc

-- the two agree at every place of so many rows of so many numbers
pub record Agree (rows w : ℕ) (p s : ℕ → ℕ → Fraction) : Type 0 where
  pub each : (i j : ℕ) → i < rows → j < w → p i j ≡ s i j

pub agree_after : (rows w : ℕ) (p s : ℕ → ℕ → Fraction) (r c i j : ℕ) → Agree rows w p s → r < rows → c < w → i < rows
    → j < w → pivot_place p r c i j ≡ pivot_place s r c i j
agree_after rows w p s r c i j h hr hc hi hj =
    pivot_place-agree p s r c i j (h.each i c hi hc) (h.each i j hi hj) (h.each r j hr hj) (h.each r c hr hc)

pub first_wide_agrees : (rows w : ℕ) (p s : ℕ → ℕ → Fraction) (r c i j : ℕ) → Agree rows w p s → r < rows → c < w
    → IsFirstWide rows w p r c i j → IsFirstWide rows w s r c i j
first_wide_agrees rows w p s r c i j h hr hc f = record {
  row_in = f.row_in;
  column_in = f.column_in;
  wide = sym (agree_after rows w p s r c i j h hr hc f.row_in f.column_in) ∙ f.wide;
  earlier = λ k l hk hl before. subst IsSome (agree_after rows w p s r c k l h hr hc hk hl)
      (f.earlier k l hk hl before);
}

pub replay-append : (d : Dictionary) (ps : List (ℕ × ℕ)) (p : ℕ × ℕ)
    → replay d (ps ++ p ∷ []) ≡ pivoted (replay d ps) p.0 p.1
replay-append d [] p = refl
replay-append d (q ∷ ps) p = replay-append (pivoted d q.0 q.1) ps p

pub AllNarrow-append : (q : Problem) (d : Dictionary) (ps : List (ℕ × ℕ)) (p : ℕ × ℕ) → AllNarrow q d ps
    → IsNarrowPivot q (replay d ps) p.0 p.1 → AllNarrow q d (ps ++ p ∷ [])
AllNarrow-append q d [] p h n = (n, tt)
AllNarrow-append q d (x ∷ ps) p h n = (h.0, AllNarrow-append q (pivoted d x.0 x.1) ps p h.1 n)

-- what a loan of a whole vector wrote back
pub written_back : {X : Type 0} (n : ℕ) (new old : List X) → n ≡ length new
    → take n (new ++ drop (length new) old) ≡ new
written_back n new old en =
    ap (λ k. take k (new ++ drop (length new) old)) en ∙ take-append_seam new (drop (length new) old)

-- ---- the new dictionary

relabelled : (xs : List ℕ) (k x i : ℕ) → k < length xs
    → slice_index (slice_set xs k x) i ≡ cond (i == k) x (slice_index xs i)
relabelled xs k x i h =
    elim (cases_eq i k) [
      | inl e ↦ rw (e, test_same k) (get_or-set_same xs k x 0 h)
      | inr ne ↦ rw (test_other i k ne) (get_or-set_other xs k i x 0 ne)
    ]

pub shows_pivoted : (q : Problem) (cells ys : List Fraction) (of_rows of_columns : List ℕ) (d : Dictionary) (r c : ℕ)
    → Shows q cells of_rows of_columns d → r < height_of q → c < columns q → length of_rows ≡ height_of q
    → length of_columns ≡ columns q
    → ((i j : ℕ) → i < height_of q → j < width_of q
    → pivot_place (placed cells (width_of q)) r c i j ≡ Some (placed ys (width_of q) i j))
    → Shows q ys (slice_set of_rows r (slice_index of_columns c)) (slice_set of_columns c (slice_index of_rows r))
    (pivoted d r c)
unfolding pivoted
shows_pivoted q cells ys of_rows of_columns d r c h hr hc lr lc new =
    let same : Agree (height_of q) (width_of q) (placed cells (width_of q)) d.place = record { each = h.places } in
    record {
      places = λ i j hi hj.
          let after = agree_after (height_of q) (width_of q) (placed cells (width_of q)) d.place r c i j same hr
          (omega arith) hi hj in
          sym (ap (λ o. unwrap_or o (whole_fraction (pos 0))) (sym after ∙ new i j hi hj));
      row_labels = λ i hi.
          relabelled of_rows r (slice_index of_columns c) i (omega arith)
          ∙ ap (λ x. cond (i == r) x (slice_index of_rows i)) (h.column_labels c hc)
          ∙ ap (cond (i == r) (d.column_label c)) (h.row_labels i hi);
      column_labels = λ j hj.
          relabelled of_columns c (slice_index of_rows r) j (omega arith)
          ∙ ap (λ x. cond (j == c) x (slice_index of_columns j)) (h.row_labels r hr)
          ∙ ap (cond (j == c) (d.row_label r)) (h.column_labels j hj);
    }

pub narrow_pivot : (q : Problem) (cells ys : List Fraction) (of_rows of_columns : List ℕ) (d : Dictionary) (r c : ℕ)
    → Shows q cells of_rows of_columns d → IsPivot q d r c
    → ((i j : ℕ) → i < height_of q → j < width_of q
    → pivot_place (placed cells (width_of q)) r c i j ≡ Some (placed ys (width_of q) i j))
    → IsNarrowPivot q d r c
narrow_pivot q cells ys of_rows of_columns d r c h can new = record {
  possible = can;
  each = λ i j hi hj.
      let same : Agree (height_of q) (width_of q) (placed cells (width_of q)) d.place = record { each = h.places } in
      some_is_some _ _ (sym
      (agree_after (height_of q) (width_of q) (placed cells (width_of q)) d.place r c i j same
      (omega (arith, can.row_in)) (omega (arith, can.column_in)) (omega arith) (omega arith))
      ∙ new i j (omega arith) (omega arith));
}

-- ---- what the tableau keeps

true_is_not_false : (b : Bool) → b ≡ false → b ≡ true → ⊥
true_is_not_false b p q = cc

pub keeps_pivot : (q : Problem) (most : ℕ) (ps : List (ℕ × ℕ)) (spent : Bool) (cells ys : List Fraction)
    (of_rows of_columns : List ℕ) (capacity room r c : ℕ)
    → KeepsReplay (record { problem = q; most = most; pivots = ps; spent = spent }) cells of_rows of_columns capacity
    → spent ≡ false → IsPivot q (replay (opening q) ps) r c → length ps < most → most ≤ room → length ys ≡ length cells
    → AreReduced ys
    → ((i j : ℕ) → i < height_of q → j < width_of q
    → pivot_place (placed cells (width_of q)) r c i j ≡ Some (placed ys (width_of q) i j))
    → KeepsReplay (record { problem = q; most = most; pivots = ps ++ (r, c) ∷ []; spent = spent }) ys
    (slice_set of_rows r (slice_index of_columns c)) (slice_set of_columns c (slice_index of_rows r)) room
keeps_pivot q most ps spent cells ys of_rows of_columns capacity room r c kept fresh can few in_room size numbers new =
    let d = replay (opening q) ps in
    let longer : replay (opening q) (ps ++ (r, c) ∷ []) ≡ pivoted d r c = replay-append (opening q) ps (r, c) in
    let narrow = narrow_pivot q cells ys of_rows of_columns d r c (kept.shows fresh) can new in
    record {
      fits = kept.fits;
      size = size ∙ kept.size;
      rows = length-set of_rows r (slice_index of_columns c) ∙ kept.rows;
      labels = length-set of_columns c (slice_index of_rows r) ∙ kept.labels;
      few = omega (arith, length-append ps ((r, c) ∷ []));
      room = in_room;
      shows = λ _.
          subst (Shows q ys (slice_set of_rows r (slice_index of_columns c))
          (slice_set of_columns c (slice_index of_rows r))) (sym longer)
          (shows_pivoted q cells ys of_rows of_columns d r c (kept.shows fresh)
          (omega (arith, can.row_in)) can.column_in kept.rows kept.labels new);
      numbers = λ _. numbers;
      narrow = λ _. AllNarrow-append q (opening q) ps (r, c) (kept.narrow fresh) narrow;
      failed = λ e. absurd (true_is_not_false spent fresh e);
    }

pub keeps_spent : (q : Problem) (most : ℕ) (ps : List (ℕ × ℕ)) (spent : Bool) (cells ys : List Fraction)
    (of_rows of_columns : List ℕ) (capacity room r c i j : ℕ)
    → KeepsReplay (record { problem = q; most = most; pivots = ps; spent = spent }) cells of_rows of_columns capacity
    → spent ≡ false → IsPivot q (replay (opening q) ps) r c → length ps < most → most ≤ room → length ys ≡ length cells
    → FailsFirstAt q (replay (opening q) ps) r c i j
    → KeepsReplay (record { problem = q; most = most; pivots = ps ++ (r, c) ∷ []; spent = true }) ys of_rows of_columns
    room
keeps_spent q most ps spent cells ys of_rows of_columns capacity room r c i j kept fresh can few in_room size first =
    record {
      fits = kept.fits;
      size = size ∙ kept.size;
      rows = kept.rows;
      labels = kept.labels;
      few = omega (arith, length-append ps ((r, c) ∷ []));
      room = in_room;
      shows = λ e. absurd (true_is_not_false true e refl);
      numbers = λ e. absurd (true_is_not_false true e refl);
      narrow = λ e. absurd (true_is_not_false true e refl);
      failed = λ _. (
        i,
        j,
        record { front = ps; last = (r, c); split = refl; narrow = kept.narrow fresh; possible = can; wide = first },
      );
    }

-- ---- reading

pub shown : (q : Problem) (cells : List Fraction) (of_rows of_columns : List ℕ) (d : Dictionary) (w i j : ℕ)
    (x : Fraction) → Shows q cells of_rows of_columns d → length cells ≡ height_of q * width_of q → w ≡ width_of q
    → i < height_of q → j < width_of q → x ≡ slice_index_or cells (i * w + j) x → x ≡ d.place i j
shown q cells of_rows of_columns d w i j x h size ew hi hj e =
    let at : x ≡ slice_index_or cells (i * width_of q + j) x = e ∙ ap (λ n. slice_index_or cells (i * n + j) x) ew in
    let within = row_within i (height_of q) (width_of q) hi in
    read_cell cells (i * width_of q + j) x (omega (arith, within, size)) at ∙ h.places i j hi hj

pub shown_reduced : (q : Problem) (cells : List Fraction) (w i j : ℕ) (x : Fraction) → AreReduced cells
    → length cells ≡ height_of q * width_of q → w ≡ width_of q → i < height_of q → j < width_of q
    → x ≡ slice_index_or cells (i * w + j) x → IsReduced x
shown_reduced q cells w i j x all size ew hi hj e =
    let at : x ≡ slice_index_or cells (i * width_of q + j) x = e ∙ ap (λ n. slice_index_or cells (i * n + j) x) ew in
    let within = row_within i (height_of q) (width_of q) hi in
    read_reduced cells (i * width_of q + j) x all (omega (arith, within, size)) at

-- the opening dictionary is shown before any pivot
pub keeps_opening : (q : Problem) (most : ℕ) (cells : List Fraction) (of_rows of_columns : List ℕ) (room : ℕ) → Fits q
    → length cells ≡ height_of q * width_of q → length of_rows ≡ height_of q → length of_columns ≡ columns q
    → most ≤ room
    → ((i j : ℕ) → i < height_of q → j < width_of q
    → placed cells (width_of q) i j ≡ whole_fraction (opening_number q i j))
    → ((i : ℕ) → i < height_of q → slice_index of_rows i ≡ columns q + i)
    → ((j : ℕ) → j < columns q → slice_index of_columns j ≡ j) → AreReduced cells
    → KeepsReplay (record { problem = q; most = most; pivots = []; spent = false }) cells of_rows of_columns room
unfolding opening
keeps_opening q most cells of_rows of_columns room fits size rows labels enough places row_labels column_labels
    numbers = record {
      fits = fits;
      size = size;
      rows = rows;
      labels = labels;
      few = omega arith;
      room = enough;
      shows = λ _. record { places = places; row_labels = row_labels; column_labels = column_labels };
      numbers = λ _. numbers;
      narrow = λ _. tt;
      failed = λ e. absurd (true_is_not_false false refl e);
    }
