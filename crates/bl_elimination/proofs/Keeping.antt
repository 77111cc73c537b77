-- A candidate that is kept, and all of them one after another.
use Rattle.std.proofs.Common.{◌≡◌, ◌≢◌, ℕ, suc, ◌+◌, ◌<◌, ◌≤◌, ◌⊎◌, inl, inr, List, [], ◌∷◌, ◌++◌, length, take}
use Rattle.std.proofs.Common.{ℤ, pos, refl, sym, ap, ◌∙◌, subst, arith, rules, nat_eq, true, false, length-append, Bool}
use Rattle.std.specs.Prelude.{Option, Some, None, option_map, slice_index, Result, Ok, Err}
use Rattle.std.specs.Prelude.{if◌then◌else◌}
use Rattle.std.specs.Option.{ok_or}
use Rattle.std.proofs.lemmas.Bool.{cases_eq}
use Rattle.std.proofs.lemmas.Bool.Decides.{nat_tests}
use Rattle.std.proofs.lemmas.Option.{option_and_then_some}
use Rattle.std.proofs.lemmas.List.{get_or_append_left, get_or_push}
use Rattle.bl_whole.specs.Sums.{component}
use Rattle.bl_terms.specs.Points.{Linear}
use Rattle.bl_terms.specs.Bounds.{linear_at}
use Rattle.bl_simplex.specs.Fractions.{Fraction}
use Rattle.bl_simplex.specs.Rationals.{fraction_at}
use Rattle.bl_elimination.specs.declared.basis.NoBasis.{NoBasis}
use Rattle.bl_elimination.specs.declared.basis.NoBasis.TheVariants.{NotUnique, TooLarge}
use Rattle.bl_elimination.specs.Elimination.{Kept, nothing_kept, reduced, first_nonzero, divided, cleared, with_row}
use Rattle.bl_elimination.specs.Elimination.{kept_with, kept_after, candidate, eliminated, then_on}
use Rattle.bl_elimination.specs.Inverses.{RiseFrom}
use Rattle.bl_elimination.proofs.RowLists.{row_at}
use Rattle.bl_elimination.proofs.Values.{IsWhole}
use Rattle.bl_elimination.proofs.RowValues.{Shows, without_shows, without_entry, without_column, slot_entry}
use Rattle.bl_elimination.proofs.RowValues.{candidate_shows}
use Rattle.bl_elimination.proofs.RowValues.{divided_shows, divided_zero, divided_column, candidate_slots}
use Rattle.bl_elimination.proofs.Standing.{Stands, stands_other, IsReduced, reduced_to, pivot_is, AreCleared}
use Rattle.bl_elimination.proofs.Standing.{cleared_is}
use Rattle.bl_elimination.proofs.Standing.{slot_own, slot_other}

at_place : (row other : List Fraction) (k l : ℕ) (z : ℤ) → row ≡ other → k ≡ l → IsWhole (fraction_at other l) z
    → IsWhole (fraction_at row k) z
at_place row other k l z er ek h =
    subst (λ j. IsWhole (fraction_at row j) z) (sym ek) (subst (λ r. IsWhole (fraction_at r l) z) (sym er) h)

before_or_last : {X : Type 0} (xs : List X) (x : X) (i m : ℕ) → length xs ≡ m → i < length (xs ++ x ∷ [])
    → (i < m) ⊎ (i ≡ m)
before_or_last xs x i m s l = by (cases_eq i m)
  where
    size : length (xs ++ x ∷ []) ≡ m + 1
    size = length-append xs (x ∷ []) ∙ omega (arith, s)

    by : (i ≡ m) ⊎ (i ≢ m) → (i < m) ⊎ (i ≡ m)
    by (inl e) = inr e
    by (inr other) = inl (omega (arith, size, l, other))

-- what a row needs to be kept
pub record MayStand (n : ℕ) (c : ℕ → ℕ → ℤ) (kept : Kept) (col : ℕ) (new : List Fraction) : Type 0 where
  pub column_in : col < n
  pub shows : Shows n c new
  pub own : IsWhole (fraction_at new col) (pos 1)
  pub zeros : (j : ℕ) → j < length kept.rows → IsWhole (fraction_at new (slice_index kept.columns j)) (pos 0)
  pub slots : (t : ℕ) → length kept.rows < t → t < n → IsWhole (fraction_at new (n + t)) (pos 0)

cleared_shows : (n : ℕ) (c : ℕ → ℕ → ℤ) (kept : Kept) (col : ℕ) (new : List Fraction) (news : List (List Fraction))
    → Stands n c kept → MayStand n c kept col new → AreCleared col new kept.rows news → (i : ℕ) → i < length kept.rows
    → Shows n c (row_at news i)
cleared_shows n c kept col new news s w h i l =
    without_shows n col c new (row_at kept.rows i) (row_at news i) w.column_in (s.rows i l) w.shows (h.each i l)

cleared_unit : (n : ℕ) (c : ℕ → ℕ → ℤ) (kept : Kept) (col : ℕ) (new : List Fraction) (news : List (List Fraction))
    → Stands n c kept → MayStand n c kept col new → AreCleared col new kept.rows news → (i j : ℕ)
    → i < length kept.rows → j < length kept.rows
    → IsWhole (fraction_at (row_at news i) (slice_index kept.columns j)) (slot_entry i j)
cleared_unit n c kept col new news s w h i j l b =
    without_entry n col c new (row_at kept.rows i) (row_at news i) w.column_in (s.rows i l) w.shows (h.each i l)
    (slice_index kept.columns j) (slot_entry i j) (omega (arith, s.columns_in j b)) (s.units i j l b) (w.zeros j b)

cleared_slot : (n : ℕ) (c : ℕ → ℕ → ℤ) (kept : Kept) (col : ℕ) (new : List Fraction) (news : List (List Fraction))
    → Stands n c kept → MayStand n c kept col new → AreCleared col new kept.rows news → (i t : ℕ)
    → i < length kept.rows → length kept.rows < t → t < n → IsWhole (fraction_at (row_at news i) (n + t)) (pos 0)
cleared_slot n c kept col new news s w h i t l m b =
    without_entry n col c new (row_at kept.rows i) (row_at news i) w.column_in (s.rows i l) w.shows (h.each i l)
    (n + t) (pos 0) (omega arith) (s.slots i t l (omega arith) b) (w.slots t m b)

pub stands_more : (n : ℕ) (c : ℕ → ℕ → ℤ) (kept : Kept) (number col : ℕ) (new : List Fraction)
    (news : List (List Fraction)) → Stands n c kept → MayStand n c kept col new → AreCleared col new kept.rows news
    → Stands n c (with_row kept number col new news)
stands_more n c kept number col new news s w h = record {
  numbers_count = count kept.numbers number s.numbers_count;
  columns_count = count kept.columns col s.columns_count;
  columns_in = λ i l. column_in i (before i l);
  rows = λ i l. row i (before i l);
  units = λ i j l b. unit i j (before i l) (before j b);
  slots = λ i t l m b. slot i t (before i l) (omega (arith, m, size)) b;
}
  where
    size : length (news ++ new ∷ []) ≡ length kept.rows + 1
    size = length-append news (new ∷ []) ∙ omega (arith, h.size)

    count : (xs : List ℕ) (x : ℕ) → length xs ≡ length kept.rows → length (xs ++ x ∷ []) ≡ length (news ++ new ∷ [])
    count xs x e = length-append xs (x ∷ []) ∙ omega (arith, e, size)

    before : (i : ℕ) → i < length (news ++ new ∷ []) → (i < length kept.rows) ⊎ (i ≡ length kept.rows)
    before i l = before_or_last news new i (length kept.rows) h.size l

    row_left : (i : ℕ) → i < length kept.rows → row_at (news ++ new ∷ []) i ≡ row_at news i
    row_left i l = get_or_append_left news (new ∷ []) [] i (omega (arith, h.size, l))

    row_last : (i : ℕ) → i ≡ length kept.rows → row_at (news ++ new ∷ []) i ≡ new
    row_last i e = get_or_push news new [] i (h.size ∙ sym e)

    col_left : (i : ℕ) → i < length kept.rows → slice_index (kept.columns ++ col ∷ []) i ≡ slice_index kept.columns i
    col_left i l = get_or_append_left kept.columns (col ∷ []) 0 i (omega (arith, s.columns_count, l))

    col_last : (i : ℕ) → i ≡ length kept.rows → slice_index (kept.columns ++ col ∷ []) i ≡ col
    col_last i e = get_or_push kept.columns col 0 i (s.columns_count ∙ sym e)

    column_in : (i : ℕ) → (i < length kept.rows) ⊎ (i ≡ length kept.rows) → slice_index (kept.columns ++ col ∷ []) i < n
    column_in i (inl l) = omega (arith, col_left i l, s.columns_in i l)
    column_in i (inr e) = omega (arith, col_last i e, w.column_in)

    row : (i : ℕ) → (i < length kept.rows) ⊎ (i ≡ length kept.rows) → Shows n c (row_at (news ++ new ∷ []) i)
    row i (inl l) = subst (Shows n c) (sym (row_left i l)) (cleared_shows n c kept col new news s w h i l)
    row i (inr e) = subst (Shows n c) (sym (row_last i e)) w.shows

    unit : (i j : ℕ) → (i < length kept.rows) ⊎ (i ≡ length kept.rows) → (j < length kept.rows) ⊎ (j ≡ length kept.rows)
        → IsWhole (fraction_at (row_at (news ++ new ∷ []) i) (slice_index (kept.columns ++ col ∷ []) j))
        (slot_entry i j)
    unit i j (inl l) (inl b) =
        at_place _ _ _ _ (slot_entry i j) (row_left i l) (col_left j b)
        (cleared_unit n c kept col new news s w h i j l b)
    unit i j (inl l) (inr e) =
        let zero_there : IsWhole (fraction_at (row_at news i) col) (pos 0) =
        without_column n col c new (row_at kept.rows i) (row_at news i) w.column_in (s.rows i l) w.shows
        (h.each i l) w.own in
        at_place _ _ _ _ (slot_entry i j) (row_left i l) (col_last j e)
        (subst (IsWhole (fraction_at (row_at news i) col)) (sym (slot_other i j (omega arith))) zero_there)
    unit i j (inr e) (inl b) =
        at_place _ _ _ _ (slot_entry i j) (row_last i e) (col_left j b)
        (subst (IsWhole (fraction_at new (slice_index kept.columns j))) (sym (slot_other i j (omega arith)))
        (w.zeros j b))
    unit i j (inr e) (inr k) =
        let one : slot_entry i j ≡ pos 1 = ap (slot_entry i) (k ∙ sym e) ∙ slot_own i in
        at_place _ _ _ _ (slot_entry i j) (row_last i e) (col_last j k)
        (subst (IsWhole (fraction_at new col)) (sym one) w.own)

    slot : (i t : ℕ) → (i < length kept.rows) ⊎ (i ≡ length kept.rows) → length kept.rows < t → t < n
        → IsWhole (fraction_at (row_at (news ++ new ∷ []) i) (n + t)) (pos 0)
    slot i t (inl l) past b =
        at_place _ _ _ _ (pos 0) (row_left i l) refl (cleared_slot n c kept col new news s w h i t l past b)
    slot i t (inr e) past b = at_place _ _ _ _ (pos 0) (row_last i e) refl (w.slots t past b)

-- a reduced row that is divided may be kept
may_stand : (n : ℕ) (c : ℕ → ℕ → ℤ) (kept : Kept) (col : ℕ) (row new : List Fraction) → Stands n c kept
    → IsReduced n c kept.columns (length kept.rows) (length kept.rows) row → col < n → (fraction_at row col).num ≢ pos 0
    → divided (fraction_at row col) row ≡ Some new → MayStand n c kept col new
may_stand n c kept col row new s r l nonzero h = record {
  column_in = l;
  shows = divided_shows n col c row new l r.shows nonzero h;
  own = divided_column n col c row new l r.shows nonzero h;
  zeros = λ j b. divided_zero n col c row new l r.shows nonzero h (slice_index kept.columns j)
      (omega (arith, s.columns_in j b)) (r.zeros j b);
  slots = λ t m b. divided_zero n col c row new l r.shows nonzero h (n + t) (omega arith) (r.slots t m b);
}

-- ---- candidates

-- the coefficients of the kept candidate t
abbrev pub coefs_of : List Linear → List ℕ → ℕ → ℕ → ℤ
coefs_of all numbers t k = component (linear_at all (slice_index numbers t)).coef k

-- the numbers are those of candidates before this one, in their order, and the rows are in reduced form
pub record Holds (n : ℕ) (all : List Linear) (number : ℕ) (kept : Kept) : Type 0 where
  pub most : length kept.rows ≤ n
  pub rising : RiseFrom 0 number kept.numbers
  pub stands : Stands n (coefs_of all kept.numbers) kept

not_same : (m n : ℕ) → nat_eq m n ≡ false → m ≢ n
not_same m n h = grind (arith, nat_tests)

pub rise_more : (least m n : ℕ) (xs : List ℕ) → m ≤ n → RiseFrom least m xs → RiseFrom least n xs
rise_more least m n [] l h = tt
rise_more least m n (x ∷ xs) l h = ((h.0.0, omega (arith, h.0.1, l)), rise_more (suc x) m n xs l h.1)

rise_push : (least m : ℕ) (xs : List ℕ) → least ≤ m → RiseFrom least m xs → RiseFrom least (suc m) (xs ++ m ∷ [])
rise_push least m [] l h = ((l, omega arith), tt)
rise_push least m (x ∷ xs) l h = ((h.0.0, omega (arith, h.0.1)), rise_push (suc x) m xs (omega (arith, h.0.1)) h.1)

-- the coefficients of the first numbers stay
same_coefs : (all : List Linear) (numbers : List ℕ) (number t k : ℕ) → t < length numbers
    → coefs_of all numbers t k ≡ coefs_of all (numbers ++ number ∷ []) t k
same_coefs all numbers number t k l =
    ap (λ i. component (linear_at all i).coef k) (sym (get_or_append_left numbers (number ∷ []) 0 t l))

own_coefs : (all : List Linear) (numbers : List ℕ) (number t k : ℕ) → length numbers ≡ t
    → coefs_of all (numbers ++ number ∷ []) t k ≡ component (linear_at all number).coef k
own_coefs all numbers number t k e =
    ap (λ i. component (linear_at all i).coef k) (get_or_push numbers number 0 t e)

holds_more : (n : ℕ) (all : List Linear) (m k : ℕ) (kept : Kept) → m ≤ k → Holds n all m kept → Holds n all k kept
holds_more n all m k kept l h =
    record { most = h.most; rising = rise_more 0 m k kept.numbers l h.rising; stands = h.stands }

with_pivot : (n : ℕ) (all : List Linear) (number col : ℕ) (kept more : Kept) (row : List Fraction)
    → Holds n all number kept → length kept.rows < n
    → IsReduced n (coefs_of all (kept.numbers ++ number ∷ [])) kept.columns (length kept.rows) (length kept.rows) row
    → col < n → (fraction_at row col).num ≢ pos 0 → kept_with kept number row (Some col) ≡ Some more
    → Holds n all (suc number) more
with_pivot n all number col kept more row h room r l nonzero is =
    let d = coefs_of all (kept.numbers ++ number ∷ []) in
    let s : Stands n d kept = stands_other n (coefs_of all kept.numbers) d kept h.stands
    (λ t k b. same_coefs all kept.numbers number t k (omega (arith, h.stands.numbers_count, b))) in
    option_and_then_some (λ new. option_map (with_row kept number col new) (cleared col new kept.rows))
    (divided (fraction_at row col) row) more is
    (λ new share rest. by s new share (cleared col new kept.rows) refl rest)
  where
    built : (new : List Fraction) (news : List (List Fraction))
        → Stands n (coefs_of all (kept.numbers ++ number ∷ [])) kept
        → divided (fraction_at row col) row ≡ Some new → cleared col new kept.rows ≡ Some news
        → Holds n all (suc number) (with_row kept number col new news)
    built new news s share clear = record {
      most = omega (arith, length-append news (new ∷ []), (cleared_is col new kept.rows news clear).size, room);
      rising = rise_push 0 number kept.numbers (omega arith) h.rising;
      stands = stands_more n (coefs_of all (kept.numbers ++ number ∷ [])) kept number col new news s
          (may_stand n (coefs_of all (kept.numbers ++ number ∷ [])) kept col row new s r l nonzero share)
          (cleared_is col new kept.rows news clear);
    }

    by : Stands n (coefs_of all (kept.numbers ++ number ∷ [])) kept → (new : List Fraction)
        → divided (fraction_at row col) row ≡ Some new → (o : Option (List (List Fraction)))
        → cleared col new kept.rows ≡ o → option_map (with_row kept number col new) o ≡ Some more
        → Holds n all (suc number) more
    by s new share None clear rest = absurd (search rules)
    by s new share (Some news) clear rest =
        let same : with_row kept number col new news ≡ more = search rules in
        subst (Holds n all (suc number)) same (built new news s share clear)

pub holds_after : (n : ℕ) (all : List Linear) (number : ℕ) (kept more : Kept) (coef : List ℤ) → Holds n all number kept
    → length kept.rows < n → coef ≡ (linear_at all number).coef → length coef ≡ n
    → kept_after kept number coef ≡ Some more → Holds n all (suc number) more
unfolding kept_after
holds_after n all number kept more coef h room is size after =
    option_and_then_some (λ row. kept_with kept number row (first_nonzero (take (length coef) row)))
    (reduced kept.columns kept.rows (candidate (length kept.rows) coef)) more after
    (λ row reduction rest. by row (reduces row reduction) (first_nonzero (take (length coef) row)) refl rest)
  where
    start : IsReduced n (coefs_of all (kept.numbers ++ number ∷ [])) kept.columns (length kept.rows) 0
        (candidate (length kept.rows) coef)
    start = record {
      shows = candidate_shows n (length kept.rows) (coefs_of all (kept.numbers ++ number ∷ [])) coef size room
          (λ k. own_coefs all kept.numbers number (length kept.rows) k h.stands.numbers_count
          ∙ ap (λ cs. component cs k) (sym is));
      zeros = λ j l. absurd (omega arith);
      slots = λ t m b. candidate_slots n (length kept.rows) coef size t m b;
    }

    reduces : (row : List Fraction) → reduced kept.columns kept.rows (candidate (length kept.rows) coef) ≡ Some row
        → IsReduced n (coefs_of all (kept.numbers ++ number ∷ [])) kept.columns (length kept.rows)
        (length kept.rows) row
    reduces row reduction =
        reduced_to n (coefs_of all (kept.numbers ++ number ∷ [])) kept
        (stands_other n (coefs_of all kept.numbers) (coefs_of all (kept.numbers ++ number ∷ [])) kept h.stands
        (λ t k b. same_coefs all kept.numbers number t k (omega (arith, h.stands.numbers_count, b))))
        (length kept.rows) 0 (omega arith) (candidate (length kept.rows) coef) row start reduction

    by : (row : List Fraction)
        → IsReduced n (coefs_of all (kept.numbers ++ number ∷ [])) kept.columns (length kept.rows)
        (length kept.rows) row
        → (o : Option ℕ) → first_nonzero (take (length coef) row) ≡ o → kept_with kept number row o ≡ Some more
        → Holds n all (suc number) more
    by row r None e rest =
        let same : kept ≡ more = search rules in
        subst (Holds n all (suc number)) same
        (holds_more n all number (suc number) kept (omega arith) h)
    by row r (Some col) e rest =
        let got = pivot_is n row col (omega (arith, r.shows.size))
        (ap (λ m. first_nonzero (take m row)) (sym size) ∙ e) in
        with_pivot n all number col kept more row h room r got.0 got.1 rest

-- ---- the candidates one after another

abbrev pub Ends : ℕ → List Linear → Kept → Type 0
Ends n all kept = (length kept.rows ≡ n) × Holds n all (length all) kept

pub then_on_is : {T U : Type 0} (f : T → Result U NoBasis) (r : Result T NoBasis) (y : U) → then_on f r ≡ Ok y
    → (x : T) × (r ≡ Ok x) × (f x ≡ Ok y)
then_on_is f (Ok x) y h = (x, refl, h)
then_on_is f (Err e) y h = absurd (search rules)

some_of : {T : Type 0} (o : Option T) (e : NoBasis) (x : T) → ok_or o e ≡ Ok x → o ≡ Some x
some_of (Some y) e x h = search rules
some_of None e x h = absurd (search rules)

if_done : (b : Bool) (kept final : Kept) (r : Result Kept NoBasis) → (if b then Ok kept else r) ≡ Ok final
    → ((b ≡ true) × (kept ≡ final)) ⊎ ((b ≡ false) × (r ≡ Ok final))
if_done true kept final r h = inl (refl, search rules)
if_done false kept final r h = inr (refl, h)

done_ends : (n : ℕ) (all : List Linear) (number : ℕ) (kept final : Kept) → nat_eq (length kept.rows) n ≡ true
    → kept ≡ final → number ≤ length all → Holds n all number kept → Ends n all final
done_ends n all number kept final test same l h =
    subst (Ends n all) same (grind (arith, nat_tests), holds_more n all number (length all) kept l h)

pub eliminated_ends : (n : ℕ) (all : List Linear) (rows : List Linear) (number : ℕ) (kept final : Kept)
    → number + length rows ≡ length all → ((k : ℕ) → k < length rows → linear_at all (number + k) ≡ linear_at rows k)
    → ((k : ℕ) → k < length rows → length (linear_at rows k).coef ≡ n) → Holds n all number kept
    → eliminated n kept number rows ≡ Ok final → Ends n all final
unfolding eliminated
eliminated_ends n all [] number kept final count same sizes h is =
    elim (if_done (nat_eq (length kept.rows) n) kept final (Err (NotUnique (length kept.rows))) is) [
      | inl e ↦ done_ends n all number kept final e.0 e.1 (omega (arith, count)) h
      | inr e ↦ absurd (search (rules, e.1))
    ]
eliminated_ends n all (r ∷ rows) number kept final count same sizes h is =
    elim (if_done (nat_eq (length kept.rows) n) kept final
    (then_on (λ more. eliminated n more (suc number) rows)
    (ok_or (kept_after kept number r.coef) (TooLarge number))) is) [
      | inl e ↦ done_ends n all number kept final e.0 e.1 (omega (arith, count)) h
      | inr e ↦
          let (more, taken, rest) = then_on_is (λ more. eliminated n more (suc number) rows)
          (ok_or (kept_after kept number r.coef) (TooLarge number)) final e.1 in
          let other : length kept.rows ≢ n = not_same (length kept.rows) n e.0 in
          let here : linear_at all number ≡ r =
          ap (linear_at all) (omega arith) ∙ same 0 (omega arith) in
          let next = holds_after n all number kept more r.coef h (omega (arith, h.most, other))
          (ap (λ l. l.coef) (sym here))
          (sizes 0 (omega arith)) (some_of (kept_after kept number r.coef) (TooLarge number) more taken) in
          eliminated_ends n all rows (suc number) more final (omega (arith, count))
          (λ k l. ap (linear_at all) (omega arith) ∙ same (suc k) (omega arith)) (λ k l. sizes (suc k) (omega arith))
          next rest
    ]

pub nothing_holds : (n : ℕ) (all : List Linear) → Holds n all 0 nothing_kept
nothing_holds n all = record {
  most = omega arith;
  rising = tt;
  stands = record {
    numbers_count = refl;
    columns_count = refl;
    columns_in = λ i l. absurd (omega arith);
    rows = λ i l. absurd (omega arith);
    units = λ i j l b. absurd (omega arith);
    slots = λ i t l m b. absurd (omega arith);
  };
}
