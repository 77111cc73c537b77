-- A canonical text reads back.
use Rattle.std.proofs.Common.{◌≡◌, ◌≢◌, ℕ, zero, suc, ◌+◌, ◌^◌, ◌<◌, ◌≤◌, Bool, true, false, cond, eqb, ltb, nat_eq}
use Rattle.std.proofs.Common.{List, [], ◌∷◌, ◌++◌, length, get_or, map, Option, Some, None, Ok, Err, Result, refl, sym}
use Rattle.std.proofs.Common.{ap, subst, ◌∙◌, arith, ℤ, pos, negsuc, codes, unsigned_abs, append_assoc, length-append}
use Rattle.std.proofs.Common.{inl, inr}
use Rattle.std.specs.List.{flat_map, list_any, All, AllByRecursion, IsDistinct}
use Rattle.std.specs.Ordering.{int_eq}
use Rattle.std.proofs.lemmas.Bool.{lt-ltb, le-ltb, eqb-true, ne_eqb}
use Rattle.std.proofs.lemmas.List.Folds.{Any-from_list_any}
use Rattle.std.proofs.lemmas.Map.Steps.{length-le_from_distinct_below}
use Rattle.std.proofs.Math.Seq.{get_or-append_seam}
use Rattle.std.proofs.lemmas.Grind.{flat_map-append}
use Rattle.std.proofs.lemmas.List.{append-nil, length-map, map_push, get_or_append_left}
use Rattle.std.proofs.lemmas.List.Elements.{recursion_from_All}
use Rattle.bl_limits.specs.declared.TheConstants.{MAX_WHOLE, MAX_NUMBER, MAX_TEXT_BYTES}
use Rattle.bl_text.specs.Lines.{ended, IsLine, lines_of}
use Rattle.bl_text.specs.Fields.{fields_of}
use Rattle.bl_text.proofs.LineLaws.{has_its_lines}
use Rattle.bl_raw.specs.declared.raw.RawAux.{RawAux}
use Rattle.bl_raw.specs.Raw.{IsSmall, IsSense, FitsModel, AreDistinct}
use Rattle.bl_aux.specs.declared.keys.Key.{Key}
use Rattle.bl_aux.specs.declared.keys.Key.TheVariants.{N, M, Lc, Lr, Lo, Os}
use Rattle.bl_aux.specs.declared.fault.AuxFault.{AuxFault}
use Rattle.bl_aux.specs.declared.fault.AuxRule.{AuxRule}
use Rattle.bl_aux.specs.Lines.{is_large}
use Rattle.bl_aux.specs.Given.{Given, Sizes, is_below, bad_index, index_rule, sense_rule, entry_rule, entries_of}
use Rattle.bl_aux.specs.Given.{given_by}
use Rattle.bl_aux.specs.Texts.{CountsAgree, IsGiven, Says, sense_of}
use Rattle.bl_aux.specs.Canonical.{aux_text, number_line, number_lines}
use Rattle.bl_aux.specs.Laws.{ReadsBack}
use Rattle.bl_aux.specs.Drafts.{Holding, IsHeld, with_entry, entered, after_line, after_lines, on_line}
use Rattle.bl_aux.proofs.PlaceLaws.{int_eq-pos, int_eq-other}
use Rattle.bl_aux.proofs.FaultLaws.{held_after}
use Rattle.bl_aux.proofs.CanonicalLines.{word_of, line_of, number_line-ended, number_lines-ended, line-of, line_said-of}

-- ---- what is held while the text is read

abbrev given_at : List ℤ → List ℤ → List ℤ → List ℤ → List ℤ → List ℤ → Given
given_at n m columns rows costs senses = record {
  column_counts = n;
  row_counts = m;
  columns = columns;
  rows = rows;
  costs = costs;
  senses = senses;
}

abbrev at : Sizes → Given → Holding
at sizes given = record { sizes = sizes; given = given }

-- one more canonical line
step : (held : Holding) (key : Key) (z : ℤ) (number : ℕ) (lines : List (List ℕ)) → unsigned_abs z ≤ MAX_WHOLE
    → is_large key z ≡ false → entry_rule held.sizes held.given (record { key = key; number = z }) ≡ None
    → after_lines held number (line_of key z ∷ lines)
    ≡ after_lines (with_entry held (record { key = key; number = z })) (number + 1) lines
unfolding after_lines
step held key z number lines le small fine =
    let read : after_line held (line_of key z) ≡ Ok (with_entry held (record { key = key; number = z })) =
    ap (entered held) (line_said-of key z le small) ∙ rw fine refl in
    ap (λ (r : Result Holding AuxRule). on_line r number (λ h. after_lines h (number + 1) lines)) read

-- ---- places

pos-same : (x p : ℕ) → pos x ≡ pos p → x ≡ p
pos-same x p e = cc

none-equal : (before : List ℕ) (p : ℕ) → ((k : ℕ) → k < length before → get_or before k 0 ≢ p)
    → list_any (λ other. int_eq other (pos p)) (map pos before) ≡ false
none-equal [] p h = refl
none-equal (x ∷ xs) p h =
    let other : int_eq (pos x) (pos p) ≡ false =
    int_eq-other (pos x) (pos p) (λ e. h 0 (omega arith) (pos-same x p e)) (int_eq (pos x) (pos p)) refl in
    rw other (none-equal xs p (λ k lt. h (suc k) (omega arith)))

index-fine : (limit : ℕ) (before : List ℕ) (p : ℕ) → p < limit → ((k : ℕ) → k < length before → get_or before k 0 ≢ p)
    → index_rule limit (map pos before) (pos p) ≡ None
index-fine limit before p lt h = rw (none-equal before p h, lt-ltb p limit lt) refl

-- places that may still be given behind those that are
record MayFollow (limit : ℕ) (before more : List ℕ) : Type 0 where
  below : All (λ p. p < limit) more
  distinct : AreDistinct (before ++ more)

follows-first : (limit : ℕ) (before : List ℕ) (p : ℕ) (more : List ℕ) → MayFollow limit before (p ∷ more) → (k : ℕ)
    → k < length before → get_or before k 0 ≢ p
follows-first limit before p more f k lt same =
    f.distinct k (length before) 0 lt (omega (arith, length-append before (p ∷ more)))
    (get_or_append_left before (p ∷ more) 0 k lt ∙ same ∙ sym (get_or-append_seam before p more 0))

follows-rest : (limit : ℕ) (before : List ℕ) (p : ℕ) (more : List ℕ) → MayFollow limit before (p ∷ more)
    → MayFollow limit (before ++ p ∷ []) more
follows-rest limit before p more f = record {
  below = λ k d lt. f.below (suc k) d (omega arith);
  distinct = subst AreDistinct (sym (append_assoc before (p ∷ []) more)) f.distinct;
}

small-place : (limit p : ℕ) → limit ≤ MAX_WHOLE → p < limit → p ≤ MAX_WHOLE
small-place limit p le lt = omega (arith, le, lt)

one-more : (number count : ℕ) → number + 1 + count ≡ number + suc count
one-more number count = omega arith

columns-fine : (sizes : Sizes) (n m : ℤ) (before : List ℕ) (p : ℕ)
    → index_rule sizes.columns (map pos before) (pos p) ≡ None
    → entry_rule sizes (given_at (n ∷ []) (m ∷ []) (map pos before) [] [] []) (record { key = Lc; number = pos p })
    ≡ None
unfolding entry_rule
columns-fine sizes n m before p e = e

rows-fine : (sizes : Sizes) (n m : ℤ) (columns : List ℤ) (before : List ℕ) (p : ℕ)
    → index_rule sizes.rows (map pos before) (pos p) ≡ None
    → entry_rule sizes (given_at (n ∷ []) (m ∷ []) columns (map pos before) [] [])
    (record { key = Lr; number = pos p }) ≡ None
unfolding entry_rule
rows-fine sizes n m columns before p e = e

costs-fine : (sizes : Sizes) (n m : ℤ) (columns rows before : List ℤ) (z : ℤ)
    → entry_rule sizes (given_at (n ∷ []) (m ∷ []) columns rows before []) (record { key = Lo; number = z }) ≡ None
unfolding entry_rule
costs-fine sizes n m columns rows before z = refl

not-large : (z : ℤ) → unsigned_abs z ≤ MAX_NUMBER → is_large Lo z ≡ false
not-large z le = le-ltb MAX_NUMBER (unsigned_abs z) le

count-fine : (sizes : Sizes) (n : ℕ) → n ≤ sizes.columns
    → entry_rule sizes (given_by []) (record { key = N; number = pos n }) ≡ None
unfolding entry_rule
count-fine sizes n le = ap (λ (b : Bool). bad_index b) (lt-ltb n (sizes.columns + 1) (omega (arith, le)))

rows_count-fine : (sizes : Sizes) (n : ℤ) (m : ℕ) → m ≤ sizes.rows
    → entry_rule sizes (given_at (n ∷ []) [] [] [] [] []) (record { key = M; number = pos m }) ≡ None
unfolding entry_rule
rows_count-fine sizes n m le = ap (λ (b : Bool). bad_index b) (lt-ltb m (sizes.rows + 1) (omega (arith, le)))

sense-small : (z : ℤ) → IsSense z → unsigned_abs z ≤ MAX_WHOLE
sense-small z (inl e) = rw e (omega arith)
sense-small z (inr e) = rw e (omega arith)

sense-fine : (sizes : Sizes) (n m : ℤ) (columns rows costs : List ℤ) (z : ℤ) → IsSense z
    → entry_rule sizes (given_at (n ∷ []) (m ∷ []) columns rows costs []) (record { key = Os; number = z }) ≡ None
unfolding entry_rule
sense-fine sizes n m columns rows costs z (inl e) = rw e refl
sense-fine sizes n m columns rows costs z (inr e) = rw e refl

nothing-left : (held : Holding) (number : ℕ) → after_lines held number [] ≡ Ok held
unfolding after_lines
nothing-left held number = refl

distinct_by_test : (xs : List ℕ) → AreDistinct xs → IsDistinct eqb xs
unfolding IsDistinct
distinct_by_test [] h = tt
distinct_by_test (x ∷ xs) h = (
  recursion_from_All (λ y. eqb x y ≡ false) xs
      (λ k d lt. ne_eqb x (get_or xs k d) (h 0 (suc k) d (omega arith) (omega arith))),
  distinct_by_test xs (λ i j d lt within. h (suc i) (suc j) d (omega arith) (omega arith)),
)

-- no more distinct places are below a limit than it says
pub few_places : (xs : List ℕ) (limit : ℕ) → All (λ x. x < limit) xs → AreDistinct xs → length xs ≤ limit
few_places xs limit below distinct =
    length-le_from_distinct_below xs limit (distinct_by_test xs distinct)
    (λ q member.
    let (k, x, within, at, found) = Any-from_list_any (eqb q) xs member in
    let same : q ≡ x = eqb-true q x found in
    omega (arith, below k x within, at, same))

columns-read : (sizes : Sizes) (n m : ℤ) (before more : List ℕ) (number : ℕ) (lines : List (List ℕ))
    → sizes.columns ≤ MAX_WHOLE → MayFollow sizes.columns before more
    → after_lines (at sizes (given_at (n ∷ []) (m ∷ []) (map pos before) [] [] [])) number
    (map (line_of Lc) (map pos more) ++ lines)
    ≡ after_lines (at sizes (given_at (n ∷ []) (m ∷ []) (map pos (before ++ more)) [] [] []))
    (number + length more) lines
columns-read sizes n m before [] number lines le f =
    ap (λ (ps : List ℕ). after_lines (at sizes (given_at (n ∷ []) (m ∷ []) (map pos ps) [] [] [])) number lines)
    (sym (append-nil before))
    ∙ ap (λ (k : ℕ). after_lines (at sizes (given_at (n ∷ []) (m ∷ []) (map pos (before ++ [])) [] [] [])) k lines)
    (omega arith)
columns-read sizes n m before (p ∷ more) number lines le f =
    step (at sizes (given_at (n ∷ []) (m ∷ []) (map pos before) [] [] [])) Lc (pos p) number
    (map (line_of Lc) (map pos more) ++ lines)
    (small-place sizes.columns p le (f.below 0 0 (omega arith))) refl
    (columns-fine sizes n m before p
    (index-fine sizes.columns before p (f.below 0 0 (omega arith)) (follows-first sizes.columns before p more f)))
    ∙ ap (λ (zs : List ℤ). after_lines (at sizes (given_at (n ∷ []) (m ∷ []) zs [] [] [])) (number + 1)
    (map (line_of Lc) (map pos more) ++ lines)) (sym (map_push pos before p))
    ∙ columns-read sizes n m (before ++ p ∷ []) more (number + 1) lines le (follows-rest sizes.columns before p more f)
    ∙ ap (λ (ps : List ℕ). after_lines (at sizes (given_at (n ∷ []) (m ∷ []) (map pos ps) [] [] []))
    (number + 1 + length more) lines) (append_assoc before (p ∷ []) more)
    ∙ ap (λ (k : ℕ). after_lines
    (at sizes (given_at (n ∷ []) (m ∷ []) (map pos (before ++ p ∷ more)) [] [] [])) k lines)
    (one-more number (length more))

rows-read : (sizes : Sizes) (n m : ℤ) (columns : List ℤ) (before more : List ℕ) (number : ℕ) (lines : List (List ℕ))
    → sizes.rows ≤ MAX_WHOLE → MayFollow sizes.rows before more
    → after_lines (at sizes (given_at (n ∷ []) (m ∷ []) columns (map pos before) [] [])) number
    (map (line_of Lr) (map pos more) ++ lines)
    ≡ after_lines (at sizes (given_at (n ∷ []) (m ∷ []) columns (map pos (before ++ more)) [] []))
    (number + length more) lines
rows-read sizes n m columns before [] number lines le f =
    ap (λ (ps : List ℕ). after_lines (at sizes (given_at (n ∷ []) (m ∷ []) columns (map pos ps) [] [])) number lines)
    (sym (append-nil before))
    ∙ ap (λ (k : ℕ). after_lines
    (at sizes (given_at (n ∷ []) (m ∷ []) columns (map pos (before ++ [])) [] [])) k lines) (omega arith)
rows-read sizes n m columns before (p ∷ more) number lines le f =
    step (at sizes (given_at (n ∷ []) (m ∷ []) columns (map pos before) [] [])) Lr (pos p) number
    (map (line_of Lr) (map pos more) ++ lines)
    (small-place sizes.rows p le (f.below 0 0 (omega arith))) refl
    (rows-fine sizes n m columns before p
    (index-fine sizes.rows before p (f.below 0 0 (omega arith)) (follows-first sizes.rows before p more f)))
    ∙ ap (λ (zs : List ℤ). after_lines (at sizes (given_at (n ∷ []) (m ∷ []) columns zs [] [])) (number + 1)
    (map (line_of Lr) (map pos more) ++ lines)) (sym (map_push pos before p))
    ∙ rows-read sizes n m columns (before ++ p ∷ []) more (number + 1) lines le
    (follows-rest sizes.rows before p more f)
    ∙ ap (λ (ps : List ℕ). after_lines (at sizes (given_at (n ∷ []) (m ∷ []) columns (map pos ps) [] []))
    (number + 1 + length more) lines) (append_assoc before (p ∷ []) more)
    ∙ ap (λ (k : ℕ). after_lines
    (at sizes (given_at (n ∷ []) (m ∷ []) columns (map pos (before ++ p ∷ more)) [] [])) k lines)
    (one-more number (length more))

costs-read : (sizes : Sizes) (n m : ℤ) (columns rows before more : List ℤ) (number : ℕ) (lines : List (List ℕ))
    → All IsSmall more → after_lines (at sizes (given_at (n ∷ []) (m ∷ []) columns rows before [])) number
    (map (line_of Lo) more ++ lines)
    ≡ after_lines (at sizes (given_at (n ∷ []) (m ∷ []) columns rows (before ++ more) [])) (number + length more) lines
costs-read sizes n m columns rows before [] number lines h =
    ap (λ (zs : List ℤ). after_lines (at sizes (given_at (n ∷ []) (m ∷ []) columns rows zs [])) number lines)
    (sym (append-nil before))
    ∙ ap (λ (k : ℕ). after_lines (at sizes (given_at (n ∷ []) (m ∷ []) columns rows (before ++ []) [])) k lines)
    (omega arith)
costs-read sizes n m columns rows before (z ∷ more) number lines h =
    let small : unsigned_abs z ≤ MAX_NUMBER = h 0 z (omega arith) in
    step (at sizes (given_at (n ∷ []) (m ∷ []) columns rows before [])) Lo z number (map (line_of Lo) more ++ lines)
    (omega (arith, small)) (not-large z small) (costs-fine sizes n m columns rows before z)
    ∙ costs-read sizes n m columns rows (before ++ z ∷ []) more (number + 1) lines (λ k d lt. h (suc k) d (omega arith))
    ∙ ap (λ (zs : List ℤ). after_lines (at sizes (given_at (n ∷ []) (m ∷ []) columns rows zs []))
    (number + 1 + length more) lines) (append_assoc before (z ∷ []) more)
    ∙ ap (λ (k : ℕ). after_lines (at sizes (given_at (n ∷ []) (m ∷ []) columns rows (before ++ z ∷ more) [])) k lines)
    (one-more number (length more))

-- ---- the whole text

-- the lines of a follower's canonical text
unfoldable pub canonical_lines : RawAux → List (List ℕ)
canonical_lines aux =
    line_of N (pos (length aux.columns)) ∷ line_of M (pos (length aux.rows))
    ∷ (map (line_of Lc) (map pos aux.columns)
    ++ (map (line_of Lr) (map pos aux.rows) ++ (map (line_of Lo) aux.costs ++ line_of Os aux.sense ∷ [])))

abbrev whole : RawAux → Given
whole aux = given_at (pos (length aux.columns) ∷ []) (pos (length aux.rows) ∷ []) (map pos aux.columns)
    (map pos aux.rows) aux.costs (aux.sense ∷ [])

all-read : (sizes : Sizes) (aux : RawAux) → sizes.columns ≤ MAX_WHOLE → sizes.rows ≤ MAX_WHOLE
    → FitsModel sizes.columns sizes.rows aux
    → after_lines (at sizes (given_by [])) 1 (canonical_lines aux) ≡ Ok (at sizes (whole aux))
unfolding canonical_lines
all-read sizes aux few_columns few_rows fits =
    let n = pos (length aux.columns) in
    let m = pos (length aux.rows) in
    let n_few = few_places aux.columns sizes.columns fits.columns fits.distinct_columns in
    let m_few = few_places aux.rows sizes.rows fits.rows fits.distinct_rows in
    let last = line_of Os aux.sense ∷ [] in
    let costs = map (line_of Lo) aux.costs ++ last in
    let rows = map (line_of Lr) (map pos aux.rows) ++ costs in
    let columns = map (line_of Lc) (map pos aux.columns) ++ rows in
    step (at sizes (given_by [])) N n 1 (line_of M m ∷ columns) (omega (arith, n_few)) refl
    (count-fine sizes (length aux.columns) n_few)
    ∙ step (at sizes (given_at (n ∷ []) [] [] [] [] [])) M m (1 + 1) columns (omega (arith, m_few)) refl
    (rows_count-fine sizes n (length aux.rows) m_few)
    ∙ columns-read sizes n m [] aux.columns (1 + 1 + 1) rows few_columns
    (record { below = fits.columns; distinct = fits.distinct_columns })
    ∙ rows-read sizes n m (map pos aux.columns) [] aux.rows (1 + 1 + 1 + length aux.columns) costs few_rows
    (record { below = fits.rows; distinct = fits.distinct_rows })
    ∙ costs-read sizes n m (map pos aux.columns) (map pos aux.rows) [] aux.costs
    (1 + 1 + 1 + length aux.columns + length aux.rows) last fits.costs
    ∙ step (at sizes (given_at (n ∷ []) (m ∷ []) (map pos aux.columns) (map pos aux.rows) aux.costs [])) Os aux.sense
    (1 + 1 + 1 + length aux.columns + length aux.rows + length aux.costs) []
    (sense-small aux.sense fits.sense) refl
    (sense-fine sizes n m (map pos aux.columns) (map pos aux.rows) aux.costs aux.sense fits.sense)
    ∙ nothing-left (at sizes (whole aux)) (1 + 1 + 1 + length aux.columns + length aux.rows + length aux.costs + 1)

assoc_six : (a b x y z c : List ℕ) → a ++ b ++ x ++ y ++ z ++ c ≡ a ++ (b ++ (x ++ (y ++ (z ++ c))))
assoc_six a b x y z c = simp append_assoc

text_with : (xs more : List (List ℕ)) (text : List ℕ) → flat_map ended more ≡ text
    → flat_map ended (xs ++ more) ≡ flat_map ended xs ++ text
text_with xs more text e = flat_map-append ended xs more ∙ ap (λ (t : List ℕ). flat_map ended xs ++ t) e

joined : (a b : List ℕ) (xs ys zs : List (List ℕ)) (c : List ℕ)
    → ended a ++ ended b ++ flat_map ended xs ++ flat_map ended ys ++ flat_map ended zs ++ ended c
    ≡ flat_map ended (a ∷ b ∷ (xs ++ (ys ++ (zs ++ c ∷ []))))
joined a b xs ys zs c =
    assoc_six (ended a) (ended b) (flat_map ended xs) (flat_map ended ys) (flat_map ended zs) (ended c)
    ∙ ap (λ (t : List ℕ). ended a ++ (ended b ++ t))
    (sym (text_with xs _ _ (text_with ys _ _ (text_with zs (c ∷ []) (ended c) (append-nil (ended c))))))

pub lines-whole : (aux : RawAux) → aux_text aux ≡ flat_map ended (canonical_lines aux)
unfolding aux_text canonical_lines
lines-whole aux =
    rw (
      number_lines-ended Lc (map pos aux.columns),
      number_lines-ended Lr (map pos aux.rows),
      number_lines-ended Lo aux.costs,
    )
    (joined (line_of N (pos (length aux.columns))) (line_of M (pos (length aux.rows)))
    (map (line_of Lc) (map pos aux.columns)) (map (line_of Lr) (map pos aux.rows)) (map (line_of Lo) aux.costs)
    (line_of Os aux.sense))

place-lines : (key : Key) (limit : ℕ) (places : List ℕ) → limit ≤ MAX_WHOLE → All (λ p. p < limit) places
    → AllByRecursion IsLine (map (line_of key) (map pos places))
place-lines key limit [] le h = tt
place-lines key limit (p ∷ ps) le h = (
  line-of key (pos p) (small-place limit p le (h 0 0 (omega arith))),
  place-lines key limit ps le (λ k d lt. h (suc k) d (omega arith)),
)

cost-lines : (costs : List ℤ) → All IsSmall costs → AllByRecursion IsLine (map (line_of Lo) costs)
cost-lines [] h = tt
cost-lines (z ∷ zs) h =
    let small : unsigned_abs z ≤ MAX_NUMBER = h 0 z (omega arith) in
    (line-of Lo z (omega (arith, small)), cost-lines zs (λ k d lt. h (suc k) d (omega arith)))

each-append : (xs ys : List (List ℕ)) → AllByRecursion IsLine xs → AllByRecursion IsLine ys
    → AllByRecursion IsLine (xs ++ ys)
each-append [] ys h k = k
each-append (x ∷ xs) ys h k = (h.0, each-append xs ys h.1 k)

are-lines : (sizes : Sizes) (aux : RawAux) → sizes.columns ≤ MAX_WHOLE → sizes.rows ≤ MAX_WHOLE
    → FitsModel sizes.columns sizes.rows aux → AllByRecursion IsLine (canonical_lines aux)
unfolding canonical_lines
are-lines sizes aux few_columns few_rows fits =
    let n_few = few_places aux.columns sizes.columns fits.columns fits.distinct_columns in
    let m_few = few_places aux.rows sizes.rows fits.rows fits.distinct_rows in (
      line-of N (pos (length aux.columns)) (omega (arith, n_few)),
      (
        line-of M (pos (length aux.rows)) (omega (arith, m_few)),
        each-append _ _ (place-lines Lc sizes.columns aux.columns few_columns fits.columns)
            (each-append _ _ (place-lines Lr sizes.rows aux.rows few_rows fits.rows)
            (each-append _ _ (cost-lines aux.costs fits.costs)
            (line-of Os aux.sense (sense-small aux.sense fits.sense), tt))),
      ),
    )

lines_of-text : (aux : RawAux) → AllByRecursion IsLine (canonical_lines aux)
    → lines_of (aux_text aux) ≡ canonical_lines aux
lines_of-text aux h =
    ap lines_of (lines-whole aux ∙ sym (append-nil (flat_map ended (canonical_lines aux))))
    ∙ has_its_lines.ended (canonical_lines aux) [] h
    ∙ append-nil (canonical_lines aux)

counts-agree : (aux : RawAux) → length aux.costs ≡ length aux.columns → CountsAgree (whole aux)
counts-agree aux e = record {
  columns = ap (λ (k : ℕ). pos k ∷ []) (sym (length-map aux.columns pos));
  rows = ap (λ (k : ℕ). pos k ∷ []) (sym (length-map aux.rows pos));
  costs = e ∙ sym (length-map aux.columns pos);
}

pub reads_back : ReadsBack
reads_back sizes aux columns rows fits short =
    let few_columns : sizes.columns ≤ MAX_WHOLE = omega (arith, columns) in
    let few_rows : sizes.rows ≤ MAX_WHOLE = omega (arith, rows) in
    let lines = lines_of-text aux (are-lines sizes aux few_columns few_rows fits) in
    let read : after_lines (at sizes (given_by [])) 1 (lines_of (aux_text aux)) ≡ Ok (at sizes (whole aux)) =
    ap (after_lines (at sizes (given_by [])) 1) lines ∙ all-read sizes aux few_columns few_rows fits in
    let held = held_after sizes (aux_text aux) (at sizes (whole aux)) read in
    record {
      short = short;
      kept = held.0;
      counts = subst CountsAgree held.1 (counts-agree aux fits.cost_count);
      given = subst (λ (given : Given). IsGiven given aux) held.1
          (record { columns = refl; rows = refl; costs = refl; sense = refl });
    }
