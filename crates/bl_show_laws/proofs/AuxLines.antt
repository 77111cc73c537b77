-- The lines of a canonical auxiliary text, none of which is that of the linking columns, and its size.
use Rattle.std.proofs.Common.{◌≡◌, ℕ, suc, ◌+◌, ◌*◌, ◌<◌, ◌≤◌, false, List, [], ◌∷◌}
use Rattle.std.proofs.Common.{◌++◌, length, map, ℤ, pos, negsuc, refl, arith, codes}
use Rattle.std.proofs.Common.{length-append, inl, inr}
use Rattle.std.specs.Fmt.{signed_decimal}
use Rattle.std.specs.List.{All, AllByRecursion}
use Rattle.std.proofs.lemmas.Fmt.{length_signed_le}
use Rattle.std.proofs.lemmas.List.{length-map}
use Rattle.std.proofs.lemmas.List.Elements.{recursion_from_All}
use Rattle.bl_limits.specs.declared.TheConstants.{MAX_NUMBER, MAX_TEXT_BYTES, MAX_COLUMNS, MAX_TEXT_ROWS}
use Rattle.bl_raw.specs.declared.raw.RawAux.{RawAux}
use Rattle.bl_raw.specs.Raw.{IsSmall, IsSense, FitsModel}
use Rattle.bl_text.specs.Lines.{IsLine}
use Rattle.bl_aux.specs.declared.keys.Key.{Key}
use Rattle.bl_aux.specs.declared.keys.Key.TheVariants.{N, M, Lc, Lr, Lo, Os}
use Rattle.bl_aux.specs.Canonical.{aux_text, number_line, number_lines}
use Rattle.bl_aux.proofs.CanonicalLines.{line_of, line-of}
use Rattle.bl_aux.proofs.Canonicals.{canonical_lines, few_places}
use Rattle.bl_mps_terms.specs.Words.{Bytes}
use Rattle.bl_mps_laws.proofs.LineRules.{all_append}
use Rattle.bl_show_laws.specs.ShowsBack.{is_links}

-- ---- small numbers

places_small : (limit : ℕ) (places : List ℕ) → limit ≤ MAX_NUMBER → All (λ p. p < limit) places
    → AllByRecursion IsSmall (map pos places)
places_small limit [] le h = tt
places_small limit (p ∷ places) le h =
    let below = h 0 p (omega arith) in
    (omega (arith, below, le), places_small limit places le (λ k d lt. h (suc k) d (omega arith)))

sense_small : (z : ℤ) → IsSense z → IsSmall z
sense_small z (inl e) = rw e (omega arith)
sense_small z (inr e) = rw e (omega arith)

-- the numbers of a follower are small, and few
pub record IsShort (aux : RawAux) : Type 0 where
  pub columns : AllByRecursion IsSmall (map pos aux.columns)
  pub rows : AllByRecursion IsSmall (map pos aux.rows)
  pub costs : AllByRecursion IsSmall aux.costs
  pub sense : IsSmall aux.sense
  pub column_count : length aux.columns ≤ MAX_COLUMNS
  pub row_count : length aux.rows ≤ MAX_TEXT_ROWS
  pub cost_count : length aux.costs ≤ MAX_COLUMNS

pub short_follower : (columns rows : ℕ) (aux : RawAux) → columns ≤ MAX_COLUMNS → rows ≤ MAX_TEXT_ROWS
    → FitsModel columns rows aux → IsShort aux
short_follower columns rows aux c r h =
    let few_columns = few_places aux.columns columns h.columns h.distinct_columns in
    let few_rows = few_places aux.rows rows h.rows h.distinct_rows in
    record {
      columns = places_small columns aux.columns (omega (arith, c)) h.columns;
      rows = places_small rows aux.rows (omega (arith, r)) h.rows;
      costs = recursion_from_All IsSmall aux.costs h.costs;
      sense = sense_small aux.sense h.sense;
      column_count = omega (arith, c, few_columns);
      row_count = omega (arith, r, few_rows);
      cost_count = omega (arith, c, few_columns, h.cost_count);
    }

-- ---- each line

-- a line that isn't one of the linking columns
abbrev pub IsKeyLine : Bytes → Type 0
IsKeyLine line = IsLine line × (is_links line ≡ false)

unlinked : (key : Key) (z : ℤ) → is_links (line_of key z) ≡ false
unlinked N z = refl
unlinked M z = refl
unlinked Lc z = refl
unlinked Lr z = refl
unlinked Lo z = refl
unlinked Os z = refl

key_line : (key : Key) (z : ℤ) → IsSmall z → IsKeyLine (line_of key z)
key_line key z small = (line-of key z (omega (arith, small)), unlinked key z)

key_lines : (key : Key) (numbers : List ℤ) → AllByRecursion IsSmall numbers
    → AllByRecursion IsKeyLine (map (line_of key) numbers)
key_lines key [] h = tt
key_lines key (z ∷ numbers) h = (key_line key z h.0, key_lines key numbers h.1)

-- No line is that of the linking columns.
pub aux_key_lines : (aux : RawAux) → IsShort aux → AllByRecursion IsKeyLine (canonical_lines aux)
unfolding canonical_lines
aux_key_lines aux h =
    let columns : IsSmall (pos (length aux.columns)) = omega (arith, h.column_count) in
    let rows : IsSmall (pos (length aux.rows)) = omega (arith, h.row_count) in (
      key_line N (pos (length aux.columns)) columns,
      (
        key_line M (pos (length aux.rows)) rows,
        all_append IsKeyLine (map (line_of Lc) (map pos aux.columns)) _ (key_lines Lc (map pos aux.columns) h.columns)
            (all_append IsKeyLine (map (line_of Lr) (map pos aux.rows)) _ (key_lines Lr (map pos aux.rows) h.rows)
            (all_append IsKeyLine (map (line_of Lo) aux.costs) _ (key_lines Lo aux.costs h.costs)
            (key_line Os aux.sense h.sense, tt))),
      ),
    )

-- ---- the size

number_length : (z : ℤ) → IsSmall z → length (signed_decimal z) ≤ 9
number_length (pos n) small = length_signed_le 8 (pos n) (omega (arith, small)) (omega (arith, small))
number_length (negsuc n) small = length_signed_le 8 (negsuc n) (omega (arith, small)) (omega (arith, small))

line_length : (key : Bytes) (z : ℤ) → length key ≤ 2 → IsSmall z → length (number_line key z) ≤ 13
line_length key z few small =
    omega (
      arith,
      few,
      number_length z small,
      length-append key (32 ∷ (signed_decimal z ++ 10 ∷ [])),
      length-append (signed_decimal z) (10 ∷ []),
    )

lines_length : (key : Bytes) (numbers : List ℤ) → length key ≤ 2 → AllByRecursion IsSmall numbers
    → length (number_lines key numbers) ≤ 13 * length numbers
lines_length key [] few h = omega arith
lines_length key (z ∷ numbers) few h =
    omega (
      arith,
      line_length key z few h.0,
      lines_length key numbers few h.1,
      length-append (number_line key z) (number_lines key numbers),
    )

six_lengths : (a b x y z c : Bytes)
    → length (a ++ b ++ x ++ y ++ z ++ c) ≡ length a + length b + length x + length y + length z + length c
six_lengths a b x y z c = simp length-append

-- The text isn't too long.
pub aux_text_short : (aux : RawAux) → IsShort aux → length (aux_text aux) ≤ MAX_TEXT_BYTES
unfolding aux_text
aux_text_short aux h =
    let columns : IsSmall (pos (length aux.columns)) = omega (arith, h.column_count) in
    let rows : IsSmall (pos (length aux.rows)) = omega (arith, h.row_count) in
    let n = line_length (codes "N") (pos (length aux.columns)) (omega arith) columns in
    let m = line_length (codes "M") (pos (length aux.rows)) (omega arith) rows in
    let s = line_length (codes "OS") aux.sense (omega arith) h.sense in
    let lc = lines_length (codes "LC") (map pos aux.columns) (omega arith) h.columns in
    let lr = lines_length (codes "LR") (map pos aux.rows) (omega arith) h.rows in
    let lo = lines_length (codes "LO") aux.costs (omega arith) h.costs in
    omega (
      arith,
      six_lengths (number_line (codes "N") (pos (length aux.columns))) (number_line (codes "M") (pos (length aux.rows)))
          (number_lines (codes "LC") (map pos aux.columns)) (number_lines (codes "LR") (map pos aux.rows))
          (number_lines (codes "LO") aux.costs) (number_line (codes "OS") aux.sense),
      n,
      m,
      s,
      lc,
      lr,
      lo,
      h.column_count,
      h.row_count,
      h.cost_count,
      length-map aux.columns pos,
      length-map aux.rows pos,
    )
