use Rattle.std.proofs.Common.{rules, ◌∙◌, pos, length, ap}
use Rattle.std.proofs.Common.{arith, FitsSigned, ◌+ℤ◌, ◌*ℤ◌, to_z, of_z, slice_index_or}
use Rattle.std.specs.Int.{w64, w128}
use Rattle.std.proofs.lemmas.Int.{to_z-of_z}
use Rattle.bl_whole.proofs.WithinLemmas.{within_entry}
use Rattle.bl_whole.specs.Sums.{component}
use Rattle.bl_terms.specs.Bounds.{linear_at}
use Rattle.bl_cut_proof.proofs.RowLemmas.{unit_term, term_column, term_fits, multiplier_small, unit_short}
use Rattle.bl_cut_proof.proofs.RowLemmas.{combined_more}
use Rattle.bl_cut_proof.proofs.sums.combined.Goals as goal

pub entry-entry-requires-clause-place : goal.entry-entry-requires-clause-place
entry-entry-requires-clause-place c =
    (unit_term 0 (length c.args.rows.now) c.args.unit.now c.loop-k.k (0, pos 0) c.requires.unit c.loop-k-test.true).0

pub entry-entry-requires-clause-column : goal.entry-entry-requires-clause-column
entry-entry-requires-clause-column c =
    term_column c.args.columns c.args.rows.now c.args.unit.now c.args.column c.loop-k.k c.requires.rows c.requires.unit
    c.loop-k-test.true c.requires.column

pub plus_widening_product-sum-requires : goal.plus_widening_product-sum-requires
plus_widening_product-sum-requires c =
    let rows = c.args.rows.now in
    let unit = c.args.unit.now in
    let k = c.loop-k.k in
    let mult : FitsSigned w64 (slice_index_or unit k (0, pos 0)).1 = search rules in
    let entry : FitsSigned w64 c.entry-entry.result = search rules in
    let short = unit_short (length rows) unit k c.requires.unit c.loop-k-test.true in
    let place = (unit_term 0 (length rows) unit k (0, pos 0) c.requires.unit c.loop-k-test.true).0 in
    rw (to_z-of_z w64 _ mult, to_z-of_z w64 _ entry, c.entry-entry.ensures)
    (term_fits k (to_z w128 c.loop-k.sum-bits) (slice_index_or unit k (0, pos 0)).1
    (component (linear_at rows (slice_index_or unit k (0, pos 0)).0).coef c.args.column)
    (omega (arith, short, c.requires.few)) c.loop-k.invariant.size
    (multiplier_small (length rows) unit k (0, pos 0) c.requires.unit c.loop-k-test.true)
    (within_entry (c.requires.rows.coefs (slice_index_or unit k (0, pos 0)).0 place) c.args.column))

pub loop-k-preserved : goal.loop-k-preserved
loop-k-preserved c =
    let rows = c.args.rows.now in
    let unit = c.args.unit.now in
    let k = c.loop-k.k in
    let s = to_z w128 c.loop-k.sum-bits in
    let result : FitsSigned w128 c.plus_widening_product-sum.result = search rules in
    let mult : FitsSigned w64 (slice_index_or unit k (0, pos 0)).1 = search rules in
    let entry : FitsSigned w64 c.entry-entry.result = search rules in
    let value = to_z-of_z w128 _ result ∙ c.plus_widening_product-sum.ensures
    ∙ ap (λ x. s +ℤ x *ℤ to_z w64 (of_z w64 c.entry-entry.result)) (to_z-of_z w64 _ mult)
    ∙ ap (λ y. s +ℤ (slice_index_or unit k (0, pos 0)).1 *ℤ y) (to_z-of_z w64 _ entry ∙ c.entry-entry.ensures) in
    let more = combined_more c.args.columns rows unit c.args.column k s _ c.requires.rows c.requires.unit
    c.loop-k-test.true c.loop-k.invariant.value c.loop-k.invariant.size value in
    record { value = more.0; size = more.1 }
