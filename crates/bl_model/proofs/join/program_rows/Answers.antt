use Rattle.std.proofs.Common.{◌≡◌, ◌∙◌, ◌+◌, ◌∷◌, ◌<◌, ap, sym, arith, length, map, List, drop}
use Rattle.std.specs.Prelude.{ℤ}
use Rattle.std.proofs.lemmas.List.{drop_more}
use Rattle.std.proofs.lemmas.List.Elements.{All-same}
use Rattle.std.proofs.lemmas.List.FromFn.{length-map-range_with_len}
use Rattle.bl_whole.specs.Sums.{component}
use Rattle.bl_raw.specs.declared.raw.RawRow.{RawRow}
use Rattle.bl_raw.specs.Raw.{IsSmall}
use Rattle.bl_model.specs.Build.{coefficients}
use Rattle.bl_terms.specs.Points.{is_among}
use Rattle.bl_model.proofs.BuildLemmas.{coefficients_read, IsSmall-coefficients, rows_from_step, mark_at}
use Rattle.bl_model.proofs.join.program_rows.Goals as goal

pub index-requires : goal.index-requires
index-requires c = omega (
  arith,
  ap length c.in_ok-lower.ensures,
  length-map-range_with_len (λ k. is_among k c.args.lower_rows.now) 0 (length c.args.text_rows.now),
)

pub push_sides-requires-clause-coef : goal.push_sides-requires-clause-coef
push_sides-requires-clause-coef c =
    let columns = c.args.columns.now in
    let count = length c.args.text_rows.now in
    let below : c.loop-at.at < count = omega arith in
    let read : c.in_ok-coef.coef.items ≡ map (λ numbers. component numbers c.loop-at.at) c.in_ok-dense.dense.items =
    c.in_ok-coef.ensures ∙ ap (map (λ (numbers : List ℤ). component numbers c.loop-at.at)) c.deref.ensures.value in
    let coef : c.deref-in-loop-at.result.now ≡ coefficients columns c.loop-at.at =
    c.deref-in-loop-at.ensures.value
    ∙ coefficients_read columns count c.loop-at.at c.in_ok-dense.dense.items c.in_ok-coef.coef.items below
    c.in_ok-dense.ensures read in
    All-same IsSmall _ _ coef (IsSmall-coefficients columns count c.loop-at.at c.requires.columns)

pub loop-at-preserved : goal.loop-at-preserved
loop-at-preserved c =
    let columns = c.args.columns.now in
    let rows = c.args.text_rows.now in
    let at = c.loop-at.at in
    let below : at < length rows = omega arith in
    let read : c.in_ok-coef.coef.items ≡ map (λ numbers. component numbers at) c.in_ok-dense.dense.items =
    c.in_ok-coef.ensures ∙ ap (map (λ (numbers : List ℤ). component numbers at)) c.deref.ensures.value in
    let coef : c.deref-in-loop-at.result.now ≡ coefficients columns at =
    c.deref-in-loop-at.ensures.value
    ∙ coefficients_read columns
    (length rows) at c.in_ok-dense.dense.items c.in_ok-coef.coef.items below c.in_ok-dense.ensures read in
    let mark : c.index.result.now ≡ is_among at c.args.lower_rows.now =
    c.index.ensures ∙ mark_at c.args.lower_rows.now
    (length rows) at c.in_ok-lower.lower.items _ c.in_ok-lower.ensures below in
    rows_from_step columns c.args.lower_rows.now at c.index-text_rows-at.result (drop at rows)
    (drop (at + 1) rows) c.loop-at.rows.items c.push_sides.new.rows.items _ _ _ c.loop-at.invariant
    (drop_more rows at c.index-text_rows-at.result below
    ∙ ap (λ (r : RawRow). r ∷ drop (at + 1) rows) (sym c.index-text_rows-at.is)) coef mark
    c.in_ok-push_sides.ensures
