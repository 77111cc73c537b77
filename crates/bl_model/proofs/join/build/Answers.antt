use Rattle.std.proofs.Common.{◌≡◌, ◌∙◌, ap, sym, length, map, List, subst, rules}
use Rattle.std.specs.Prelude.{◌*ℤ◌}
use Rattle.std.specs.List.{All, range_with_len}
use Rattle.std.proofs.lemmas.Int.{to_z-of_z}
use Rattle.std.specs.Int.{w64}
use mir.Val.{to_z, of_z, SFits}
use Rattle.bl_terms.specs.Points.{is_among}
use Rattle.bl_terms.specs.Programs.{Row, is_linking, places_where}
use Rattle.bl_raw.specs.Raw.{IsSmall}
use Rattle.bl_raw.specs.declared.raw.RawColumn.{RawColumn}
use Rattle.bl_raw.specs.declared.raw.RawRow.{RawRow}
use Rattle.bl_model.specs.Build.{rows_from, number_for, follower_numbers, leader_sense_of, program_of}
use Rattle.bl_model.specs.View.{IsModel}
use Rattle.bl_model.proofs.JoinLemmas.{program_made}
use Rattle.bl_model.proofs.ProgramLemmas.{program_sound, program_limits}
use Rattle.bl_model.proofs.join.build.Goals as goal

-- the fields are those of the program
made : (c : goal.After-leader_sense) → record {
  lo = c.in_ok-lows.field-0.items;
  hi = c.in_ok-highs.field-0.items;
  rows = c.in_ok-rows.rows.items;
  cost = c.in_ok-costs.field-0.items;
  follower_cost = c.in_ok-follower_costs.field-0.items;
  follower = c.in_ok-follower_places.field-0.items;
  links = c.in_ok-links.links.items;
  sense = to_z w64 (of_z w64 c.args.aux.now.sense);
  leader_sense = to_z w64 (of_z w64 c.leader_sense.result);
} ≡ program_of c.args.mps.now c.args.aux.now
made c =
    let mps = c.args.mps.now in
    let aux = c.args.aux.now in
    let columns-are = c.as_slice-columns.ensures in
    let count-is : length c.as_slice-columns.result.now ≡ length mps.columns = ap length columns-are in
    program_made mps aux (record {
      lo = c.in_ok-lows.field-0.items;
      hi = c.in_ok-highs.field-0.items;
      rows = c.in_ok-rows.rows.items;
      cost = c.in_ok-costs.field-0.items;
      follower_cost = c.in_ok-follower_costs.field-0.items;
      follower = c.in_ok-follower_places.field-0.items;
      links = c.in_ok-links.links.items;
      sense = to_z w64 (of_z w64 aux.sense);
      leader_sense = to_z w64 (of_z w64 c.leader_sense.result);
    })
    (record {
      lo = c.in_ok-lows.ensures ∙ ap (map (λ (r : RawColumn). r.lo)) columns-are;
      hi = c.in_ok-highs.ensures ∙ ap (map (λ (r : RawColumn). r.hi)) columns-are;
      rows =
          c.in_ok-rows.ensures
          ∙ ap (λ (cs : List RawColumn). rows_from cs c.as_slice-lower_rows.result.now 0
          c.as_slice-text_rows.result.now) columns-are
          ∙ ap (λ (lower : List _). rows_from mps.columns lower 0 c.as_slice-text_rows.result.now)
          c.as_slice-lower_rows.ensures
          ∙ ap (λ (rows : List RawRow). rows_from mps.columns aux.rows 0 rows) c.as_slice-text_rows.ensures;
      cost = c.in_ok-costs.ensures ∙ ap (map (λ (r : RawColumn). r.cost *ℤ leader_sense_of mps.maximise)) columns-are;
      follower_cost = c.in_ok-follower_costs.ensures
          ∙ ap (λ (n : _). map (number_for (follower_numbers aux)) (range_with_len 0 n)) count-is;
      follower =
          c.in_ok-follower_places.ensures
          ∙ ap (λ (ks : List _). places_where (λ k. is_among k ks) (length c.as_slice-columns.result.now))
          c.as_slice-follower.ensures
          ∙ ap (places_where (λ k. is_among k aux.columns)) count-is;
      links =
          c.in_ok-links.ensures
          ∙ ap (λ (ks : List _). places_where (is_linking ks c.deref.result.now)
          (length c.as_slice-columns.result.now)) c.as_slice-follower.ensures
          ∙ ap (λ (rows : List Row). places_where (is_linking aux.columns rows) (length c.as_slice-columns.result.now))
          c.deref.ensures.value
          ∙ ap (places_where (is_linking aux.columns c.in_ok-rows.rows.items)) count-is;
      sense = let fits : SFits w64 aux.sense = search rules in to_z-of_z w64 aux.sense fits;
      leader_sense =
          let fits : SFits w64 c.leader_sense.result = search rules in
          to_z-of_z w64 c.leader_sense.result fits ∙ c.leader_sense.ensures.value;
    })

pub invariant_of-result : goal.invariant_of-result
invariant_of-result c =
    subst IsModel (sym (made c))
    (record {
      sound = program_sound _ _ c.requires.mps c.requires.aux;
      limits =
          program_limits _ _ c.requires.mps c.requires.aux;
    })

pub returns : goal.returns
returns c = made c

pub costs-requires : goal.costs-requires
costs-requires c = subst (All (λ r. IsSmall r.cost)) (sym c.as_slice-columns.ensures)
    (λ k d lt. (c.requires.mps.columns k d lt).cost)
