-- What is kept of the cuts, where the last one changes.
use Rattle.std.proofs.Common.{◌≡◌, ℕ, zero, suc, ◌<◌, ◌+◌, ◌^◌, refl, sym, ◌∙◌, ap, arith, List, [], ◌∷◌, ◌++◌}
use Rattle.std.proofs.Common.{length, map}
use Rattle.std.specs.Prelude.{ℤ, pos, slice_index_or, slice_set}
use Rattle.std.proofs.lemmas.List.{length-map, map-append, length_push}
use Rattle.bl_terms.specs.Points.{Area, Linear}
use Rattle.bl_terms.specs.Programs.{Program}
use Rattle.bl_cut_terms.specs.declared.parts.Tight.{Tight}
use Rattle.bl_cut_terms.specs.NoGoods.{CutStep, LocalRow, last_step, local_row, tight_rows}
use Rattle.bl_check_terms.specs.Reading.{at_last, before_last, cut_on, with_den, with_place, with_tight, with_unit}
use Rattle.bl_check_terms.proofs.Lasts.{EndsIn, has_last, at_last-push, last_step-push}
use Rattle.bl_check_state.specs.declared.cuts.HeldCuts.{HeldCuts}
use Rattle.bl_check_state.specs.Saying.{AreCuts}
use Rattle.bl_check_cuts.specs.Sums.{AddsUp, with_row}

-- a list of cuts that isn't empty ends in its last one
ends_in_last : (cuts : List CutStep) → 0 < length cuts → EndsIn last_step cuts
ends_in_last [] b = absurd (omega arith)
ends_in_last (s ∷ []) b = record { whole = refl }
ends_in_last (s ∷ t ∷ cuts) b =
    record { whole = ap (λ ss. s ∷ ss) (ends_in_last (t ∷ cuts) (omega arith)).whole }

-- the rows that a cut adds up, where these cuts stand before it
abbrev rows_of : Program → List CutStep → CutStep → List Linear
rows_of p before s = tight_rows p s.area (map local_row before) s.parts.tight

-- the cuts are these and this one, of which this is kept
pub record Keeps (p : Program) (held : HeldCuts) (before : List CutStep) (s : CutStep) : Type 0 where
  pub rows : held.cuts.items ≡ map local_row before ++ local_row s ∷ []
  pub tight : held.tight.items ≡ rows_of p before s
  pub few : length held.tight.items < 2 ^ 32
  pub den : held.den ≡ s.parts.den
  pub units : held.units ≡ length s.parts.units
  pub point : held.point.items ≡ s.parts.point

kept_cuts : (p : Program) (held : HeldCuts) (cuts before : List CutStep) (s : CutStep) → cuts ≡ before ++ s ∷ []
    → Keeps p held before s → AreCuts p held cuts
kept_cuts p held cuts before s e k =
    let l = has_last last_step last_step-push cuts before s e in
    record {
      rows = k.rows ∙ sym (ap (λ ss. map local_row ss) e ∙ map-append local_row before (s ∷ []));
      tight = k.tight
          ∙ sym (ap (λ ss. rows_of p ss (last_step cuts)) l.before ∙ ap (λ x. rows_of p before x) l.same);
      few = k.few;
      den = k.den ∙ sym (ap (λ (x : CutStep). x.parts.den) l.same);
      units = k.units ∙ sym (ap (λ (x : CutStep). length x.parts.units) l.same);
      point = k.point ∙ sym (ap (λ (x : CutStep). x.parts.point) l.same);
    }

-- there is a cut
some_cut : (p : Program) (held : HeldCuts) (cuts : List CutStep) → AreCuts p held cuts → 0 < length held.cuts.items
    → 0 < length cuts
some_cut p held cuts h some = omega (arith, ap length h.rows, length-map cuts local_row)

pub kept_of : (p : Program) (held : HeldCuts) (cuts : List CutStep) → AreCuts p held cuts
    → 0 < length held.cuts.items → Keeps p held (before_last cuts) (last_step cuts)
kept_of p held cuts h some =
    let ends = ends_in_last cuts (some_cut p held cuts h some) in
    record {
      rows = h.rows ∙ ap (λ ss. map local_row ss) ends.whole
          ∙ map-append local_row (before_last cuts) (last_step cuts ∷ []);
      tight = h.tight;
      few = h.few;
      den = h.den;
      units = h.units;
      point = h.point;
    }

-- the last cut changes
changed : (p : Program) (held new : HeldCuts) (cuts : List CutStep) (f : CutStep → CutStep) → AreCuts p held cuts
    → 0 < length held.cuts.items → Keeps p new (before_last cuts) (f (last_step cuts))
    → AreCuts p new (at_last f cuts)
changed p held new cuts f h some k =
    let ends = ends_in_last cuts (some_cut p held cuts h some) in
    kept_cuts p new (at_last f cuts) (before_last cuts) (f (last_step cuts))
    (ap (λ ss. at_last f ss) ends.whole ∙ at_last-push f (before_last cuts) (last_step cuts)) k

-- the row of the last of n + 1 cuts changes
pub row_of_last : (rows : List LocalRow) (n : ℕ) (row : Linear) (d : LocalRow) → length rows ≡ n + 1
    → slice_set rows n (with_row row (slice_index_or rows n d)) ≡ at_last (with_row row) rows
row_of_last [] n row d e = absurd (omega arith)
row_of_last (r ∷ []) zero row d e = refl
row_of_last (r ∷ []) (suc n) row d e = absurd (omega arith)
row_of_last (r ∷ s ∷ rows) zero row d e = absurd (omega arith)
row_of_last (r ∷ s ∷ rows) (suc n) row d e = ap (λ rs. r ∷ rs) (row_of_last (s ∷ rows) n row d (omega arith))

pub begun_kept : (p : Program) (held new : HeldCuts) (cuts : List CutStep) (a : Area) → AreCuts p held cuts
    → new.cuts.items ≡ held.cuts.items ++ local_row (cut_on a) ∷ [] → new.tight.items ≡ [] → new.den ≡ pos 1
    → new.units ≡ 0 → new.point.items ≡ [] → AreCuts p new (cuts ++ cut_on a ∷ [])
begun_kept p held new cuts a h e t d u z =
    kept_cuts p new (cuts ++ cut_on a ∷ []) cuts (cut_on a) refl (record {
      rows = e ∙ ap (λ rs. rs ++ local_row (cut_on a) ∷ []) h.rows;
      tight = t;
      few = omega (arith, ap length t);
      den = d;
      units = u;
      point = z;
    })

pub den_kept : (p : Program) (held new : HeldCuts) (cuts : List CutStep) (den : ℤ) → AreCuts p held cuts
    → 0 < length held.cuts.items → new.cuts.items ≡ held.cuts.items → new.tight.items ≡ held.tight.items
    → new.den ≡ den → new.units ≡ held.units → new.point.items ≡ held.point.items
    → AreCuts p new (at_last (with_den den) cuts)
den_kept p held new cuts den h some e t d u z =
    let k = kept_of p held cuts h some in
    changed p held new cuts (with_den den) h some (record {
      rows = e ∙ k.rows;
      tight = t ∙ k.tight;
      few = omega (arith, ap length t, k.few);
      den = d;
      units = u ∙ k.units;
      point = z ∙ k.point;
    })

pub unit_kept : (p : Program) (held new : HeldCuts) (cuts : List CutStep) (unit : List (ℕ × ℤ)) → AreCuts p held cuts
    → 0 < length held.cuts.items → new.cuts.items ≡ held.cuts.items → new.tight.items ≡ held.tight.items
    → new.den ≡ held.den → new.units ≡ held.units + 1 → new.point.items ≡ held.point.items
    → AreCuts p new (at_last (with_unit unit) cuts)
unit_kept p held new cuts unit h some e t d u z =
    let k = kept_of p held cuts h some in
    changed p held new cuts (with_unit unit) h some (record {
      rows = e ∙ k.rows;
      tight = t ∙ k.tight;
      few = omega (arith, ap length t, k.few);
      den = d ∙ k.den;
      units = u ∙ ap (λ n. n + 1) k.units ∙ sym (length_push (last_step cuts).parts.units unit);
      point = z ∙ k.point;
    })

pub point_kept : (p : Program) (held new : HeldCuts) (cuts : List CutStep) (z : List ℤ) → AreCuts p held cuts
    → 0 < length held.cuts.items → new.cuts.items ≡ held.cuts.items → new.tight.items ≡ held.tight.items
    → new.den ≡ held.den → new.units ≡ held.units → new.point.items ≡ z
    → AreCuts p new (at_last (with_place z) cuts)
point_kept p held new cuts z h some e t d u at =
    let k = kept_of p held cuts h some in
    changed p held new cuts (with_place z) h some (record {
      rows = e ∙ k.rows;
      tight = t ∙ k.tight;
      few = omega (arith, ap length t, k.few);
      den = d ∙ k.den;
      units = u ∙ k.units;
      point = at;
    })

pub sums_kept : (p : Program) (held new : HeldCuts) (cuts : List CutStep) (tight : List Tight) (rows : List Linear)
    (row : Linear) → AreCuts p held cuts → 0 < length held.cuts.items
    → AddsUp p (last_step cuts).area (map local_row (before_last cuts)) tight rows row
    → new.cuts.items ≡ at_last (with_row row) held.cuts.items → new.tight.items ≡ rows
    → new.den ≡ held.den → new.units ≡ held.units → new.point.items ≡ held.point.items
    → AreCuts p new (at_last (with_tight p (before_last cuts) tight) cuts)
sums_kept p held new cuts tight rows row h some adds e t d u z =
    let k = kept_of p held cuts h some in
    let before = map local_row (before_last cuts) in
    let a = (last_step cuts).area in
    changed p held new cuts (with_tight p (before_last cuts) tight) h some (record {
      rows = e ∙ ap (λ rs. at_last (with_row row) rs) k.rows
          ∙ at_last-push (with_row row) before (local_row (last_step cuts))
          ∙ ap (λ (r : Linear). before ++ (let x : LocalRow = record { area = a; row = r } in x) ∷ []) adds.row_is;
      tight = t ∙ adds.rows_are;
      few = omega (arith, ap length t, adds.few);
      den = d ∙ k.den;
      units = u ∙ k.units;
      point = z ∙ k.point;
    })
