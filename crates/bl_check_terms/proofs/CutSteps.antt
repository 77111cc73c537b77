-- Right lines of the cuts.
use Rattle.std.proofs.Common.{◌≡◌, ℕ, zero, suc, ◌+◌, ◌-◌, ◌<◌, refl, sym, ◌∙◌, ap, subst, arith, Bool, true, false}
use Rattle.std.proofs.Common.{List, [], ◌∷◌, ◌++◌, length, inl, inr}
use Rattle.std.specs.Prelude.{ℤ, pos, ◌<ℤ◌, map, nat_eq, nat_lt, if◌then◌else◌, unsigned_abs}
use Rattle.std.proofs.lemmas.Int.{ints}
use Rattle.std.proofs.lemmas.Bool.{cases_lt}
use Rattle.std.proofs.lemmas.List.{append-nil, length-map, length_push, get_or_append_left}
use Rattle.std.proofs.lemmas.List.Elements.{All-push}
use Rattle.std.proofs.Math.Seq.{get_or-append_seam}
use Rattle.bl_terms.specs.Points.{Area, Linear}
use Rattle.bl_terms.specs.Programs.{Program, columns}
use Rattle.bl_cut_terms.specs.declared.parts.Tight.{Tight}
use Rattle.bl_cut_terms.specs.NoGoods.{CutStep, LocalRow, AreCutSteps, IsCutStep, IsUnit, HasBetterResponse, combined}
use Rattle.bl_cut_terms.specs.NoGoods.{last_step, local_row, tight_rows, unit_at}
use Rattle.bl_cert_terms.specs.declared.stated.Statement.{Statement}
use Rattle.bl_cert_terms.specs.declared.stated.Statement.TheVariants.{Optimal, Infeasible}
use Rattle.bl_cert_terms.specs.Certificates.{ProvedEntry, Certificate, HasShownPoint}
use Rattle.bl_cert_terms.proofs.CertificateLemmas.{cuts_in_turn}
use Rattle.bl_certline.specs.declared.line.CertLine.TheVariants as lines
use Rattle.bl_certtext.specs.declared.part.Part.{Part}
use Rattle.bl_certtext.specs.declared.part.Part.TheVariants as parts
use Rattle.bl_certtext.specs.Grammar.{cuts_from, units_from}
use Rattle.bl_check_terms.specs.declared.rule.CertRule.TheVariants as rules
use Rattle.bl_check_terms.specs.Values.{area_of, tight_of, unit_of}
use Rattle.bl_check_terms.specs.Reading.{at_last, before_last, change_cut, cut_on, with_den, with_place}
use Rattle.bl_check_terms.specs.Reading.{with_response, with_tight, with_unit}
use Rattle.bl_check_terms.specs.Rules.{HasFollower, CombinesTo, HoldEqual, IsSized, cut_at_hand, rows_at_hand}
use Rattle.bl_check_terms.specs.Rules.{rows_before}
use Rattle.bl_check_terms.proofs.Lasts.{has_last, changed_last, last_step-push}
use Rattle.bl_check_terms.proofs.Numbers.{in_limit, in_order, is_unit, part_is_area, part_is_within}
use Rattle.bl_check_terms.proofs.Standing.{Stands, Steps, IsStatedPoint, CutsStand, CutStands, IsBoxed}
use Rattle.bl_check_terms.proofs.Standing.{AwaitsInverse, IsInverting, AwaitsUnits, AwaitsResponse}

-- ---- the cuts

shown_point : (p : Program) (entries : List ProvedEntry) (x : Statement) → IsStatedPoint p x → HasFollower p entries x
    → HasShownPoint p entries x
shown_point p entries (Optimal z v) h follower =
    record { inside = h.0; rows = h.1; value = h.2; follower = follower }
shown_point p entries Infeasible h follower = tt

cuts_expected : (p : Program) (c : Certificate) (place count : ℕ) → CutsStand p c → Stands p (cuts_from place count) c
cuts_expected p c place count h = by (nat_lt place count)
  where
    by : (t : Bool)
        → Stands p (if t then parts.Cuts place count ∷ [] else parts.Head count ∷ []) c
    by true = (refl, h)
    by false = (refl, h)

pub step_cut_count : (p : Program) → Steps p parts.CutCount
step_cut_count p rest c (lines.CutCount count) s h =
    let rule : HasFollower p c.entries c.statement = h.rules 3 rules.Sense (omega arith) in
    let from = cuts_from 0 (unsigned_abs count) in
    subst (λ (ps : List Part). Stands p ps c) (sym (ap (λ (ps : List Part). from ++ ps) s.0 ∙ append-nil from))
    (cuts_expected p c 0 (unsigned_abs count) (record {
      answered = record {
        point = shown_point p c.entries c.statement s.2.0 rule;
        proved = s.1.1.proved;
        rising = s.1.1.rising;
      };
      cuts = subst (AreCutSteps p []) (sym s.2.1) tt;
      tree = s.2.2;
    }))
step_cut_count p rest c line s h = absurd h.formed.form

pub step_cuts : (p : Program) (place count : ℕ) → Steps p (parts.Cuts place count)
step_cuts p place count rest c lines.CutHead s h =
    let from = cuts_from (place + 1) count in
    ((place + 1, count, ap (λ (ps : List Part). from ++ ps) s.0 ∙ append-nil from), s.1)
step_cuts p place count rest c line s h = absurd h.formed.form

-- ---- the cut at hand

pub step_cut_area : (p : Program) (place : ℕ) → Steps p (parts.CutArea place)
step_cut_area p place rest c (lines.Area sides) s h =
    let cut = cut_on (area_of sides) in
    let cuts = c.cuts ++ cut ∷ [] in
    let l = has_last last_step last_step-push cuts c.cuts cut refl in
    let boxed : IsBoxed p (map local_row (before_last cuts)) cut = record {
      area = part_is_area p sides h.placed.begins;
      within = part_is_within p sides h.placed.begins;
      units = refl;
    } in
    record {
      more = s.0;
      ends = l.ends;
      shown = subst (AreCutSteps p []) (sym l.before) s.1.cuts;
      kept = subst (λ (x : CutStep). IsBoxed p (map local_row (before_last cuts)) x) (sym l.same) boxed;
      answered = s.1.answered;
      tree = s.1.tree;
    }
step_cut_area p place rest c line s h = absurd h.formed.form

-- the cut at hand changes
cut_changed : (p : Program) (c : Certificate) (rest : List Part) (Kept More : List LocalRow → CutStep → Type 0)
    (f : CutStep → CutStep) → CutStands p c rest Kept → More (rows_before c) (f (cut_at_hand c))
    → CutStands p (change_cut f c) rest More
cut_changed p c rest Kept More f h more =
    let cuts = at_last f c.cuts in
    let l = changed_last last_step last_step-push f c.cuts h.ends in
    let behind : More (map local_row (before_last cuts)) (f (last_step c.cuts)) =
    subst (λ (ss : List CutStep). More (map local_row ss) (f (last_step c.cuts))) (sym l.before) more in
    record {
      more = h.more;
      ends = l.ends;
      shown = subst (AreCutSteps p []) (sym l.before) h.shown;
      kept = subst (λ (x : CutStep). More (map local_row (before_last cuts)) x) (sym l.same) behind;
      answered = h.answered;
      tree = h.tree;
    }

pub step_tight : (p : Program) (place : ℕ) → Steps p (parts.Tight place)
step_tight p place rest c (lines.TightList items) s h =
    let rule : IsSized p (cut_at_hand c).area (rows_before c) (map tight_of items) =
    h.rules 4 rules.Sense (omega arith) in
    cut_changed p c rest (IsBoxed p) (AwaitsInverse p (length items))
    (with_tight p (before_last c.cuts) (map tight_of items)) s (
      record {
        area = s.kept.area;
        within = s.kept.within;
        same = refl;
        size = length-map items tight_of;
        there = rule.there;
        order = in_order p place items h.placed.begins.0 h.placed.begins.1;
        coef = rule.coef;
        rhs = rule.rhs;
      },
      s.kept.units,
    )
step_tight p place rest c line s h = absurd h.formed.form

units_expected : (p : Program) (c : Certificate) (rest : List Part) (left items : ℕ)
    → CutStands p c rest (AwaitsUnits p left items) → Stands p (units_from left items ++ rest) c
units_expected p c rest zero items h = (items, rest, refl, h)
units_expected p c rest (suc left) items h = (omega arith, h)

pub step_inverse : (p : Program) (items : ℕ) → Steps p (parts.Inverse items)
step_inverse p items rest c (lines.Inverse den) s h =
    let none = s.kept.1 in
    let empty = ap length none in
    let positive : pos 0 <ℤ den = h.placed.begins in
    units_expected p (change_cut (with_den den) c) rest (columns p) items
    (cut_changed p c rest (AwaitsInverse p items) (AwaitsUnits p (columns p) items) (with_den den) s (record {
      rowed = s.kept.0;
      den_least = omega (arith, ints);
      den_most = (in_limit den h.formed.well_formed).1;
      count = omega (arith, empty);
      are_units = λ k d b. absurd (omega (arith, empty));
      each = λ j k b d. absurd (omega (arith, empty));
    }))
step_inverse p items rest c line s h = absurd h.formed.form

-- one more unit
inverting_more : (p : Program) (left items : ℕ) (earlier : List LocalRow) (a : Area) (row : Linear)
    (tight : List Tight) (den : ℤ) (units : List (List (ℕ × ℤ))) (unit : List (ℕ × ℤ)) → 0 < left
    → IsInverting p left items earlier a row tight den units → IsUnit (length tight) unit
    → CombinesTo (columns p) (tight_rows p a earlier tight) den unit (length units)
    → IsInverting p (left - 1) items earlier a row tight den (units ++ unit ∷ [])
inverting_more p left items earlier a row tight den units unit some h is combines =
    let size = length_push units unit in
    let count = h.count in
    let rows = tight_rows p a earlier tight in
    record {
      rowed = h.rowed;
      den_least = h.den_least;
      den_most = h.den_most;
      count = omega arith;
      are_units = All-push (IsUnit (length tight)) units unit h.are_units is;
      each = λ j k b d. elim (cases_lt j (length units)) [
        | inl lower ↦
            let same : unit_at (units ++ unit ∷ []) j ≡ unit_at units j =
            get_or_append_left units (unit ∷ []) [] j lower in
            ap (λ (u : List (ℕ × ℤ)). combined rows u k) same ∙ h.each j k lower d
        | inr upper ↦
            let last : j ≡ length units = omega arith in
            let same : unit_at (units ++ unit ∷ []) j ≡ unit =
            ap (λ n. unit_at (units ++ unit ∷ []) n) last ∙ get_or-append_seam units unit [] [] in
            ap (λ (u : List (ℕ × ℤ)). combined rows u k) same ∙ combines k d
            ∙ sym (ap (λ n. if nat_eq n k then den else pos 0) last)
      ];
    }

pub step_units : (p : Program) (left items : ℕ) → Steps p (parts.Units left items)
step_units p left items rest c (lines.Unit pairs) s h =
    let rule : CombinesTo (columns p) (rows_at_hand p c) (cut_at_hand c).parts.den (unit_of pairs)
    (length (cut_at_hand c).parts.units) = h.rules 5 rules.Sense (omega arith) in
    let x = cut_at_hand c in
    let stand = s.1 in
    let is : IsUnit (length x.parts.tight) (unit_of pairs) =
    subst (λ (n : ℕ). IsUnit n (unit_of pairs)) (sym stand.kept.rowed.size)
    (is_unit items pairs h.placed.begins h.placed.rising h.formed.well_formed) in
    units_expected p (change_cut (with_unit (unit_of pairs)) c) rest (left - 1) items
    (cut_changed p c rest (AwaitsUnits p left items) (AwaitsUnits p (left - 1) items) (with_unit (unit_of pairs)) stand
    (inverting_more p left items (rows_before c) x.area x.row x.parts.tight x.parts.den x.parts.units (unit_of pairs)
    s.0 stand.kept is rule))
step_units p left items rest c line s h = absurd h.formed.form

pub step_at : (p : Program) → Steps p parts.At
step_at p rest c (lines.At values) (items, others, e, stand) h =
    let rule : HoldEqual (rows_at_hand p c) values = h.rules 6 rules.Sense (omega arith) in
    subst (λ (ps : List Part). Stands p ps (change_cut (with_place values) c)) (sym e) (
      items,
      cut_changed p c others (AwaitsUnits p 0 items) (AwaitsResponse p items) (with_place values) stand
          (stand.kept, record { inside = h.placed.begins; equal = rule }),
    )
step_at p rest c line s h = absurd h.formed.form

-- with its response the cut is one
whole_cut : (p : Program) (items : ℕ) (earlier : List LocalRow) (s : CutStep) (y : List ℤ)
    → AwaitsResponse p items earlier s → HasBetterResponse p s.parts.point y
    → IsCutStep p earlier (with_response y s)
whole_cut p items earlier s y h better =
    let inverting = h.0 in
    let rowed = inverting.rowed in
    let count : length s.parts.units ≡ columns p = let n = inverting.count in omega arith in
    record {
      area = rowed.area;
      within = rowed.within;
      row = rowed.same;
      shown = record {
        size = record {
          there = rowed.there;
          order = rowed.order;
          units_count = count;
          units = inverting.are_units;
          den_least = inverting.den_least;
          den_most = inverting.den_most;
          coef = rowed.coef;
          rhs = rowed.rhs;
        };
        inverse = record { each = λ j k b d. inverting.each j k (omega arith) d };
        tight = h.1;
        response = better;
      };
    }

pub step_response : (p : Program) → Steps p parts.Response
step_response p rest c (lines.Response values) (items, stand) h =
    let rule : HasBetterResponse p (cut_at_hand c).parts.point values = h.rules 7 rules.Sense (omega arith) in
    let before = before_last c.cuts in
    let f = with_response values in
    let l = changed_last last_step last_step-push f c.cuts stand.ends in
    let cut : IsCutStep p (map local_row before) (f (cut_at_hand c)) =
    whole_cut p items (rows_before c) (cut_at_hand c) values stand.kept rule in
    let cuts : AreCutSteps p [] (before ++ f (cut_at_hand c) ∷ []) =
    (cuts_in_turn p before (f (cut_at_hand c) ∷ [])).1 (stand.shown, (cut, tt)) in
    let whole : at_last f c.cuts ≡ before ++ f (cut_at_hand c) ∷ [] =
    l.ends.whole ∙ ap (λ (ss : List CutStep). ss ++ last_step (at_last f c.cuts) ∷ []) l.before
    ∙ ap (λ (x : CutStep). before ++ x ∷ []) l.same in
    subst (λ (ps : List Part). Stands p ps (change_cut f c)) (sym stand.more.2)
    (cuts_expected p (change_cut f c) stand.more.0 stand.more.1 (record {
      answered = stand.answered;
      cuts = subst (AreCutSteps p []) (sym whole) cuts;
      tree = stand.tree;
    }))
step_response p rest c line s h = absurd h.formed.form
