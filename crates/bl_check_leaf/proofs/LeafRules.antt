-- The rules of a leaf, said of a certificate and of what is kept of it.
use Rattle.std.proofs.Common.{◌≡◌, ℕ, ◌<◌, refl, sym, ◌∙◌, ap, subst, arith, Bool, true, false, List, []}
use Rattle.std.proofs.Common.{◌∷◌, length}
use Rattle.std.specs.Prelude.{ℤ, pos, map, All, ◌↔◌, ◌≢◌, IsTrue, IsSome, unsigned_abs, Option, Some, None}
use Rattle.std.specs.List.{AllByRecursion}
use Rattle.std.specs.Option.{option_eq, unwrap_or}
use Rattle.std.specs.Ordering.{int_eq}
use Rattle.std.proofs.lemmas.Bool.Decides.{Decides-int_eq}
use Rattle.std.proofs.lemmas.List.Elements.{recursion_from_All}
use Rattle.std.proofs.lemmas.List.FromFn.{get_or-map-range_with_len}
use Rattle.bl_whole.specs.Sums.{component}
use Rattle.bl_terms.specs.Points.{Area, Fixes, Linear}
use Rattle.bl_terms.specs.Programs.{Program, link_of, follower_at}
use Rattle.bl_terms.specs.Bounds.{Multipliers, Proves}
use Rattle.bl_cut_terms.specs.NoGoods.{LocalRow, step_at}
use Rattle.bl_leaf_terms.specs.Nodes.{fixed_link}
use Rattle.bl_leaf_terms.specs.Leaves.{leaf_problem}
use Rattle.bl_cert_terms.specs.declared.stated.Statement.{Statement}
use Rattle.bl_cert_terms.specs.declared.stated.Statement.TheVariants.{Optimal}
use Rattle.bl_cert_terms.specs.Certificates.{Certificate, IsUnanswered, SaysBest, UsesValue, stated_cutoff}
use Rattle.bl_certtext.specs.Places.{IsPlace}
use Rattle.bl_check_rules.specs.Answers.{answer_in}
use Rattle.bl_check_terms.specs.Values.{multipliers, number_at}
use Rattle.bl_check_terms.specs.Rules.{CitesRightly, HasFollower, HasValueRow, ProvesLeaf}
use Rattle.bl_check_state.specs.declared.said.Said.{Said}
use Rattle.bl_check_state.specs.Saying.{IsSaid}
use Rattle.bl_check_leaf.specs.Kept.{IsFixedAnswer, IsUsedValue, LiesInCited, cited_rows}
use Rattle.bl_check_leaf.proofs.CitedCuts.{cited_boxes, cited_rows_are}
use Rattle.bl_check_leaf.proofs.EntriesKept.{best_is_kept, none_is_kept}

-- ---- entries

-- a cost is kept of the link exactly where an entry says that its best response has it
best_is_said : (p : Program) (said : Said) (c : Certificate) (l : List ℤ) (v : ℤ) → IsSaid p said c
    → (answer_in said.answers l ≡ Some (Some v)) ↔ SaysBest c.entries l v
best_is_said p said c l v is =
    let law = best_is_kept c.entries l v is.rising in
    (λ h. law.0 (sym (is.answers l) ∙ h), λ h. is.answers l ∙ law.1 h)

-- a stated point costs the follower what an entry says of its link
pub follower_is : (p : Program) (said : Said) (c : Certificate) (z : List ℤ) (v : ℤ) (point : List ℤ) (b : Bool)
    → said.statement ≡ Optimal z v → point ≡ z
    → IsTrue b ↔ (answer_in said.answers (link_of p point) ≡ Some (Some (follower_at p point))) → IsSaid p said c
    → IsTrue b ↔ HasFollower p c.entries c.statement
follower_is p said c z v point b states same h is =
    let law = best_is_said p said c (link_of p point) (follower_at p point) is in
    let all : Optimal point v ≡ c.statement =
    ap (λ (x : List ℤ). Optimal x v) same ∙ sym states ∙ is.statement in
    subst (λ (s : Statement). IsTrue b ↔ HasFollower p c.entries s) all (λ t. law.0 (h.0 t), λ k. h.1 (law.1 k))

-- found is what is kept of the link that the box fixes
abbrev pub IsFound : Program → Said → Area → Option (Option ℤ) → Type 0
IsFound p said a found = (answer : Option ℤ) → (found ≡ Some answer) ↔ IsFixedAnswer p said a answer

none_test : (found : Option (Option ℤ)) → IsTrue (option_eq (option_eq int_eq) found (Some None)) ↔ (found ≡ Some None)
none_test None = (λ h. cc, λ h. cc)
none_test (Some None) = (λ h. refl, λ h. refl)
none_test (Some (Some v)) = (λ h. cc, λ h. cc)

-- that there is none is kept of the box's link exactly where the box is unanswered
pub unanswered_is : (p : Program) (said : Said) (c : Certificate) (a : Area) (found : Option (Option ℤ)) (b : Bool)
    → b ≡ option_eq (option_eq int_eq) found (Some None) → IsFound p said a found → IsSaid p said c
    → IsTrue b ↔ IsUnanswered p c a
unanswered_is p said c a found b test tells is =
    let law = none_is_kept c.entries (fixed_link p a) is.rising in
    let none = none_test found in (
      λ t.
          let h = (tells None).0 (none.0 (sym test ∙ t)) in
          record { fixes = h.fixes; none = law.0 (sym (is.answers (fixed_link p a)) ∙ h.kept) },
      λ h. test ∙ none.1 ((tells None).1 (record {
        fixes = h.fixes;
        kept = is.answers (fixed_link p a) ∙ law.1 h.none;
      })),
    )

-- ---- the value row

fixed_value : (p : Program) (said : Said) (c : Certificate) (a : Area) (v : ℤ) → IsSaid p said c
    → IsFixedAnswer p said a (Some v) ↔ (Fixes a p.links × SaysBest c.entries (fixed_link p a) v)
fixed_value p said c a v is =
    let law = best_is_said p said c (fixed_link p a) v is in (
      λ h. (h.fixes, law.0 h.kept),
      λ h. record { fixes = h.0; kept = law.1 h.1 },
    )

value_row_is : (p : Program) (said : Said) (c : Certificate) (a : Area) (uses : Bool) (value : Option ℤ)
    → IsSaid p said c → IsUsedValue p said a uses value → (IsTrue uses → IsSome value) ↔ HasValueRow p c a uses
value_row_is p said c a false value is used = (λ h. tt, λ h t. cc t)
value_row_is p said c a true None is used = (
  λ h. cc (h refl),
  λ h t. absurd (used h.1.0 ((fixed_value p said c a h.1.0 is).1 (h.0, h.1.1))),
)
value_row_is p said c a true (Some v) is used =
    (λ h. let has = (fixed_value p said c a v is).0 used in (has.0, (v, has.1)), λ h t. refl)

used_found : (p : Program) (said : Said) (a : Area) (found : Option (Option ℤ)) → IsFound p said a found
    → IsUsedValue p said a true (unwrap_or found None)
used_found p said a None tells = λ v h. cc ((tells (Some v)).1 h)
used_found p said a (Some None) tells = λ v h. cc ((tells (Some v)).1 h)
used_found p said a (Some (Some v)) tells = (tells (Some v)).0 refl

-- what is found is used where the row is
pub used_is : (p : Program) (said : Said) (a : Area) (uses : Bool) (found : Option (Option ℤ)) (value : Option ℤ)
    → uses ≡ true → IsFound p said a found → value ≡ unwrap_or found None → IsUsedValue p said a uses value
used_is p said a uses found value used tells e = rw (used, e) (used_found p said a found tells)

-- ---- the multipliers

other_number : (i j : ℤ) → i ≢ j → int_eq i j ≡ false
other_number i j other = by (int_eq i j) refl
  where
    by : (b : Bool) → int_eq i j ≡ b → b ≡ false
    by true e = absurd (other ((Decides-int_eq i j).0 e))
    by false e = refl

no_number : (k : ℕ) (pairs : List (ℤ × ℤ)) → AllByRecursion (λ m. m.0 ≢ pos k) pairs → number_at pairs k ≡ pos 0
no_number k [] other = refl
no_number k ((i, m) ∷ pairs) (here, other) = rw (other_number i (pos k) here) (no_number k pairs other)

-- no multiplier stands at the place of the value row where none is listed for it
no_multiplier : (p : Program) (n : ℕ) (den : ℤ) (pairs : List (ℤ × ℤ)) → length p.rows < n
    → All (λ m. m.0 ≢ pos (length p.rows)) pairs → component (multipliers n den pairs).mult (length p.rows) ≡ pos 0
no_multiplier p n den pairs below other =
    get_or-map-range_with_len (number_at pairs) 0 n (length p.rows) (length p.rows) (pos 0) below (omega arith)
    ∙ no_number (length p.rows) pairs
    (recursion_from_All (λ (m : ℤ × ℤ). m.0 ≢ pos (length p.rows)) pairs other)

-- ---- rules

-- the cuts and the value are cited rightly of the certificate exactly where they are of what is kept
pub cites_is : (p : Program) (said : Said) (c : Certificate) (a : Area) (uses : Bool) (cuts : List LocalRow)
    (cited : List ℤ) (value : Option ℤ) (b : Bool) → cuts ≡ said.cuts.cuts.items
    → IsTrue b ↔ (LiesInCited a cuts cited × (IsTrue uses → IsSome value)) → IsSaid p said c
    → All (IsPlace (length said.cuts.cuts.items)) cited → IsUsedValue p said a uses value
    → IsTrue b ↔ CitesRightly p c a uses (map unsigned_abs cited)
cites_is p said c a uses cuts cited value b same test is there used =
    let boxes = cited_boxes cuts c.cuts a cited (same ∙ is.cuts.rows)
    (subst (λ (rows : List LocalRow). All (IsPlace (length rows)) cited) (sym same) there) in
    let row = value_row_is p said c a uses value is used in (
      λ t. let h = test.0 t in record { cuts = boxes.0 h.0; value = row.0 h.1 },
      λ h. test.1 (boxes.1 h.cuts, row.1 h.value),
    )

uses_value : (p : Program) (said : Said) (c : Certificate) (a : Area) (w : Multipliers) (uses : Bool)
    (value : Option ℤ) → IsSaid p said c → IsUsedValue p said a uses value → (IsTrue uses → IsSome value)
    → (uses ≡ false → component w.mult (length p.rows) ≡ pos 0) → UsesValue p c.entries a w uses value
uses_value p said c a w true None is used some zero = cc (some refl)
uses_value p said c a w true (Some v) is used some zero = (fixed_value p said c a v is).0 used
uses_value p said c a w false value is used some zero = (used, zero refl)

one_value : (p : Program) (said : Said) (c : Certificate) (a : Area) (w : Multipliers) (uses : Bool)
    (value other : Option ℤ) → IsSaid p said c → IsUsedValue p said a uses value → (IsTrue uses → IsSome value)
    → UsesValue p c.entries a w uses other → other ≡ value
one_value p said c a w true value None is used some has = absurd has
one_value p said c a w true None (Some u) is used some has = cc (some refl)
one_value p said c a w true (Some v) (Some u) is used some has =
    let kept = ((fixed_value p said c a u is).1 has).kept in
    let at = used.kept in
    cc (kept, at)
one_value p said c a w false value other is used some has = has.0 ∙ sym used

-- listed multipliers prove what is stated of the certificate exactly where they prove it of what is kept
pub proves_is : (p : Program) (said : Said) (c : Certificate) (a : Area) (n : ℕ) (given den : ℤ) (pairs : List (ℤ × ℤ))
    (uses : Bool) (cited : List ℤ) (value : Option ℤ) (b : Bool) → given ≡ den
    → IsTrue b ↔ Proves (leaf_problem p a value (cited_rows said.cuts.cuts.items cited))
    (stated_cutoff p said.statement) (multipliers n given pairs)
    → IsSaid p said c → IsUsedValue p said a uses value → (IsTrue uses → IsSome value) → length p.rows < n
    → (uses ≡ false → All (λ m. m.0 ≢ pos (length p.rows)) pairs)
    → IsTrue b ↔ ProvesLeaf p c a (multipliers n den pairs) uses (map unsigned_abs cited)
proves_is p said c a n given den pairs uses cited value b same test is used some below unlisted =
    let w = multipliers n den pairs in
    let rows = cited_rows_are said.cuts.cuts.items c.cuts cited is.cuts.rows in
    let zero = λ (e : uses ≡ false). no_multiplier p n den pairs below (unlisted e) in
    let law =
    subst (λ (d : ℤ). IsTrue b ↔ Proves (leaf_problem p a value (cited_rows said.cuts.cuts.items cited))
    (stated_cutoff p said.statement) (multipliers n d pairs)) same test in (
      λ t. record {
        value = value;
        has = uses_value p said c a w uses value is used some zero;
        proof = subst (λ (s : Statement). Proves (leaf_problem p a value
            (map (λ k. (step_at c.cuts k).row) (map unsigned_abs cited))) (stated_cutoff p s) w) is.statement
            (subst (λ (r : List Linear). Proves (leaf_problem p a value r) (stated_cutoff p said.statement) w) rows
            (law.0 t));
      },
      λ h.
          let one = one_value p said c a w uses value h.value is used some h.has in
          law.1
          (subst (λ (u : Option ℤ). Proves (leaf_problem p a u (cited_rows said.cuts.cuts.items cited))
          (stated_cutoff p said.statement) w) one
          (subst (λ (s : Statement). Proves (leaf_problem p a h.value (cited_rows said.cuts.cuts.items cited))
          (stated_cutoff p s) w) (sym is.statement)
          (subst (λ (r : List Linear). Proves (leaf_problem p a h.value r) (stated_cutoff p c.statement) w) (sym rows)
          h.proof))),
    )
