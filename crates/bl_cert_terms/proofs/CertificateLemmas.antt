-- An accepted certificate implies its statement.
use Rattle.std.proofs.Common.{◌≡◌, ℕ, zero, suc, ◌<◌, refl, sym, ◌∙◌, ap, subst, arith, Bool, true, false, List, []}
use Rattle.std.proofs.Common.{◌∷◌, ◌++◌, length, inl, inr}
use Rattle.std.specs.Prelude.{ℤ, pos, ◌≤ℤ◌, slice_index, slice_index_or, Option, Some, None, map, All, ◌↔◌}
use Rattle.std.specs.List.{range_with_len}
use Rattle.std.specs.Ordering.{int_cmp, ordering_reverse}
use Rattle.std.specs.Cmp.Lexicographic.{slice_cmp}
use Rattle.std.specs.declared.cmp.Ordering.{Ordering}
use Rattle.std.specs.declared.cmp.Ordering.TheVariants.{Less, Equal, Greater}
use Rattle.std.proofs.lemmas.Cmp.{lists_total, int_cmp_total}
use Rattle.std.proofs.lemmas.Int.{ints}
use Rattle.std.proofs.lemmas.Bool.{cases_lt}
use Rattle.std.proofs.lemmas.List.{length-map, get_or_default, ext_get_or, append-nil, append_assoc, length_push}
use Rattle.std.proofs.lemmas.List.FromFn.{length-range_with_len}
use Rattle.std.proofs.lemmas.List.Elements.{All-append, All-map}
use Rattle.std.proofs.lemmas.List.Quantifiers.{all_pairs_push}
use Rattle.std.proofs.Math.Seq.{get_or-append_seam}
use Rattle.bl_whole.specs.Sums.{component, dot}
use Rattle.bl_terms.specs.Points.{Area, IsArea, InArea, Fixes, Linear, Meets}
use Rattle.bl_terms.specs.Programs.{Program, Row, IsProgram, columns, no_row, inequality, root, link_of, cost_at}
use Rattle.bl_terms.specs.Programs.{follower_at}
use Rattle.bl_terms.specs.Responses.{Entry, Best, NoResponse, IsTrueEntry}
use Rattle.bl_terms.specs.Feasible.{BilevelFeasible}
use Rattle.bl_terms.specs.Trees.{Anything}
use Rattle.bl_terms.specs.Bounds.{Problem, Multipliers, Proves, IsProblem, IsPoint, no_linear}
use Rattle.bl_terms.proofs.PointLemmas.{point_of_part, zeros_ask_nothing}
use Rattle.bl_terms.proofs.PlaceLemmas.{Contains-at, values_at-entry}
use Rattle.bl_terms.proofs.ResponseLemmas.{entry_law, no_response_no_point, lower_from_rows}
use Rattle.bl_terms.proofs.TreeLemmas.{tree_shows}
use Rattle.bl_terms.proofs.BoundLemmas.{weak_duality, no_cutoff_no_point}
use Rattle.bl_terms.proofs.FollowerProofLemmas.{follower_proof_law}
use Rattle.bl_cut_terms.specs.NoGoods.{LocalRow, CutStep, IsCutStep, AreCutSteps, local_row, step_at, no_step}
use Rattle.bl_cut_terms.proofs.NoGoodLemmas.{no_goods_law, length-zeros}
use Rattle.bl_leaf_terms.specs.Nodes.{fixed_link}
use Rattle.bl_leaf_terms.specs.Leaves.{IsAtLeast, value_place, leaf_problem}
use Rattle.bl_cert_terms.specs.declared.stated.Statement.{Statement}
use Rattle.bl_cert_terms.specs.declared.stated.Statement.TheVariants.{Optimal, Infeasible}
use Rattle.bl_cert_terms.specs.Certificates.{ProvedEntry, LeafProof, Bounded, NoAnswer, Certificate, StatementHolds}
use Rattle.bl_cert_terms.specs.Certificates.{stated_cutoff, IsProvedEntry, ComesBefore, AreRising, Says}
use Rattle.bl_cert_terms.specs.Certificates.{HasShownPoint, IsCited, UsesValue, IsBounded, Closes, IsAccepted}
use Rattle.bl_cert_terms.specs.Certificates.{AcceptedLaw, EntriesAreTrue, CutsAreValid, OneEntryForLink, OneMoreRises}
use Rattle.bl_cert_terms.specs.Certificates.{CutsInTurn}

-- ---- the entries

-- what proved entries say of a link is true
said_is_true : (p : Program) (entries : List ProvedEntry) (l : List ℤ) (x : Entry) → IsProgram p
    → All (IsProvedEntry p) entries → Says entries l x → IsTrueEntry p l x
said_is_true p entries l x g proved (k, e, b, is, (link, says)) =
    let at_k : IsProvedEntry p e = subst (IsProvedEntry p) is (proved k e b) in
    let shown = follower_proof_law p e.link e.entry e.proof g at_k.proof in
    let of_link : IsTrueEntry p l e.entry = subst (λ (m : List ℤ). IsTrueEntry p m e.entry) link shown in
    subst (λ (y : Entry). IsTrueEntry p l y) says of_link

pub entries_are_true : EntriesAreTrue
entries_are_true p c g h = λ k d b.
    let e = slice_index_or c.entries k d in
    follower_proof_law p e.link e.entry e.proof g (h.entries k d b).proof

-- no link comes before itself
not_before_itself : (l : List ℤ) → ComesBefore l l → ⊥
not_before_itself l before = by (slice_cmp int_cmp l l) before ((lists_total int_cmp_total).antisymm l l)
  where
    by : (o : Ordering) → o ≡ Less → o ≡ ordering_reverse o → ⊥
    by Less e f = cc
    by Equal e f = cc
    by Greater e f = cc

-- so an earlier entry has another link
earlier_is_other : (entries : List ProvedEntry) (i j : ℕ) (d : ProvedEntry) → AreRising entries → i < j
    → j < length entries → (slice_index_or entries i d).link ≡ (slice_index_or entries j d).link → ⊥
earlier_is_other entries i j d rising b b' same =
    not_before_itself (slice_index_or entries i d).link
    (subst (λ (m : List ℤ). ComesBefore (slice_index_or entries i d).link m) (sym same) (rising i j d b b'))

-- two places with one link are one place
pub one_place : (entries : List ProvedEntry) (i j : ℕ) (d : ProvedEntry) → AreRising entries → i < length entries
    → j < length entries → (slice_index_or entries i d).link ≡ (slice_index_or entries j d).link → i ≡ j
one_place entries i j d rising b b' same = elim (cases_lt i j) [
  | inl lower ↦ absurd (earlier_is_other entries i j d rising lower b' same)
  | inr other ↦ elim (cases_lt j i) [
    | inl higher ↦ absurd (earlier_is_other entries j i d rising higher b (sym same))
    | inr equal ↦ omega arith
  ]
]

pub one_entry_for_link : OneEntryForLink
one_entry_for_link entries l x y rising (i, e, b, is, (link, says)) (j, f, b', is', (link', says')) =
    let at_j : slice_index_or entries j e ≡ f = get_or_default entries j e f b' ∙ is' in
    let same : i ≡ j =
    one_place entries i j e rising b b'
    (ap (λ (r : ProvedEntry). r.link) is ∙ link ∙ sym link' ∙ sym (ap (λ (r : ProvedEntry). r.link) at_j)) in
    let one : e ≡ f = sym is ∙ ap (λ k. slice_index_or entries k e) same ∙ at_j in
    sym says ∙ ap (λ (r : ProvedEntry). r.entry) one ∙ says'

pub one_more_rises : OneMoreRises
one_more_rises entries last e rising before =
    let whole = entries ++ last ∷ [] in
    let l = length_push entries last in
    all_pairs_push (λ x y. ComesBefore x.link y.link) whole e rising (λ k d b. elim (cases_lt k (length entries)) [
      | inl c ↦
          let to_last : ComesBefore (slice_index_or whole k d).link (slice_index_or whole (length entries) d).link =
          rising k (length entries) d c (omega arith) in
          let same : slice_index_or whole (length entries) d ≡ last = get_or-append_seam entries last [] d in
          (lists_total int_cmp_total).trans (slice_index_or whole k d).link last.link e.link
          (subst (λ (x : ProvedEntry). ComesBefore (slice_index_or whole k d).link x.link) same to_last) before
      | inr c ↦
          let end : k ≡ length entries = omega arith in
          let same : slice_index_or whole k d ≡ last =
          ap (λ i. slice_index_or whole i d) end ∙ get_or-append_seam entries last [] d in
          subst (λ (x : ProvedEntry). ComesBefore x.link e.link) (sym same) before
    ])

-- ---- the cuts

pub cuts_are_valid : CutsAreValid
cuts_are_valid p c g h = no_goods_law p c.cuts g h.cuts

-- steps behind others are shown by these and the ones before them
steps_in_turn : (p : Program) (earlier : List LocalRow) (steps more : List CutStep)
    → AreCutSteps p earlier (steps ++ more)
    ↔ (AreCutSteps p earlier steps × AreCutSteps p (earlier ++ map local_row steps) more)
steps_in_turn p earlier [] more = (
  λ h. (tt, subst (λ (rows : List LocalRow). AreCutSteps p rows more) (sym (append-nil earlier)) h),
  λ h. subst (λ (rows : List LocalRow). AreCutSteps p rows more) (append-nil earlier) h.1,
)
steps_in_turn p earlier (s ∷ steps) more =
    let rest = steps_in_turn p (earlier ++ local_row s ∷ []) steps more in
    let rows = append_assoc earlier (local_row s ∷ []) (map local_row steps) in (
      λ h. let r = rest.0 h.1 in
          ((h.0, r.0), subst (λ (rows : List LocalRow). AreCutSteps p rows more) rows r.1),
      λ h. (h.0.0, rest.1 (h.0.1, subst (λ (rows : List LocalRow). AreCutSteps p rows more) (sym rows) h.1)),
    )

pub cuts_in_turn : CutsInTurn
cuts_in_turn p cuts more = steps_in_turn p [] cuts more

-- the row of each cut has a coefficient for each column
counted : (p : Program) (earlier : List LocalRow) (steps : List CutStep) → AreCutSteps p earlier steps
    → All (λ s. length s.row.coef ≡ columns p) steps
counted p earlier [] shown = λ k d b. absurd (omega arith)
counted p earlier (s ∷ steps) shown =
    All-append (λ x. length x.row.coef ≡ columns p) (s ∷ []) steps (first shown.0)
    (counted p (earlier ++ local_row s ∷ []) steps shown.1)
  where
    first : IsCutStep p earlier s → All (λ x. length x.row.coef ≡ columns p) (s ∷ [])
    first h zero d b =
        ap (λ (r : Linear). length r.coef) h.row ∙ length-map (range_with_len 0 (columns p)) _
        ∙ length-range_with_len 0 (columns p)
    first h (suc k) d b = absurd (omega arith)

-- ---- the rows of a leaf at a bilevel feasible point

-- a row that the point meets and that has a coefficient for each column
record IsRowAt (p : Program) (z : List ℤ) (r : Linear) : Type 0 where
  meets : Meets r z
  count : length r.coef ≡ columns p

program_rows : (p : Program) (z : List ℤ) → IsProgram p → BilevelFeasible p z
    → All (IsRowAt p z) (map inequality p.rows)
program_rows p z g f =
    All-map (IsRowAt p z) inequality p.rows
    (λ i d b. subst (λ (r : Row). IsRowAt p z (inequality r)) (get_or_default p.rows i no_row d b)
    (record { meets = f.rows.each i b; count = g.row_columns i b }))

-- where a box fixes the linking columns, they are the link of each of its points
link_of_point : (p : Program) (a : Area) (z : List ℤ) → IsProgram p → length a.lo ≡ columns p → Fixes a p.links
    → InArea a z → link_of p z ≡ fixed_link p a
link_of_point p a z g e fixes inside =
    ext_get_or (pos 0) (link_of p z) (fixed_link p a)
    (length-map p.links (λ k. component z k) ∙ sym (length-map p.links (λ k. component a.lo k)))
    (λ j b.
    let at : j < length p.links = rw length-map at b in
    let k = slice_index p.links j in
    let leads = (g.linking.exact k).0 (Contains-at p.links j at) in
    let below : k < length a.lo = let c = leads.0.column in omega arith in
    let least = inside.least k below in
    let most = inside.most k below in
    let one = fixes.fixed j at in
    let same : component z k ≡ component a.lo k = omega (arith, ints) in
    values_at-entry z p.links j at ∙ same ∙ sym (values_at-entry a.lo p.links j at))

-- what proved entries say of a box's link is true of the link of each of its points
said_at_point : (p : Program) (c : Certificate) (a : Area) (z : List ℤ) (x : Entry) → IsProgram p → IsAccepted p c
    → length a.lo ≡ columns p → Fixes a p.links → InArea a z → Says c.entries (fixed_link p a) x
    → IsTrueEntry p (link_of p z) x
said_at_point p c a z x g h e fixes inside says =
    subst (λ (l : List ℤ). IsTrueEntry p l x) (sym (link_of_point p a z g e fixes inside))
    (said_is_true p c.entries (fixed_link p a) x g h.entries says)

place_row : (p : Program) (c : Certificate) (a : Area) (w : Multipliers) (uses : Bool) (value : Option ℤ) (z : List ℤ)
    → IsProgram p → IsAccepted p c → length a.lo ≡ columns p → InArea a z → BilevelFeasible p z
    → UsesValue p c.entries a w uses value → IsRowAt p z (value_place p value)
place_row p c a w uses None z g h e inside f has =
    record { meets = zeros_ask_nothing (columns p) z; count = length-zeros (columns p) }
place_row p c a w false (Some v) z g h e inside f has = absurd (let none = has.0 in cc)
place_row p c a w true (Some v) z g h e inside f has =
    let best = said_at_point p c a z (Best has.1.0 v) g h e has.0 inside has.1.1 in
    record {
      meets = record { holds = (entry_law p z has.1.0 v g f.inside f.rows best).1.0 f };
      count = g.follower_cost_columns;
    }

cited_rows : (p : Program) (c : Certificate) (a : Area) (cited : List ℕ) (z : List ℤ) → IsProgram p → IsAccepted p c
    → InArea a z → BilevelFeasible p z → All (IsCited c.cuts a) cited
    → All (IsRowAt p z) (map (λ k. (step_at c.cuts k).row) cited)
cited_rows p c a cited z g h inside f there =
    All-map (IsRowAt p z) (λ k. (step_at c.cuts k).row) cited
    (λ i d b.
    let at = there i d b in
    record {
      meets = cuts_are_valid p c g h (slice_index_or cited i d) no_step at.below z f (point_of_part at.within inside);
      count = counted p [] c.cuts h.cuts (slice_index_or cited i d) no_step at.below;
    })

leaf_rows : (p : Program) (c : Certificate) (a : Area) (w : Multipliers) (uses : Bool) (cited : List ℕ) (z : List ℤ)
    → IsProgram p → IsAccepted p c → length a.lo ≡ columns p → InArea a z → BilevelFeasible p z
    → (b : IsBounded p c a w uses cited)
    → All (IsRowAt p z) (leaf_problem p a b.value (map (λ k. (step_at c.cuts k).row) cited)).rows
leaf_rows p c a w uses cited z g h e inside f b =
    let rest = cited_rows p c a cited z g h inside f b.there in
    All-append (IsRowAt p z) (map inequality p.rows) (value_place p b.value ∷ map (λ k. (step_at c.cuts k).row) cited)
    (program_rows p z g f)
    (All-append (IsRowAt p z) (value_place p b.value ∷ []) (map (λ k. (step_at c.cuts k).row) cited) place rest)
  where
    place : All (IsRowAt p z) (value_place p b.value ∷ [])
    place zero d s = place_row p c a w uses b.value z g h e inside f b.has
    place (suc k) d s = absurd (omega arith)

-- ---- the leaves

-- a bound holds at each point of its problem
bounds : (q : Problem) (u : Option ℤ) (w : Multipliers) (z : List ℤ) (p : Program) → q.cost ≡ p.cost → IsProblem q
    → Proves q u w → IsPoint q z → IsAtLeast u (cost_at p z)
bounds q (Some u) w z p same shape proof point =
    let least = weak_duality q u w z shape proof point in
    subst (λ (x : List ℤ). u ≤ℤ dot x z) same least
bounds q None w z p same shape proof point = no_cutoff_no_point q w z shape proof point

bounded_closes : (p : Program) (c : Certificate) (a : Area) (w : Multipliers) (uses : Bool) (cited : List ℕ)
    (z : List ℤ) → IsProgram p → IsAccepted p c → IsArea a → length a.lo ≡ columns p → InArea a z → BilevelFeasible p z
    → IsBounded p c a w uses cited → IsAtLeast (stated_cutoff p c.statement) (cost_at p z)
bounded_closes p c a w uses cited z g h area e inside f b =
    let rows = leaf_rows p c a w uses cited z g h e inside f b in
    bounds (leaf_problem p a b.value (map (λ k. (step_at c.cuts k).row) cited)) (stated_cutoff p c.statement) w z p refl
    (record {
      box = area;
      cost_columns = g.cost_columns ∙ sym e;
      row_columns = λ i s. (rows i no_linear s).count ∙ sym e;
    })
    b.proof
    (record { inside = inside; rows = λ i s. (rows i no_linear s).meets })

leaf_closes : (p : Program) (c : Certificate) (a : Area) (x : LeafProof) (z : List ℤ) → IsProgram p → IsAccepted p c
    → IsArea a → Closes p c a x → InArea a z → BilevelFeasible p z
    → IsAtLeast (stated_cutoff p c.statement) (cost_at p z)
leaf_closes p c a (Bounded w uses cited) z g h area closes inside f =
    bounded_closes p c a w uses cited z g h area (sym inside.columns ∙ f.inside.columns) inside f closes
leaf_closes p c a NoAnswer z g h area closes inside f =
    let none =
    said_at_point p c a z NoResponse g h (sym inside.columns ∙ f.inside.columns) closes.fixes inside closes.none in
    absurd (no_response_no_point p z g f.inside none (lower_from_rows p z f.rows))

-- ---- the statement

-- no bilevel feasible point costs less than what is stated
reaches_cutoff : (p : Program) (c : Certificate) → IsProgram p → IsAccepted p c → (z : List ℤ) → BilevelFeasible p z
    → IsAtLeast (stated_cutoff p c.statement) (cost_at p z)
reaches_cutoff p c g h z f =
    tree_shows Anything (Closes p c)
    (λ y. BilevelFeasible p y → IsAtLeast (stated_cutoff p c.statement) (cost_at p y))
    (λ a x y area closes inside feasible. leaf_closes p c a x y g h area closes inside feasible)
    c.tree (root p) g.box h.tree z f.inside f

-- with a point that its entry shows, that is the statement
statement_holds : (p : Program) (entries : List ProvedEntry) (s : Statement) → IsProgram p
    → All (IsProvedEntry p) entries → HasShownPoint p entries s
    → ((z : List ℤ) → BilevelFeasible p z → IsAtLeast (stated_cutoff p s) (cost_at p z)) → StatementHolds p s
statement_holds p entries (Optimal z v) g proved shown least =
    let best = shown.follower in
    let true_at = said_is_true p entries (link_of p z) (Best best.0 (follower_at p z)) g proved best.1 in
    record {
      feasible = (entry_law p z best.0 (follower_at p z) g shown.inside shown.rows true_at).0.1 refl;
      value = shown.value;
      least = least;
    }
statement_holds p entries Infeasible g proved shown least = λ z f. least z f

pub accepted_law : AcceptedLaw
accepted_law p c g h = statement_holds p c.entries c.statement g h.entries h.point (reaches_cutoff p c g h)
