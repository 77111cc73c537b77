-- The candidates that are kept show a cut.
use Rattle.std.proofs.Common.{◌≡◌, ℕ, ◌<◌, ◌≤◌, List, [], ◌∷◌, length, map, refl, sym, ap, subst, ◌∙◌, inr}
use Rattle.std.proofs.Common.{arith, Result, Ok}
use Rattle.std.specs.Prelude.{All, slice_index_or, ℤ, ◌<ℤ◌}
use Rattle.std.proofs.lemmas.List.{length-map, get_or-map}
use Rattle.std.proofs.lemmas.List.Elements.{All-nil, All-cons, All-head, All-tail}
use Rattle.std.specs.Int.{w128}
use Rattle.bl_limits.specs.declared.TheConstants.{MAX_COLUMNS}
use Rattle.bl_whole.specs.Sums.{dot}
use Rattle.bl_whole.specs.Within.{PartialDotsFit}
use Rattle.bl_terms.specs.Points.{Area, Linear, InArea, IsWithinArea}
use Rattle.bl_terms.proofs.PointLemmas.{point_of_part}
use Rattle.bl_terms.specs.Programs.{Program, columns, root, InBox, link_of, follower_at}
use Rattle.bl_terms.specs.Responses.{IsResponse, response_cost}
use Rattle.bl_terms.specs.Bounds.{Problem, IsProblem, linear_at, no_linear}
use Rattle.bl_cut_terms.specs.declared.parts.Tight.{Tight}
use Rattle.bl_cut_terms.specs.declared.parts.Tight.TheVariants.{Row}
use Rattle.bl_cut_terms.specs.NoGoods.{NoGoodCut, tight_row, tight_rows, IsUnit, Inverts, IsThere, last_step}
use Rattle.bl_cut_terms.specs.NoGoods.{cut_row, HasBetterResponse}
use Rattle.bl_cut_terms.specs.declared.parts.CutParts.{CutParts}
use Rattle.bl_cut.specs.Cuts.{AreProvedCuts}
use Rattle.bl_model.specs.Boxes.{IsBox}
use Rattle.bl_model.specs.View.{IsModel}
use Rattle.bl_elimination.specs.declared.basis.Basis.{Basis}
use Rattle.bl_elimination.specs.declared.basis.NoBasis.{NoBasis}
use Rattle.bl_elimination.specs.Elimination.{elimination}
use Rattle.bl_elimination.specs.Inverses.{IsBasis, RiseFrom}
use Rattle.bl_cut_terms.specs.Adopting.{item_at}
use Rattle.bl_cut_proof.specs.Proving.{local_rows, IsOfProgram, IsCutOf, IsOwnStep, IsSmallRow}
use Rattle.bl_cut_proof.specs.Rows.{AreRows, IsUsable, IsShown}
use Rattle.bl_cut_proof.proofs.AdoptLemmas.{Decides-order}
use Rattle.bl_cut_proof.proofs.RowLemmas.{rows_fit, point_fits, point_places}
use Rattle.bl_nogood.specs.Candidates.{AreCandidates, IsCandidate, all_items, candidate_problem}
use Rattle.bl_nogood.specs.declared.no_cut.NoCut.TheVariants.{TooLarge}
use Rattle.bl_nogood.specs.Choosing.{AreMadeParts}
use Rattle.bl_nogood.specs.Making.{parts_of, IsEliminated, IsMadeCut, IsNoCut}
use Rattle.bl_nogood.proofs.Chosen.{chosen_hold, rising_below, kept_order}

pub candidates_there : (p : Program) (a : Area) (earlier : List NoGoodCut) (z : List ℤ) (candidates : List Tight)
    → AreCandidates p a earlier z candidates → All (IsThere p a (local_rows earlier)) candidates
candidates_there p a earlier z candidates c =
    λ k d b. (chosen_hold (IsCandidate p a earlier z) (all_items p earlier) candidates c k d b).there

pub candidates_of : (p : Program) (a : Area) (earlier : List NoGoodCut) (z : List ℤ) (candidates : List Tight)
    → AreCandidates p a earlier z candidates → All (IsOfProgram p earlier) candidates
candidates_of p a earlier z candidates c =
    λ k d b. (chosen_hold (IsCandidate p a earlier z) (all_items p earlier) candidates c k d b).model

pub kept_below : (p : Program) (a : Area) (earlier : List NoGoodCut) (candidates : List Tight) (basis : Basis)
    → IsBasis (candidate_problem p a earlier candidates) basis → All (λ i. i < length candidates) basis.kept
kept_below p a earlier candidates basis b =
    rising_below 0 (length candidates) basis.kept
    (subst (λ (n : ℕ). RiseFrom 0 n basis.kept) (length-map candidates (tight_row p a (local_rows earlier))) b.rising)

-- the rows of kept items are the kept rows
kept_rows : (f : Tight → Linear) (items : List Tight) (kept : List ℕ) → All (λ i. i < length items) kept
    → map (linear_at (map f items)) kept ≡ map f (map (λ i. item_at items i) kept)
kept_rows f items [] h = refl
kept_rows f items (i ∷ kept) h =
    let here : linear_at (map f items) i ≡ f (item_at items i) =
    get_or-map f items i (Row 0) no_linear (All-head (λ j. j < length items) i kept h) in
    ap (λ r. r ∷ map (linear_at (map f items)) kept) here
    ∙ ap (λ rs. f (item_at items i) ∷ rs) (kept_rows f items kept (All-tail (λ j. j < length items) i kept h))

pub kept_shown : (p : Program) (a : Area) (earlier : List NoGoodCut) (z y : List ℤ) (candidates : List Tight)
    (basis : Basis) → IsWithinArea a (root p) → InBox p z → IsResponse p (link_of p z) y
    → response_cost p y <ℤ follower_at p z → AreCandidates p a earlier z candidates
    → IsBasis (candidate_problem p a earlier candidates) basis → IsShown p a earlier (parts_of candidates basis z y)
kept_shown p a earlier z y candidates basis within inside response cheaper c b =
    let f : Tight → Linear = tight_row p a (local_rows earlier) in
    let at : ℕ → Tight = λ i. item_at candidates i in
    let tight = map at basis.kept in
    let all = chosen_hold (IsCandidate p a earlier z) (all_items p earlier) candidates c in
    let below = kept_below p a earlier candidates basis b in
    let count : length tight ≡ length basis.kept = length-map basis.kept at in
    let item : (k : ℕ) → k < length tight → IsCandidate p a earlier z (item_at tight k) =
    λ k l. let l' : k < length basis.kept = omega (arith, count) in
    subst (IsCandidate p a earlier z) (sym (get_or-map at basis.kept k 0 (Row 0) l'))
    (all (slice_index_or basis.kept k 0) (Row 0) (below k 0 l')) in
    let rise = subst (λ (n : ℕ). RiseFrom 0 n basis.kept) (length-map candidates f) b.rising in
    let same : length a.lo ≡ columns p = within.columns in
    let rows : map (linear_at (map f candidates)) basis.kept ≡ map f tight = kept_rows f candidates basis.kept below in
    record {
      shape = record {
        items = λ k l. record { there = (item k l).there; model = (item k l).model };
        order = (Decides-order tight).1 (kept_order (IsCandidate p a earlier z) p earlier candidates basis.kept c rise);
        units_count = b.units_count ∙ same;
        units = λ k l. subst (λ (n : ℕ). IsUnit n (slice_index_or basis.units k [])) (sym (count ∙ b.count))
            (b.units k [] l);
        den_least = b.den_least;
        den_most = b.den_most;
      };
      shown = record {
        inverse = subst (λ (n : ℕ). Inverts n (map f tight) basis.den basis.units) same
            (subst (λ (rs : List Linear). Inverts (length a.lo) rs basis.den basis.units) rows b.inverse);
        tight = record {
          inside = inside;
          equal = λ i l. let l' : i < length tight = let n = length-map tight f in omega (arith, n) in
              let e : linear_at (map f tight) i ≡ f (item_at tight i) = get_or-map f tight i (Row 0) no_linear l' in
              subst (λ (r : Linear). dot r.coef z ≡ r.rhs) (sym e) (item i l').equal;
        };
        response = record { response = response; cheaper = cheaper };
      };
    }

-- ---- numbers that fit

rows_of_item : (p : Program) (a : Area) (earlier : List NoGoodCut) (x : Tight) → IsModel p → IsBox a
    → AreProvedCuts earlier → IsWithinArea a (root p) → IsUsable p a earlier x
    → AreRows (columns p) (tight_row p a (local_rows earlier) x ∷ [])
rows_of_item p a earlier x model box cuts within u =
    rows_fit p a earlier (x ∷ []) model box within.columns cuts
    (All-cons (IsThere p a (local_rows earlier)) x [] u.there (All-nil (IsThere p a (local_rows earlier))))
    (All-cons (IsOfProgram p earlier) x [] u.model (All-nil (IsOfProgram p earlier)))

pub item_places : (p : Program) (a : Area) (earlier : List NoGoodCut) (x : Tight) (z : List ℤ) (r : Linear) → IsModel p
    → IsBox a → AreProvedCuts earlier → IsWithinArea a (root p) → IsUsable p a earlier x → InBox p z
    → r ≡ tight_row p a (local_rows earlier) x → length z ≡ length r.coef
item_places p a earlier x z r model box cuts within u inside e =
    point_places p (tight_row p a (local_rows earlier) x ∷ []) 0 r z
    (rows_of_item p a earlier x model box cuts within u) inside (omega arith) e

pub item_fits : (p : Program) (a : Area) (earlier : List NoGoodCut) (x : Tight) (z : List ℤ) (r : Linear) → IsModel p
    → IsBox a → AreProvedCuts earlier → IsWithinArea a (root p) → IsUsable p a earlier x → InBox p z
    → r ≡ tight_row p a (local_rows earlier) x → PartialDotsFit w128 r.coef z
item_fits p a earlier x z r model box cuts within u inside e =
    point_fits p (tight_row p a (local_rows earlier) x ∷ []) 0 r z model
    (rows_of_item p a earlier x model box cuts within u) inside (omega arith) e

pub candidate_rows_fit : (p : Program) (a : Area) (earlier : List NoGoodCut) (z : List ℤ) (candidates : List Tight)
    (rows : List Linear) → IsModel p → IsBox a → AreProvedCuts earlier → IsWithinArea a (root p)
    → AreCandidates p a earlier z candidates → rows ≡ tight_rows p a (local_rows earlier) candidates
    → AreRows (columns p) rows
candidate_rows_fit p a earlier z candidates rows model box cuts within c e =
    subst (AreRows (columns p)) (sym e) (rows_fit p a earlier candidates model box within.columns cuts
    (candidates_there p a earlier z candidates c) (candidates_of p a earlier z candidates c))

pub problem_of_rows : (p : Program) (a : Area) (rows : List Linear) (q : Problem) → IsModel p → IsBox a
    → IsWithinArea a (root p) → AreRows (columns p) rows → q ≡ record { rows = rows; cost = p.cost; area = a }
    → IsProblem q
problem_of_rows p a rows q model box within fit e = subst IsProblem (sym e) (record {
  box = box.area;
  cost_columns = model.sound.cost_columns ∙ sym within.columns;
  row_columns = λ i b. fit.columns i b ∙ sym within.columns;
})

pub few_costs : (p : Program) (a : Area) (rows : List Linear) (q : Problem) → IsModel p → IsBox a
    → IsWithinArea a (root p) → q ≡ record { rows = rows; cost = p.cost; area = a } → length q.cost ≤ MAX_COLUMNS
few_costs p a rows q model box within e = subst (λ (x : Problem). length x.cost ≤ MAX_COLUMNS) (sym e)
    (subst (λ (n : ℕ). n ≤ MAX_COLUMNS) (sym (model.sound.cost_columns ∙ sym within.columns)) box.few)

pub count_rows : (p : Program) (a : Area) (earlier : List NoGoodCut) (candidates : List Tight) (rows : List Linear)
    → rows ≡ tight_rows p a (local_rows earlier) candidates → length rows ≡ length candidates
count_rows p a earlier candidates rows e =
    ap length e ∙ length-map candidates (tight_row p a (local_rows earlier))

-- ---- the cut that is made

parts_at : (p q : Program) (a b : Area) (earlier : List NoGoodCut) (z y : List ℤ) (parts : CutParts) (n : ℕ) → q ≡ p
    → b ≡ a → AreMadeParts q b earlier z y parts n → AreMadeParts p a earlier z y parts n
parts_at p q a b earlier z y parts n e f m =
    subst (λ (x : Program). AreMadeParts x a earlier z y parts n) e
    (subst (λ (x : Area). AreMadeParts q x earlier z y parts n) f m)

pub made_cut : (p q : Program) (a b : Area) (earlier : List NoGoodCut) (z y : List ℤ) (parts : CutParts) (n : ℕ)
    (c : NoGoodCut) → q ≡ p → b ≡ a → AreMadeParts q b earlier z y parts n → IsCutOf p a earlier parts c
    → IsOwnStep p a earlier parts (last_step c.steps) → IsMadeCut p a earlier z y c
made_cut p q a b earlier z y parts n c e f m cut own =
    let here = parts_at p q a b earlier z y parts n e f m in
    record {
      candidates = here.candidates;
      basis = here.basis;
      eliminated = here.eliminated;
      cut = subst (λ (x : CutParts). IsCutOf p a earlier x c) here.parts_are cut;
      own = subst (λ (x : CutParts). IsOwnStep p a earlier x (last_step c.steps)) here.parts_are own;
    }

pub large_row : (p q : Program) (a b : Area) (earlier : List NoGoodCut) (z y : List ℤ) (parts : CutParts) (n : ℕ)
    → q ≡ p → b ≡ a → AreMadeParts q b earlier z y parts n
    → ¬ IsSmallRow (cut_row p a (local_rows earlier) parts.tight) → IsNoCut p a earlier z y (TooLarge n)
large_row p q a b earlier z y parts n e f m large =
    let here = parts_at p q a b earlier z y parts n e f m in
    let cheaper = subst (λ (x : CutParts). HasBetterResponse p x.point x.response) here.parts_are
    here.shown.shown.response in (
      cheaper.cheaper,
      inr (record {
        candidates = here.candidates;
        basis = here.basis;
        eliminated = here.eliminated;
        large = subst (λ (x : CutParts). ¬ IsSmallRow (cut_row p a (local_rows earlier) x.tight)) here.parts_are large;
        count = here.count_is;
      }),
    )

-- the elimination's outcome is that of the candidates, and its failure is that of the cut
pub is_eliminated : (p : Program) (a : Area) (earlier : List NoGoodCut) (z : List ℤ) (candidates : List Tight)
    (rows : List Linear) (outcome : Result Basis NoBasis) → rows ≡ tight_rows p a (local_rows earlier) candidates
    → AreCandidates p a earlier z candidates
    → elimination (record { rows = rows; cost = p.cost; area = a }) ≡ outcome
    → IsEliminated p a earlier z candidates outcome
is_eliminated p a earlier z candidates rows outcome e c gives = record {
  all = c;
  gives = subst (λ (rs : List Linear). elimination (record { rows = rs; cost = p.cost; area = a }) ≡ outcome) e gives;
}

basis_at : (p : Program) (a : Area) (earlier : List NoGoodCut) (candidates : List Tight) (rows : List Linear)
    (basis : Basis) → rows ≡ tight_rows p a (local_rows earlier) candidates
    → IsBasis (record { rows = rows; cost = p.cost; area = a }) basis
    → IsBasis (candidate_problem p a earlier candidates) basis
basis_at p a earlier candidates rows basis e b =
    subst (λ (rs : List Linear). IsBasis (record { rows = rs; cost = p.cost; area = a }) basis) e b

pub kept_within : (p : Program) (a : Area) (earlier : List NoGoodCut) (candidates items : List Tight)
    (rows : List Linear) (basis : Basis) → items ≡ candidates → rows ≡ tight_rows p a (local_rows earlier) candidates
    → IsBasis (record { rows = rows; cost = p.cost; area = a }) basis → All (λ i. i < length items) basis.kept
kept_within p a earlier candidates items rows basis s e b =
    subst (λ (xs : List Tight). All (λ i. i < length xs) basis.kept) (sym s)
    (kept_below p a earlier candidates basis (basis_at p a earlier candidates rows basis e b))

pub made_parts : (p : Program) (a : Area) (earlier : List NoGoodCut) (z y : List ℤ) (candidates items : List Tight)
    (rows : List Linear) (basis : Basis) (parts : CutParts) (n : ℕ) → IsWithinArea a (root p) → InArea a z
    → IsResponse p (link_of p z) y → response_cost p y <ℤ follower_at p z → AreCandidates p a earlier z candidates
    → items ≡ candidates → rows ≡ tight_rows p a (local_rows earlier) candidates
    → elimination (record { rows = rows; cost = p.cost; area = a }) ≡ Ok basis
    → IsBasis (record { rows = rows; cost = p.cost; area = a }) basis → parts ≡ parts_of items basis z y
    → n ≡ length candidates → AreMadeParts p a earlier z y parts n
made_parts p a earlier z y candidates items rows basis parts n within inside response cheaper c s e gives b is count =
    let are : parts ≡ parts_of candidates basis z y = is ∙ ap (λ xs. parts_of xs basis z y) s in
    let at : ℕ → Tight = λ i. item_at candidates i in
    record {
      candidates = candidates;
      basis = basis;
      eliminated = is_eliminated p a earlier z candidates rows (Ok basis) e c gives;
      parts_are = are;
      count_is = count;
      square = ap (λ (x : CutParts). length x.tight) are ∙ length-map basis.kept at ∙ b.count ∙ within.columns;
      shown = subst (IsShown p a earlier) (sym are)
          (kept_shown p a earlier z y candidates basis within (point_of_part within inside) response cheaper c
          (basis_at p a earlier candidates rows basis e b));
    }
