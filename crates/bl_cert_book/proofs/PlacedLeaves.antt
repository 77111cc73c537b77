-- What closes a leaf of a book closes it in the certificate.
use Rattle.std.proofs.Common.{◌≡◌, ℕ, zero, suc, ◌+◌, ◌<◌, refl, sym, ◌∙◌, ap, subst, arith, Bool, true, false, cond}
use Rattle.std.proofs.Common.{List, [], ◌∷◌, ◌++◌, length, map, take, drop, Option, Some, None, add-one}
use Rattle.std.specs.Prelude.{ℤ, pos, ◌+ℤ◌, All, nat_lt, slice_index, is_some}
use Rattle.std.specs.List.{zip}
use Rattle.std.specs.List.Sorted.{IsStrictlyIncreasing}
use Rattle.std.proofs.lemmas.Option.{option_and_then_some}
use Rattle.std.proofs.lemmas.Bool.Decides.{nat_tests}
use Rattle.std.proofs.lemmas.List.{length-append, length-map, length-take-le, length-drop, take-append-drop}
use Rattle.std.proofs.lemmas.List.{append_assoc, get_or_append_left}
use Rattle.std.proofs.lemmas.List.Elements.{All-append, All-take, All-drop, All-map, All-nil, All-cons, All-head}
use Rattle.std.proofs.lemmas.List.Elements.{All-tail}
use Rattle.std.proofs.lemmas.Slice.Zip.{firsts-zip, seconds-zip}
use Rattle.bl_whole.specs.Sums.{component}
use Rattle.bl_terms.specs.Points.{Area, IsWithinArea, Linear}
use Rattle.bl_terms.specs.Programs.{Program, inequality}
use Rattle.bl_terms.specs.Bounds.{Multipliers, Proves}
use Rattle.bl_terms.proofs.TestLemmas.{and_true}
use Rattle.bl_model.specs.View.{IsModel}
use Rattle.bl_fproof.specs.Entries.{Admitted}
use Rattle.bl_cut_terms.specs.NoGoods.{LocalRow, CutStep, AreCutSteps, NoGoodCut, step_at}
use Rattle.bl_cut_terms.specs.Adopting.{Adopted}
use Rattle.bl_cut_proof.proofs.AdoptLemmas.{Extends, some_same}
use Rattle.bl_leaf_terms.specs.Nodes.{fixed_link}
use Rattle.bl_leaf_terms.specs.Leaves as leaves
use Rattle.bl_leaf_terms.specs.Leaves.{value_place, leaf_problem, IsCutFor, HasValueFor, IsBounded, IsShownClosed}
use Rattle.bl_book_terms.specs.Books.{IsCurrent}
use Rattle.bl_cert_terms.specs.Certificates as certificates
use Rattle.bl_cert_terms.specs.Certificates.{ProvedEntry, Bounded, NoAnswer, Certificate, IsProvedEntry, IsCited}
use Rattle.bl_cert_terms.specs.Certificates.{UsesValue, Closes, stated_cutoff}
use Rattle.bl_cert_book.specs.Entries.{entries_of_leaf}
use Rattle.bl_cert_book.specs.Leaves.{adopt_all, by_place, are_rising, cited_pairs, with_pairs, PlacedLeaf}
use Rattle.bl_cert_book.specs.Leaves.{bounded_leaf, placed_leaf}
use Rattle.bl_cert_book.proofs.Weights.{weighted, weighted-append, places_of, multipliers_of, pair_sum}
use Rattle.bl_cert_book.proofs.Weights.{pair_sum-by_place, all-by_place, length-by_place, IsMultiplier}
use Rattle.bl_cert_book.proofs.Weights.{each_multiplier, proves_over, proves_lower}
use Rattle.bl_cert_book.proofs.EntryLemmas.{HasLink, says_best, says_none}
use Rattle.bl_cert_book.proofs.CutLemmas.{StandAt, stand_later, stand_count, stand_rows, at_each_place}
use Rattle.bl_cert_book.proofs.CutLemmas.{extends_itself, cuts_taken}

-- ---- places that rise

rising_from_test : (places : List ℕ) → are_rising places ≡ true → IsStrictlyIncreasing places
rising_from_test [] e k b = absurd (omega arith)
rising_from_test (i ∷ []) e k b = absurd (omega arith)
rising_from_test (i ∷ j ∷ places) e zero b =
    let h = (and_true (nat_lt i j) (are_rising (j ∷ places)) e).0 in grind (arith, nat_tests)
rising_from_test (i ∷ j ∷ places) e (suc k) b =
    let h = rising_from_test (j ∷ places) (and_true (nat_lt i j) (are_rising (j ∷ places)) e).1 k (omega arith) in
    subst (λ (n : ℕ). slice_index (j ∷ places) k < slice_index (i ∷ j ∷ places) n) (sym (add-one (suc k)))
    (subst (λ (n : ℕ). slice_index (j ∷ places) k < slice_index (j ∷ places) n) (add-one k) h)

-- ---- the pairs of a leaf

all_of_map : {X : Type 0} (f : ℕ × ℤ → X) (P : X → Type 0) (xs : List (ℕ × ℤ)) → All P (map f xs)
    → All (λ x. P (f x)) xs
all_of_map f P [] each = All-nil (λ x. P (f x))
all_of_map f P (x ∷ xs) each =
    All-cons (λ y. P (f y)) x xs (All-head P (f x) (map f xs) each)
    (all_of_map f P xs (All-tail P (f x) (map f xs) each))

-- what holds of each place holds of each in their order
each_place : (P : ℕ → Type 0) (n : ℕ) (w : Multipliers) (places : List ℕ) → length (drop n w.mult) ≡ length places
    → All P places → All P (places_of (cited_pairs n w places))
each_place P n w places e each =
    let pairs = zip places (drop n w.mult) in
    let firsts : places_of pairs ≡ places = firsts-zip places (drop n w.mult) e in
    All-map P (λ x. x.0) (by_place pairs)
    (all-by_place (λ x. P x.0) pairs
    (all_of_map (λ x. x.0) P pairs (subst (All P) (sym firsts) each)))

each_pair_multiplier : (n : ℕ) (w : Multipliers) (places : List ℕ) → length (drop n w.mult) ≡ length places
    → All IsMultiplier w.mult → All IsMultiplier (multipliers_of (cited_pairs n w places))
each_pair_multiplier n w places e each =
    let pairs = zip places (drop n w.mult) in
    let seconds : multipliers_of pairs ≡ drop n w.mult = seconds-zip places (drop n w.mult) e in
    All-map IsMultiplier (λ x. x.1) (by_place pairs)
    (all-by_place (λ x. IsMultiplier x.1) pairs
    (all_of_map (λ x. x.1) IsMultiplier pairs
    (subst (All IsMultiplier) (sym seconds) (All-drop IsMultiplier n w.mult each))))

pairs_count : (n : ℕ) (w : Multipliers) (places : List ℕ) → length (drop n w.mult) ≡ length places
    → length (cited_pairs n w places) ≡ length places
pairs_count n w places e =
    let pairs = zip places (drop n w.mult) in
    let firsts : places_of pairs ≡ places = firsts-zip places (drop n w.mult) e in
    length-by_place pairs ∙ sym (length-map pairs (λ x. x.0)) ∙ ap length firsts

pairs_sum : (h : Linear → ℤ) (row : ℕ → Linear) (n : ℕ) (w : Multipliers) (places : List ℕ)
    → length (drop n w.mult) ≡ length places
    → pair_sum h row (cited_pairs n w places) ≡ weighted h (drop n w.mult) (map row places)
pairs_sum h row n w places e =
    let pairs = zip places (drop n w.mult) in
    let firsts : places_of pairs ≡ places = firsts-zip places (drop n w.mult) e in
    let seconds : multipliers_of pairs ≡ drop n w.mult = seconds-zip places (drop n w.mult) e in
    pair_sum-by_place h row pairs ∙ ap (λ ms. weighted h ms (map row (places_of pairs))) seconds
    ∙ ap (λ ks. weighted h (drop n w.mult) (map row ks)) firsts

-- ---- the proof of a leaf over the rows at its places

-- the rows of a leaf before those of its cuts
abbrev first_rows : Program → Option ℤ → List Linear
first_rows p value = map inequality p.rows ++ value_place p value ∷ []

rows_are : (p : Program) (a : Area) (value : Option ℤ) (rows : List Linear)
    → (leaf_problem p a value rows).rows ≡ first_rows p value ++ rows
rows_are p a value rows = sym (append_assoc (map inequality p.rows) (value_place p value ∷ []) rows)

first_count : (p : Program) (value : Option ℤ) → length (first_rows p value) ≡ length p.rows + 1
first_count p value =
    length-append (map inequality p.rows) (value_place p value ∷ []) ∙ ap (λ n. n + 1) (length-map p.rows inequality)

placed_proof : (p : Program) (a : Area) (value u : Option ℤ) (w : Multipliers) (row : ℕ → Linear) (places : List ℕ)
    → Proves (leaf_problem p a value (map row places)) u w
    → Proves (leaf_problem p a value (map row (places_of (cited_pairs (length p.rows + 1) w places)))) u
    (with_pairs (length p.rows + 1) w (cited_pairs (length p.rows + 1) w places))
placed_proof p a value u w row places proof =
    let n = length p.rows + 1 in
    let first = first_rows p value in
    let pairs = cited_pairs n w places in
    let ts = take n w.mult in
    let ms = drop n w.mult in
    let first_length = first_count p value in
    let all : length w.mult ≡ n + length places =
    proof.rows ∙ ap length (rows_are p a value (map row places)) ∙ length-append first (map row places)
    ∙ ap (λ k. k + length (map row places)) first_length ∙ ap (λ k. n + k) (length-map places row) in
    let ts_length : length ts ≡ n = length-take-le n w.mult (omega arith) in
    let ms_length : length ms ≡ length places = length-drop n w.mult ∙ (omega arith) in
    let multipliers = each_multiplier w proof.multipliers in
    let count : length (ts ++ multipliers_of pairs) ≡ length (first ++ map row (places_of pairs)) =
    let l = length-append ts (multipliers_of pairs) in
    let r = length-append first (map row (places_of pairs)) in
    let lm = length-map pairs (λ x. x.1) in
    let rm = length-map (places_of pairs) row in
    let pm = length-map pairs (λ x. x.0) in
    omega arith in
    let same : (h : Linear → ℤ) → weighted h (ts ++ multipliers_of pairs) (first ++ map row (places_of pairs))
    ≡ weighted h w.mult (first ++ map row places) =
    λ h. weighted-append h ts (multipliers_of pairs) first (map row (places_of pairs)) (ts_length ∙ sym first_length)
    ∙ ap (λ x. weighted h ts first +ℤ x) (pairs_sum h row n w places ms_length)
    ∙ sym (weighted-append h ts ms first (map row places) (ts_length ∙ sym first_length))
    ∙ ap (λ xs. weighted h xs (first ++ map row places)) (take-append-drop n w.mult) in
    let old : Proves (record { rows = first ++ map row places; cost = p.cost; area = a }) u w =
    subst (λ (rows : List Linear). Proves (record { rows = rows; cost = p.cost; area = a }) u w)
    (rows_are p a value (map row places)) proof in
    let new =
    proves_over p.cost a (first ++ map row places) (first ++ map row (places_of pairs)) u w.den w.mult
    (ts ++ multipliers_of pairs) old count
    (All-append IsMultiplier ts (multipliers_of pairs) (All-take IsMultiplier n w.mult multipliers)
    (each_pair_multiplier n w places ms_length multipliers)) same in
    subst (λ (rows : List Linear). Proves (record { rows = rows; cost = p.cost; area = a }) u
    (record { den = w.den; mult = ts ++ multipliers_of pairs }))
    (sym (rows_are p a value (map row (places_of pairs)))) new

-- how many multipliers a leaf has
multiplier_count : (p : Program) (a : Area) (value u : Option ℤ) (w : Multipliers) (rows : List Linear)
    → Proves (leaf_problem p a value rows) u w → length w.mult ≡ (length p.rows + 1) + length rows
multiplier_count p a value u w rows proof =
    proof.rows ∙ ap length (rows_are p a value rows) ∙ length-append (first_rows p value) rows
    ∙ ap (λ k. k + length rows) (first_count p value)

cut_multiplier_count : (p : Program) (a : Area) (value u : Option ℤ) (w : Multipliers) (rows : List Linear)
    → Proves (leaf_problem p a value rows) u w → length (drop (length p.rows + 1) w.mult) ≡ length rows
cut_multiplier_count p a value u w rows proof =
    let all = multiplier_count p a value u w rows proof in
    length-drop (length p.rows + 1) w.mult ∙ (omega arith)

-- ---- the leaf in the certificate

-- the multiplier of the value row is as it was
value_multiplier : (k : ℕ) (w : Multipliers) (pairs : List (ℕ × ℤ)) → k < length w.mult
    → component (with_pairs (k + 1) w pairs).mult k ≡ component w.mult k
value_multiplier k w pairs b =
    let ts = take (k + 1) w.mult in
    let l : length ts ≡ k + 1 = length-take-le (k + 1) w.mult (omega arith) in
    get_or_append_left ts (multipliers_of pairs) (pos 0) k (omega arith)
    ∙ sym (get_or_append_left ts (drop (k + 1) w.mult) (pos 0) k (omega arith))
    ∙ ap (λ xs. component xs k) (take-append-drop (k + 1) w.mult)

uses_value : (p : Program) (a : Area) (w : Multipliers) (pairs : List (ℕ × ℤ)) (entries : List ProvedEntry)
    (cuts : List NoGoodCut) (entry : Option Admitted) (value : Option ℤ) → IsModel p → All (IsProvedEntry p) entries
    → All (HasLink entries) (entries_of_leaf (leaves.Bounded w cuts entry)) → length p.rows < length w.mult
    → HasValueFor p a w entry value
    → UsesValue p entries a (with_pairs (length p.rows + 1) w pairs) (is_some entry) value
uses_value p a w pairs entries cuts None value m proved links b has =
    (has.0, value_multiplier (length p.rows) w pairs b ∙ has.1)
uses_value p a w pairs entries cuts (Some e) None m proved links b has = absurd has
uses_value p a w pairs entries cuts (Some e) (Some v) m proved links b has = (
  has.fixes,
  says_best p entries (fixed_link p a) e has.best.0 v m proved has.entry (All-head (HasLink entries) e [] links)
      has.best.1,
)

-- what a leaf needs of a certificate: its cuts go on from the list, its entries are proved and have the links of the
-- leaf, and its cutoff is no higher
pub record IsAround (p : Program) (u : Option ℤ) (steps : List CutStep) (used : List Admitted) (c : Certificate)
    : Type 0
  where
    pub extends : Extends steps c.cuts
    pub proved : All (IsProvedEntry p) c.entries
    pub links : All (HasLink c.entries) used
    pub current : IsCurrent u (stated_cutoff p c.statement)

bounded_closes : (p : Program) (a : Area) (u : Option ℤ) (w : Multipliers) (cuts : List NoGoodCut)
    (entry : Option Admitted) (d : Adopted) (c : Certificate) → IsModel p → IsBounded p a u w cuts entry
    → StandAt d.steps cuts d.places
    → are_rising (places_of (cited_pairs (length p.rows + 1) w d.places)) ≡ true
    → IsAround p u d.steps (entries_of_leaf (leaves.Bounded w cuts entry)) c
    → certificates.IsBounded p c a (with_pairs (length p.rows + 1) w (cited_pairs (length p.rows + 1) w d.places))
    (is_some entry) (places_of (cited_pairs (length p.rows + 1) w d.places))
bounded_closes p a u w cuts entry d c m h old test around =
    let n = length p.rows + 1 in
    let places = d.places in
    let row : ℕ → Linear = λ k. (step_at c.cuts k).row in
    let stand = stand_later d.steps c.cuts cuts places around.extends old in
    let proof : Proves (leaf_problem p a h.value (map row places)) u w =
    subst (λ (rows : List Linear). Proves (leaf_problem p a h.value rows) u w)
    (sym (stand_rows c.cuts cuts places stand)) h.proof in
    let all = multiplier_count p a h.value u w (map row places) proof in
    let count : length (drop n w.mult) ≡ length places =
    cut_multiplier_count p a h.value u w (map row places) proof ∙ length-map places row in
    let pairs = cited_pairs n w places in
    let few = h.few in
    let same = stand_count c.cuts cuts places stand in
    let paired = pairs_count n w places count in
    let mapped = length-map pairs (λ x. x.0) in
    record {
      few = omega (arith, few, same, paired, mapped);
      rising = rising_from_test (places_of pairs) test;
      there =
          each_place (IsCited c.cuts a) n w places count
          (at_each_place (IsCited c.cuts a) (IsCutFor p a) c.cuts cuts places
          (λ cut k for stands. record {
            below = stands.below;
            within = subst (λ (r : LocalRow). IsWithinArea a r.area) (sym stands.at) for.within;
          }) h.valid stand);
      value = h.value;
      has =
          uses_value p a w pairs c.entries cuts entry h.value m around.proved around.links (omega (arith, all)) h.has;
      proof =
          proves_lower (leaf_problem p a h.value (map row (places_of pairs))) u (stated_cutoff p c.statement)
          (with_pairs n w pairs) around.current (placed_proof p a h.value u w row places proof);
    }

-- a leaf is placed: the list of cuts goes on, and the leaf closes its box in each certificate around it
pub record IsPlaced (p : Program) (a : Area) (u : Option ℤ) (evidence : leaves.Evidence) (steps : List CutStep)
    (x : PlacedLeaf) : Type 0 where
  pub steps_are : AreCutSteps p [] x.steps
  pub extends : Extends steps x.steps
  pub closes : (c : Certificate) → IsAround p u x.steps (entries_of_leaf evidence) c → Closes p c a x.leaf

bounded_placed : (p : Program) (a : Area) (u : Option ℤ) (w : Multipliers) (cuts : List NoGoodCut)
    (entry : Option Admitted) (steps : List CutStep) (d : Adopted) (x : PlacedLeaf) → IsModel p
    → IsBounded p a u w cuts entry → AreCutSteps p [] d.steps → Extends steps d.steps → StandAt d.steps cuts d.places
    → bounded_leaf (length p.rows + 1) w (is_some entry) d ≡ Some x
    → IsPlaced p a u (leaves.Bounded w cuts entry) steps x
bounded_placed p a u w cuts entry steps d x m h are extends stand e =
    by (are_rising (places_of (cited_pairs (length p.rows + 1) w d.places))) refl e
  where
    leaf : PlacedLeaf
    leaf = record {
      steps = d.steps;
      leaf =
          Bounded (with_pairs (length p.rows + 1) w (cited_pairs (length p.rows + 1) w d.places)) (is_some entry)
          (places_of (cited_pairs (length p.rows + 1) w d.places));
    }

    by : (t : Bool) → are_rising (places_of (cited_pairs (length p.rows + 1) w d.places)) ≡ t
        → cond t (Some leaf) None ≡ Some x → IsPlaced p a u (leaves.Bounded w cuts entry) steps x
    by true test f =
        let at_leaf : IsPlaced p a u (leaves.Bounded w cuts entry) steps leaf = record {
          steps_are = are;
          extends = extends;
          closes = λ c around. bounded_closes p a u w cuts entry d c m h stand test around;
        } in
        subst (IsPlaced p a u (leaves.Bounded w cuts entry) steps) (some_same leaf x f) at_leaf
    by false test f = absurd cc

pub leaf_placed : (p : Program) (a : Area) (u : Option ℤ) (evidence : leaves.Evidence) (steps : List CutStep)
    (x : PlacedLeaf) → IsModel p → IsShownClosed p a u evidence → AreCutSteps p [] steps
    → placed_leaf (length p.rows + 1) steps evidence ≡ Some x → IsPlaced p a u evidence steps x
leaf_placed p a u (leaves.Bounded w cuts entry) steps x m h old e =
    let start : Adopted = record { steps = steps; places = [] } in
    option_and_then_some (bounded_leaf (length p.rows + 1) w (is_some entry)) (adopt_all start cuts) x e
    (λ d is f.
    let taken = cuts_taken p a start d cuts h.valid old is in
    bounded_placed p a u w cuts entry steps d x m h taken.steps taken.extends
    (subst (StandAt d.steps cuts) (sym taken.noted) taken.stand) f)
leaf_placed p a u (leaves.NoAnswer e) steps x m h old f =
    let leaf : PlacedLeaf = record { steps = steps; leaf = NoAnswer } in
    let at_leaf : IsPlaced p a u (leaves.NoAnswer e) steps leaf = record {
      steps_are = old;
      extends = extends_itself steps;
      closes = λ c around. record {
        fixes = h.fixes;
        none =
            says_none p c.entries (fixed_link p a) e m around.proved h.entry
            (All-head (HasLink c.entries) e [] around.links) h.none;
      };
    } in
    subst (IsPlaced p a u (leaves.NoAnswer e) steps) (some_same leaf x f) at_leaf
