use Rattle.std.proofs.Common.{◌≡◌, ℕ, suc, ◌+◌, ◌<◌, Bool, true, false, List, [], ◌∷◌, ◌++◌, length, drop, sym, ap}
use Rattle.std.proofs.Common.{refl, ◌∙◌, pos, ℤ, of_z, w64, add-one, append_assoc, rules, arith, to_z, FitsSigned}
use Rattle.std.proofs.Common.{append-nil}
use Rattle.std.specs.Prelude.{slice_index_or, if◌then◌else◌}
use Rattle.std.specs.Ordering.{int_eq}
use Rattle.std.proofs.lemmas.Bool.{false_from_ne_true}
use Rattle.std.proofs.lemmas.Bool.Decides.{Decides-int_eq}
use Rattle.std.proofs.lemmas.Int.{to_z-of_z, ints}
use Rattle.std.proofs.lemmas.List.{at_drop_more}
use Rattle.bl_check_terms.specs.Values.{pairs_from}
use Rattle.bl_cert.proofs.lines.pairs_of.Goals as goal
use Rattle.bl_cert.proofs.lines.pairs_of.Goals.{then-numbers-k-ne0+in_ok-push, else-numbers-k-ne0}

-- a number with its index, where it isn't 0
abbrev pair_here : ℕ → ℤ → List (ℤ × ℤ)
pair_here k m = if int_eq m (pos 0) then [] else (pos k, m) ∷ []

further-by : (b : Bool) (k : ℕ) (m : ℤ) (rest : List (ℤ × ℤ))
    → (if b then rest else (pos k, m) ∷ rest) ≡ (if b then [] else (pos k, m) ∷ []) ++ rest
further-by true k m rest = refl
further-by false k m rest = refl

-- the pairs from k on are that of k and those from the next index on
further : (numbers : List ℤ) (k : ℕ) → k < length numbers
    → pairs_from k (drop k numbers)
    ≡ pair_here k (slice_index_or numbers k (pos 0)) ++ pairs_from (k + 1) (drop (k + 1) numbers)
further numbers k below =
    let m = slice_index_or numbers k (pos 0) in
    at_drop_more (pairs_from k) numbers k (pos 0) below
    ∙ (further-by (int_eq m (pos 0)) k m (pairs_from (suc k) (drop (k + 1) numbers))
    ∙ ap (λ (n : ℕ). pair_here k m ++ pairs_from n (drop (k + 1) numbers)) (sym (add-one k)))

none-here : (k : ℕ) (m : ℤ) → m ≡ pos 0 → pair_here k m ≡ []
none-here k m e = rw ((Decides-int_eq m (pos 0)).1 e) refl

one-here : (k : ℕ) (m : ℤ) → (m ≡ pos 0 → ⊥) → pair_here k m ≡ (pos k, m) ∷ []
one-here k m ne = rw (false_from_ne_true (int_eq m (pos 0)) (λ t. ne ((Decides-int_eq m (pos 0)).0 t))) refl

-- the pairs so far with that of k
put : (pairs here more all : List (ℤ × ℤ)) (new rest : List (ℤ × ℤ)) → pairs ++ more ≡ all → more ≡ here ++ rest
    → new ≡ pairs ++ here → new ++ rest ≡ all
put pairs here more all new rest was split is =
    ap (λ (ps : List (ℤ × ℤ)). ps ++ rest) is
    ∙ (append_assoc pairs here rest ∙ (ap (λ (ps : List (ℤ × ℤ)). pairs ++ ps) (sym split) ∙ was))

pub loop-k-preserved : goal.loop-k-preserved
loop-k-preserved c =
    let numbers = c.args.numbers.now in
    let k = c.loop-k.k in
    let m = slice_index_or numbers k (pos 0) in
    let fits : FitsSigned w64 (slice_index_or numbers k (pos 0)) = search rules in
    let small : to_z w64 k ≡ pos k = omega (arith, ints) in
    let split = further numbers k c.loop-k-test.true in
    let rest = pairs_from (k + 1) (drop (k + 1) numbers) in
    elim c.if-numbers-k-ne0.branch [
      | then-numbers-k-ne0+in_ok-push w ↦
          put c.loop-k.pairs.items (pair_here k m) (pairs_from k (drop k numbers)) (pairs_from 0 numbers)
          c.if-numbers-k-ne0.pairs.items rest c.loop-k.invariant split
          (rw (one-here k m (λ e. w.if-numbers-k-ne0.true (ap (of_z w64) e)), w.pairs-is)
          (simp (small, to_z-of_z) at w.in_ok-push.ensures.items))
      | else-numbers-k-ne0 w ↦
          put c.loop-k.pairs.items (pair_here k m) (pairs_from k (drop k numbers)) (pairs_from 0 numbers)
          c.if-numbers-k-ne0.pairs.items rest c.loop-k.invariant split
          (rw (none-here k m (omega (arith, ints)), w.pairs-is) (sym (append-nil c.loop-k.pairs.items)))
    ]
