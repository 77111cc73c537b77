-- What holds after each run, and what a finished book says.
use Rattle.std.proofs.Common.{◌≡◌, ℕ, zero, suc, ◌<◌, ◌≤◌, refl, sym, subst, arith, List, [], ◌∷◌}
use Rattle.std.specs.Prelude.{ℤ, ◌≤ℤ◌, Option, Some, None, MatchOption}
use Rattle.std.proofs.lemmas.Int.{ints}
use Rattle.bl_terms.specs.Points.{Area, IsArea, InArea, IsWithinArea}
use Rattle.bl_terms.specs.Programs.{Program, root, cost_at, value_at}
use Rattle.bl_terms.specs.Feasible.{BilevelFeasible, Optimal, Infeasible}
use Rattle.bl_terms.proofs.PointLemmas.{part_of_itself}
use Rattle.bl_model.specs.View.{IsModel}
use Rattle.bl_model.proofs.BoxLemmas.{two_points}
use Rattle.bl_leaf_terms.specs.Incumbents.{Incumbent, AreIncumbents, cutoff_of}
use Rattle.bl_leaf_terms.specs.Leaves.{ClosedLeaf, IsAtLeast}
use Rattle.bl_leaf_terms.proofs.LeafLemmas.{leaf_law}
use Rattle.bl_book_terms.specs.Books.{Status, Ready, Claimed, Divided, Closed, node_at, opening, Book}
use Rattle.bl_book_terms.specs.Books.{best_value, after}
use Rattle.bl_book_terms.specs.Books.{Event, Leads, IsLeaf, IsLive}
use Rattle.bl_book_terms.specs.Books.{IsCurrent, IsFinished}
use Rattle.bl_book_terms.specs.Laws.{IsSound, KeepsStatus, EveryRunIsSound, FinishedRunAnswers, RoomIsLeft}
use Rattle.bl_book_terms.proofs.NodeLemmas.{fewer_leaves}
use Rattle.bl_book_terms.proofs.StepLemmas.{step_sound}

-- ---- runs

-- the opening book is sound
opening_sound : (p : Program) (workers limit : ℕ) → IsModel p → 1 ≤ limit → IsSound (opening p workers limit)
opening_sound p workers limit m some = record {
  areas = λ k b. root_alone k b;
  within = λ k b. whole_root k b;
  covered = λ z inside. (0, record { there = omega arith; leaf = tt; inside = inside });
  once = λ z k k' l l'. let b = l.there in let b' = l'.there in omega arith;
  points = omega arith;
  made = omega arith;
  few = some;
  incumbent = tt;
  kept = λ k b. nothing_kept k b;
}
  where
    root_alone : (k : ℕ) → k < 1 → IsArea (node_at (opening p workers limit).nodes k).area
    root_alone zero b = m.sound.box
    root_alone (suc k) b = absurd (omega (arith, b))

    whole_root : (k : ℕ) → k < 1 → IsWithinArea (node_at (opening p workers limit).nodes k).area (root p)
    whole_root zero b = part_of_itself (root p)
    whole_root (suc k) b = absurd (omega (arith, b))

    nothing_kept : (k : ℕ) → k < 1
        → KeepsStatus (opening p workers limit) k (node_at (opening p workers limit).nodes k).status
    nothing_kept zero b = tt
    nothing_kept (suc k) b = absurd (omega (arith, b))

-- so is each book that steps lead to
pub led_sound : (b b' : Book) (events : List Event) → IsSound b → Leads b events b' → IsSound b'
led_sound b b' [] sound leads = subst IsSound leads sound
led_sound b b' (e ∷ events) sound leads =
    led_sound (after b e) b' events (step_sound b e sound leads.0) leads.1

pub every_run_is_sound : EveryRunIsSound
every_run_is_sound l m some run =
    led_sound (opening l.book.program l.book.workers l.book.limit) l.book l.journal
    (opening_sound l.book.program l.book.workers l.book.limit m some) run

pub room_is_left : RoomIsLeft
room_is_left l k m some run b live more =
    let sound = every_run_is_sound l m some run in
    let many = two_points (node_at l.book.nodes k).area (sound.areas k b) more in
    let fewer = fewer_leaves l.book.nodes k sound.areas b live many in
    let made = sound.made in
    let points = sound.points in
    omega (arith, fewer, made, points)

-- ---- answers

-- a leaf that isn't to be worked on is closed
closed_leaf : (s : Status) → IsLeaf s → ¬ IsLive s → (P : Type 0) → ((leaf : ClosedLeaf) → s ≡ Closed leaf → P) → P
closed_leaf Ready is dead P by = absurd (dead tt)
closed_leaf (Claimed w u) is dead P by = absurd (dead tt)
closed_leaf (Divided h licence low) is dead P by = absurd is
closed_leaf (Closed leaf) is dead P by = by leaf refl

-- what isn't below a cutoff isn't below the best value that reached it
at_least : (u v : Option ℤ) (x : ℤ) → IsCurrent u v → IsAtLeast u x → IsAtLeast v x
at_least None v x reached least = absurd least
at_least (Some u) None x reached least = absurd reached
at_least (Some u) (Some v) x reached least = omega (arith, ints, reached, least)

-- no bilevel feasible point costs less than the best value of a finished book
finished_least : (b : Book) → IsSound b → IsFinished b → (z : List ℤ) → BilevelFeasible b.program z
    → IsAtLeast (best_value b) (cost_at b.program z)
finished_least b sound finished z feasible =
    let found = sound.covered z feasible.inside in
    let k = found.0 in
    let l = found.1 in
    closed_leaf (node_at b.nodes k).status l.leaf (finished.none k l.there)
    (IsAtLeast (best_value b) (cost_at b.program z))
    (λ leaf is.
    let keeps = subst (λ (s : Status). KeepsStatus b k s) is (sound.kept k l.there) in
    let P : Program → Type 0 = λ p. BilevelFeasible p z in
    let Q : Area → Type 0 = λ a. InArea a z in
    let R : Program → Type 0 = λ p. IsAtLeast (best_value b) (cost_at p z) in
    let shown =
    leaf_law leaf keeps.holds z (subst P (sym keeps.program) feasible) (subst Q (sym keeps.area) l.inside) in
    subst R keeps.program (at_least (cutoff_of leaf.cutoff) (best_value b) (cost_at leaf.program z) keeps.reached
    shown))

answer_of : (p : Program) (best : Option Incumbent) → AreIncumbents p best
    → ((z : List ℤ) → BilevelFeasible p z → IsAtLeast (cutoff_of best) (cost_at p z))
    → MatchOption best (Infeasible p) (λ f. Optimal p f.point (value_at p f.point))
answer_of p None are least = λ z feasible. least z feasible
answer_of p (Some f) are least =
    let P : Program → Type 0 = λ q. BilevelFeasible q f.point in
    let Q : Program → Type 0 = λ q. (z : List ℤ) → BilevelFeasible p z → cost_at q f.point ≤ℤ cost_at p z in
    record { feasible = subst P are.0 are.1.feasible; value = refl; least = subst Q are.0 least }

pub finished_run_answers : FinishedRunAnswers
finished_run_answers l m some run finished =
    let sound = every_run_is_sound l m some run in
    answer_of l.book.program l.book.best sound.incumbent (finished_least l.book sound finished)
