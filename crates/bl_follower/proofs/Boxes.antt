-- What is shown of the problem at hand is shown of the problem over the box.
use Rattle.std.proofs.Common.{◌≡◌, refl, sym, ◌∙◌, subst, ap, List, inl, inr, arith}
use Rattle.std.specs.Prelude.{ℤ, Option, Some, None}
use Rattle.std.specs.Option.{IsSome}
use Rattle.std.proofs.lemmas.Int.{ints}
use Rattle.bl_whole.specs.Sums.{dot}
use Rattle.bl_terms.specs.Points.{Area, IsOnePoint}
use Rattle.bl_terms.specs.Bounds.{Problem, Multipliers, Proves, over}
use Rattle.bl_bound.specs.Plain.{IsPlainProof, OnePointClause}
use Rattle.bl_relax.specs.declared.relaxed.Relaxed.{Relaxed}
use Rattle.bl_relax.specs.Relaxed.{IsRelaxed}
use Rattle.bl_follower.specs.declared.response.Response.{Response}

pub same_problem : (q problem : Problem) (a : Area) (lo hi : List ℤ)
    → problem ≡ over q (record { lo = lo; hi = hi }) → lo ≡ a.lo → hi ≡ a.hi → problem ≡ over q a
same_problem q problem a lo hi e el eh =
    let over_lo : List ℤ → Problem = λ x. over q (record { lo = x; hi = hi }) in
    let over_hi : List ℤ → Problem = λ x. over q (record { lo = a.lo; hi = x }) in
    e ∙ ap over_lo el ∙ ap over_hi eh

pub relaxed_over : (p q : Problem) (u v : Option ℤ) (x y : Relaxed) → p ≡ q → u ≡ v → x ≡ y → IsRelaxed p u x
    → IsRelaxed q v y
relaxed_over p q u v x y ep eu ex h =
    subst (λ p. IsRelaxed p v y) ep (subst (λ u. IsRelaxed p u y) eu (subst (λ x. IsRelaxed p u x) ex h))

pub plain_over : (p q : Problem) (u v : Option ℤ) (x y : Option Multipliers) → p ≡ q → u ≡ v → x ≡ y
    → IsPlainProof p u x → IsPlainProof q v y
plain_over p q u v x y ep eu ex h =
    subst (λ p. IsPlainProof p v y) ep
    (subst (λ u. IsPlainProof p u y) eu (subst (λ x. IsPlainProof p u x) ex h))

pub one_point_over : (p q : Problem) (u v : Option ℤ) (x y : Option Multipliers) → p ≡ q → u ≡ v → x ≡ y
    → OnePointClause p u x → OnePointClause q v y
one_point_over p q u v x y ep eu ex h =
    subst (λ p. OnePointClause p v y) ep
    (subst (λ u. OnePointClause p u y) eu (subst (λ x. OnePointClause p u x) ex h))

pub made_over : (p q : Problem) (z z' : List ℤ) (r : Response) → p ≡ q → z ≡ z'
    → r ≡ record { point = z; value = dot p.cost z } → r ≡ record { point = z'; value = dot q.cost z' }
made_over p q z z' r ep ez e =
    let Made : Problem → List ℤ → Type 0 = λ p z. r ≡ record { point = z; value = dot p.cost z } in
    subst (λ p. Made p z') ep (subst (λ z. Made p z) ez e)

pub plain_proves : (q : Problem) (u : Option ℤ) (w : Multipliers) → IsPlainProof q u (Some w) → Proves q u w
plain_proves q u w (inl (r, first, e)) = subst (λ w. Proves q u w) (sym e) first.proves
plain_proves q u w (inr (none, proves, e)) = subst (λ w. Proves q u w) (sym e) proves

-- the point of a box of one point doesn't cost less than itself
pub closed_by_itself : (q : Problem) (v : ℤ) (o : Option Multipliers) → IsOnePoint q.area → v ≡ dot q.cost q.area.lo
    → OnePointClause q (Some v) o → IsSome o
closed_by_itself q v (Some w) one e h = refl
closed_by_itself q v None one e h =
    let less = ((h one).0 refl).cost in absurd (omega (arith, ints))
