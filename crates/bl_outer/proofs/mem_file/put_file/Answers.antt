use Rattle.std.proofs.Common.{arith, ap, ◌∙◌, ◌≡◌, ℕ, ◌-◌, length, List, [], ◌∷◌, ◌++◌}
use Rattle.bl_outer.proofs.Entries.{put_over, put_last, last_place}
use Rattle.bl_outer.proofs.mem_file.put_file.Goals as goal

pub returns-in_ok-replace-in-Some-clause-put : goal.returns-in_ok-replace-in-Some-clause-put
returns-in_ok-replace-in-Some-clause-put c =
    let found = rw c.deref.ensures.value at c.in-Some.ensures.found in
    put_over _ _ found.0 _ _ _ c.index_mut-file.ensures.value _ _ c.in_ok-replace-in-Some.ensures.ok found.1

pub returns-in_ok-push-in-None-clause-put : goal.returns-in_ok-push-in-None-clause-put
returns-in_ok-push-in-None-clause-put c =
    let none = rw c.deref.ensures.value at c.in-None.ensures.absent in
    put_last _ _ _ _ none
    (c.in_ok-push-in-None.ensures.items
    ∙ ap (λ (file : List ℕ × List ℕ). c.args.files.now.items ++ file ∷ []) c.in_ok-new-in-None.ensures)

pub returns-in_ok-push-in-None-clause-place : goal.returns-in_ok-push-in-None-clause-place
returns-in_ok-push-in-None-clause-place c =
    let none = rw c.deref.ensures.value at c.in-None.ensures.absent in
    let last : c.len.result - 1 ≡ length c.args.files.now.items =
    omega (arith, c.in_ok-push-in-None.ensures.len, c.args.files.now.ok.0) in
    last_place _ _ _ _ none
    (c.in_ok-push-in-None.ensures.items
    ∙ ap (λ (file : List ℕ × List ℕ). c.args.files.now.items ++ file ∷ []) c.in_ok-new-in-None.ensures) _ last
