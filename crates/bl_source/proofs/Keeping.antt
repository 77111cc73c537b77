-- A put that keeps an entry takes none away.
use Rattle.std.proofs.Common.{◌≡◌, ◌∷◌, [], List, sym, subst}
use Rattle.std.specs.Prelude.{Option, Some, None, MatchOption, Result, Ok, Contains}
use Rattle.std.proofs.lemmas.List.Elements.{Contains-append_left}
use Rattle.bl_fproof.specs.Entries.{Admitted}
use Rattle.bl_pool.specs.declared.fail.PutFail.{PutFail}
use Rattle.bl_pool.specs.Pools.{EntryPool, entry_of_link, with_entry}
use Rattle.bl_pool.specs.Puts.{IsAdded, IsThere, IsPut}

stays : (old new : EntryPool) (e kept x : Admitted) (o : Option Admitted)
    → MatchOption o (IsAdded old e kept new) (λ first. IsThere old first kept new) → Contains old.entries x
    → Contains new.entries x
stays old new e kept x None added here =
    subst (λ pool. Contains pool.entries x) (sym added.after) (Contains-append_left old.entries (e ∷ []) x here)
stays old new e kept x (Some first) there here = subst (λ pool. Contains pool.entries x) (sym there.after) here

pub kept_entries : (old new : EntryPool) (e kept x : Admitted) (answer : Result Admitted PutFail) → answer ≡ Ok kept
    → IsPut old e answer new → Contains old.entries x → Contains new.entries x
kept_entries old new e kept x answer is put here =
    let ok : IsPut old e (Ok kept) new = subst (λ r. IsPut old e r new) is put in
    stays old new e kept x (entry_of_link e.link old.entries) ok.answer here
