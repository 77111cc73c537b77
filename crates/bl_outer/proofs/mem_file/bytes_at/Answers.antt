use Rattle.std.proofs.Common.{ℕ, List, [], ap, sym, ◌∙◌}
use Rattle.std.specs.Prelude.{Some}
use Rattle.std.proofs.lemmas.List.{get_or_read}
use Rattle.bl_outer.proofs.Entries.{held_at}
use Rattle.bl_outer.proofs.mem_file.bytes_at.Goals as goal

pub returns : goal.returns
returns c =
    let read = get_or_read _ _ _ c.requires.within c.index-files-index.is ([], []) in
    held_at _ _ c.requires ∙ ap (λ (file : List ℕ × List ℕ). Some file.1) (sym read) ∙ ap Some (sym c.bytes.ensures)
