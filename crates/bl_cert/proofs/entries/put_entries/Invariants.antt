use Rattle.std.proofs.Common.{◌≡◌, ◌++◌, map}
use Rattle.std.specs.List.{flat_map}
use Rattle.std.specs.Map.Iter.{deref}
use Rattle.bl_cert_book.specs.Entries.{proved_entry}
use Rattle.bl_certtext.specs.Texts.{text_of}
use Rattle.bl_check_terms.specs.Writing.{entry_lines}
use Rattle.bl_cert.proofs.entries.put_entries.Given as goal

abbrev pub invariant-loop-kept : goal.invariant-loop-kept
invariant-loop-kept l =
    l.text.items
    ≡ l.fn.text.items ++ text_of (flat_map (entry_lines l.model) (map proved_entry (map deref l.yielded)))
