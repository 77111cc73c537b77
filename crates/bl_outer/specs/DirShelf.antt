-- Internal: what is chosen in a folder.
use Rattle.std.specs.Prelude.{string_bytes}
use Rattle.bl_outer.specs.declared.dir_shelf.ChosenFile.{ChosenFile}
use Rattle.bl_outer.specs.declared.dir_shelf.ChosenFile.TheVariants as chosen
use Rattle.bl_outer.specs.Shelf.{Mode, Nothing, Reading, Writing}

-- what is chosen, by name
abbrev pub mode_of : {F : Type 0} → ChosenFile F → Mode
mode_of chosen.Nothing = Nothing
mode_of (chosen.Reading name place file) = Reading (string_bytes name) place
mode_of (chosen.Writing name file) = Writing (string_bytes name)
