-- Internal: a shelf in memory.
use Rattle.std.specs.Prelude.{ℕ, List, None, Some}
use Rattle.std.specs.declared.option.Option.{Option}
use Rattle.std.specs.FinMap as finmap
use Rattle.bl_outer.specs.declared.mem_shelf.Chosen.{Chosen}
use Rattle.bl_outer.specs.declared.mem_shelf.Chosen.TheVariants as chosen
use Rattle.bl_outer.specs.Files.{Files}
use Rattle.bl_outer.specs.Shelf.{Mode, Nothing, Reading, Writing, ShelfState}
use Rattle.bl_outer.specs.FaultPlan.{Plan, new_plan}
use Rattle.bl_outer.specs.MemFile.{Entries, IsFirst, name_at}

-- its files, the chosen one, its counts, the name that failed last, and which calls are to fail
pub record MemShelfState : Type 0 where
  pub files : Files
  pub mode : Mode
  pub read_faults : ℕ
  pub write_faults : ℕ
  pub misses : ℕ
  pub faulted : Option (List ℕ)
  pub plan : Plan

-- what it tells
abbrev pub shelf_state : MemShelfState → ShelfState
shelf_state shelf = record {
  contents = Some shelf.files;
  mode = shelf.mode;
  read_faults = shelf.read_faults;
  write_faults = shelf.write_faults;
  misses = shelf.misses;
  faulted = shelf.faulted;
}

-- no files, and nothing chosen or counted
abbrev pub empty_shelf : List ℕ → MemShelfState
empty_shelf fails = record {
  files = finmap.empty;
  mode = Nothing;
  read_faults = 0;
  write_faults = 0;
  misses = 0;
  faulted = None;
  plan = new_plan fails;
}

-- what is chosen, by name
abbrev pub mode_of : Chosen → Entries → Mode
mode_of chosen.Nothing files = Nothing
mode_of (chosen.Reading file place) files = Reading (name_at files file) place
mode_of (chosen.Writing file) files = Writing (name_at files file)

-- the chosen file is there, and is the first of its name
abbrev pub IsInPlace : Chosen → Entries → Type 0
IsInPlace chosen.Nothing files = Unit {0}
IsInPlace (chosen.Reading file place) files = IsFirst files file
IsInPlace (chosen.Writing file) files = IsFirst files file
