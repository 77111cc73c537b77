-- Internal: how a proof tells two states of a shelf in memory apart.
use Rattle.std.specs.Prelude.{◌≡◌, ℕ, List, Option, None, Some, refl}
use Rattle.std.specs.Coded.{Coded, code_by, coded×, coded_ℕ, coded_list, coded_option}
use Rattle.std.specs.FinMap as finmap
use Rattle.bl_outer.specs.Files.{Files}
use Rattle.bl_outer.specs.FaultPlan.{Plan}
use Rattle.bl_outer.specs.MemShelf.{MemShelfState}
use Rattle.bl_outer.specs.Shelf.{Mode, Nothing, Reading, Writing}

-- what is chosen, as an optional name with an optional place
abbrev pub chosen_part : Mode → Option (List ℕ × Option ℕ)
chosen_part Nothing = None
chosen_part (Reading name place) = Some (name, Some place)
chosen_part (Writing name) = Some (name, None)

abbrev pub mode_at : List ℕ → Option ℕ → Mode
mode_at name None = Writing name
mode_at name (Some place) = Reading name place

abbrev pub mode_from : Option (List ℕ × Option ℕ) → Mode
mode_from None = Nothing
mode_from (Some part) = mode_at part.0 part.1

abbrev pub mode_back : (mode : Mode) → mode_from (chosen_part mode) ≡ mode
mode_back Nothing = refl
mode_back (Reading name place) = refl
mode_back (Writing name) = refl

abbrev pub mode_code : Coded Mode
mode_code = code_by (Option (List ℕ × Option ℕ))
    (coded_option (coded× (coded_list coded_ℕ) (coded_option coded_ℕ))) chosen_part mode_from mode_back

-- a record as the tuple of its fields
abbrev pub plan_code : Coded Plan
plan_code = code_by (List ℕ × ℕ) (coded× (coded_list coded_ℕ) coded_ℕ) (λ p. (p.fails, p.calls))
    (λ q. record { fails = q.0; calls = q.1 }) (λ _. refl)

abbrev pub shelf_code : Coded MemShelfState
shelf_code =
    code_by ((Files × Mode) × ((ℕ × ℕ) × (ℕ × (Option (List ℕ) × Plan))))
    (coded× (coded× (finmap.code (coded_list coded_ℕ) (coded_list coded_ℕ)) mode_code)
    (coded× (coded× coded_ℕ coded_ℕ) (coded× coded_ℕ (coded× (coded_option (coded_list coded_ℕ)) plan_code))))
    (λ s. ((s.files, s.mode), ((s.read_faults, s.write_faults), (s.misses, (s.faulted, s.plan)))))
    (λ t. record {
      files = t.0.0;
      mode = t.0.1;
      read_faults = t.1.0.0;
      write_faults = t.1.0.1;
      misses = t.1.1.0;
      faulted = t.1.1.1.0;
      plan = t.1.1.1.1;
    })
    (λ _. refl)
