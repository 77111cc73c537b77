-- Trusted: how a command ends, with the exit status of each ending and its line on the error output.
use Rattle.std.specs.Prelude.{ℕ, ℤ, List, [], ◌++◌, Option, None, Some, codes, decimal}
use Rattle.std.specs.Fmt.{signed_decimal}
use Rattle.std.specs.List.{flat_map}

-- where a text breaks a rule: at a line, at a column of the model, or as a whole
pub data Place : Type 0 where
  AtLine : ℕ → Place
  AtColumn : ℕ → Place
  AsWhole : Place

-- what couldn't be written: the file of this name, or the output
pub data Target : Type 0 where
  ToFile : List ℕ → Target
  ToOutput : Target

-- The endings, in the order of their statuses. Files and rules are named by their texts.
pub data Ending : Type 0 where
  Done : Ending  -- an optimal point was found, or all was done
  NoPoint : Ending  -- no point is bilevel feasible
  BadWords : Ending  -- the words aren't understood
  BadText : List ℕ → Place → List ℕ → Ending  -- the file's text breaks the rule there
  NodesSpent : ℕ → ℕ → Ending  -- the budget of nodes, and how many were made
  FollowerSpent : ℕ → ℕ → List ℤ → Ending  -- the same of the follower's nodes, and the link
  ReadFault : List ℕ → Ending  -- reading the file failed
  WriteFault : Target → Ending  -- writing failed
  OutOfMemory : Ending  -- no memory was left
  NotAccepted : List ℕ → ℕ → List ℕ → Ending  -- the file's proof or trace breaks the rule at the line
  Missing : List ℕ → Ending  -- the file isn't there
  ManyPoints : List ℕ → Ending  -- the file's model has too many points

-- the exit status
abbrev pub status_of : Ending → ℕ
status_of Done = 0
status_of NoPoint = 1
status_of BadWords = 2
status_of (BadText file place rule) = 3
status_of (NodesSpent budget made) = 4
status_of (FollowerSpent budget made link) = 5
status_of (ReadFault file) = 6
status_of (WriteFault target) = 7
status_of OutOfMemory = 8
status_of (NotAccepted file line rule) = 9
status_of (Missing file) = 10
status_of (ManyPoints file) = 11

-- a place before the rule that is broken there
abbrev pub place_text : Place → List ℕ
place_text (AtLine line) = codes "line " ++ (decimal line ++ codes ": ")
place_text (AtColumn column) = codes "column " ++ (decimal column ++ codes ": ")
place_text AsWhole = []

-- so many of a budget of nodes
abbrev pub spent_text : ℕ → ℕ → List ℕ
spent_text budget made = decimal budget ++ (codes " spent with " ++ (decimal made ++ codes " nodes"))

-- a file and what is said of it
abbrev pub file_line : List ℕ → List ℕ → List ℕ
file_line file text = codes "mibs: " ++ (file ++ (codes ": " ++ (text ++ codes "\n")))

-- the line on the error output, where there is one
abbrev pub line_of : Ending → Option (List ℕ)
line_of Done = None
line_of NoPoint = None
line_of BadWords = Some (codes "mibs: words not understood\n")
line_of (BadText file place rule) = Some (file_line file (place_text place ++ rule))
line_of (NodesSpent budget made) = Some (codes "mibs: node budget " ++ (spent_text budget made ++ codes "\n"))
line_of (FollowerSpent budget made link) =
    Some (codes "mibs: follower budget " ++ (spent_text budget made ++
    (codes " at link" ++ (flat_map (λ value. codes " " ++ signed_decimal value) link ++ codes "\n"))))
line_of (ReadFault file) = Some (codes "mibs: read fault: " ++ (file ++ codes "\n"))
line_of (WriteFault target) = Some (codes "mibs: write fault\n")
line_of OutOfMemory = Some (codes "mibs: want of memory\n")
line_of (NotAccepted file line rule) = Some (file_line file (place_text (AtLine line) ++ rule))
line_of (Missing file) = Some (file_line file (codes "missing"))
line_of (ManyPoints file) = Some (file_line file (codes "Points"))
