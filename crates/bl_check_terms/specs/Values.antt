-- Trusted. What the words of a line stand for, and how they are written. A text lists only the multipliers other than
-- 0, each with its index; it names the follower's columns, in his trees too, by their indices in the program.
use Rattle.std.specs.Prelude.{ℕ, suc, ℤ, pos, List, [], ◌∷◌, map, if◌then◌else◌, nat_eq, unsigned_abs}
use Rattle.std.specs.Ordering.{int_eq}
use Rattle.std.specs.List.{range_with_len, zip}
use Rattle.bl_terms.specs.Points.{Area, values_at}
use Rattle.bl_terms.specs.Programs.{Program}
use Rattle.bl_terms.specs.Bounds.{Multipliers}
use Rattle.bl_cut_terms.specs.declared.parts.Tight.{Tight}
use Rattle.bl_cut_terms.specs.declared.parts.Tight.TheVariants.{Row, Upper, Lower, Cut}
use Rattle.bl_certline.specs.declared.line.TightItem.{TightItem}
use Rattle.bl_certline.specs.declared.line.TightItem.TheVariants as items

-- ---- multipliers

-- the number of an index among pairs; 0 where it isn't listed
abbrev pub number_at : List (ℤ × ℤ) → ℕ → ℤ
number_at [] k = pos 0
number_at ((i, m) ∷ pairs) k = if int_eq i (pos k) then m else number_at pairs k

-- the multipliers of n rows that the pairs list
abbrev pub multipliers : ℕ → ℤ → List (ℤ × ℤ) → Multipliers
multipliers n den pairs = record { den = den; mult = map (number_at pairs) (range_with_len 0 n) }

-- the numbers other than 0 with their indices, which count from k
abbrev pub pairs_from : ℕ → List ℤ → List (ℤ × ℤ)
pairs_from k [] = []
pairs_from k (m ∷ mult) =
    if int_eq m (pos 0) then pairs_from (suc k) mult else (pos k, m) ∷ pairs_from (suc k) mult

abbrev pub pairs_of : List ℤ → List (ℤ × ℤ)
pairs_of mult = pairs_from 0 mult

-- ---- boxes

-- the box with these sides
abbrev pub area_of : List (ℤ × ℤ) → Area
area_of sides = record { lo = map (λ s. s.0) sides; hi = map (λ s. s.1) sides }

abbrev pub sides_of : Area → List (ℤ × ℤ)
sides_of a = zip a.lo a.hi

-- ---- the follower's columns

-- a box of all columns, on those of the follower
abbrev pub followers_area : Program → Area → Area
followers_area p a = record { lo = values_at a.lo p.follower; hi = values_at a.hi p.follower }

-- the place of the first number k in a list; its length where there is none
abbrev pub place_in : List ℕ → ℕ → ℕ
place_in [] k = 0
place_in (x ∷ xs) k = if nat_eq x k then 0 else suc (place_in xs k)

-- ---- cuts

-- what holds with equality
abbrev pub tight_of : TightItem → Tight
tight_of (items.Row place) = Row (unsigned_abs place)
tight_of (items.Upper place) = Upper (unsigned_abs place)
tight_of (items.Lower place) = Lower (unsigned_abs place)
tight_of (items.Cut place) = Cut (unsigned_abs place)

abbrev pub item_of : Tight → TightItem
item_of (Row i) = items.Row (pos i)
item_of (Upper j) = items.Upper (pos j)
item_of (Lower j) = items.Lower (pos j)
item_of (Cut k) = items.Cut (pos k)

-- places with their numbers
abbrev pub unit_of : List (ℤ × ℤ) → List (ℕ × ℤ)
unit_of pairs = map (λ x. (unsigned_abs x.0, x.1)) pairs

abbrev pub unit_pairs : List (ℕ × ℤ) → List (ℤ × ℤ)
unit_pairs unit = map (λ x. (pos x.0, x.1)) unit
