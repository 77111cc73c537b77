-- Internal. Codes of bound proofs, entries and trees, so that types of the code can have them as their values.
use Rattle.std.specs.Prelude.{◌≡◌, ◌⊎◌, ℕ, ℤ, List, Option, Some, None, refl}
use Rattle.std.proofs.Common.{inl, inr}
use Rattle.std.specs.Coded.{Coded, code_by, coded×, coded⊎, coded_list, coded_option, coded_ℕ, coded_ℤ}
use Rattle.bl_terms.specs.Bounds.{Multipliers}
use Rattle.bl_terms.specs.Responses.{Entry, Best, NoResponse}
use Rattle.bl_terms.specs.Trees.{Node, Leaf, Split}

abbrev pub multipliers_code : Coded Multipliers
multipliers_code =
    code_by (ℤ × List ℤ) (coded× coded_ℤ (coded_list coded_ℤ)) (λ w. (w.den, w.mult))
    (λ p. record { den = p.0; mult = p.1 }) (λ _. refl)

abbrev entry_parts : Entry → Option (List ℤ × ℤ)
entry_parts (Best y v) = Some (y, v)
entry_parts NoResponse = None

abbrev entry_of_parts : Option (List ℤ × ℤ) → Entry
entry_of_parts (Some (y, v)) = Best y v
entry_of_parts None = NoResponse

pub entry_from_parts : (e : Entry) → entry_of_parts (entry_parts e) ≡ e
entry_from_parts (Best y v) = refl
entry_from_parts NoResponse = refl

abbrev pub entry_code : Coded Entry
entry_code =
    code_by (Option (List ℤ × ℤ)) (coded_option (coded× (coded_list coded_ℤ) coded_ℤ)) entry_parts entry_of_parts
    entry_from_parts

module _ {S L : Type 0} where
  abbrev node_parts : Node S L → L ⊎ (ℕ × (ℤ × S))
  node_parts (Leaf x) = inl x
  node_parts (Split j v s) = inr (j, (v, s))

  abbrev node_of_parts : L ⊎ (ℕ × (ℤ × S)) → Node S L
  node_of_parts (inl x) = Leaf x
  node_of_parts (inr (j, (v, s))) = Split j v s

  pub node_from_parts : (n : Node S L) → node_of_parts (node_parts n) ≡ n
  node_from_parts (Leaf x) = refl
  node_from_parts (Split j v s) = refl

  abbrev pub node_code : Coded S → Coded L → Coded (Node S L)
  node_code s l =
      code_by (L ⊎ (ℕ × (ℤ × S))) (coded⊎ l (coded× coded_ℕ (coded× coded_ℤ s)))
      node_parts node_of_parts node_from_parts
