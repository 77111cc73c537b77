-- The parts that are expected count the cuts that were said.
use Rattle.std.proofs.Common.{◌≡◌, ℕ, zero, suc, ◌+◌, ◌-◌, ◌<◌, ◌≤◌, Bool, true, false, List, [], ◌∷◌, ◌++◌, length}
use Rattle.std.proofs.Common.{refl, sym, ap, subst, arith, nat_lt}
use Rattle.std.specs.Prelude.{ℤ, pos, Option, None, Some, if◌then◌else◌, map, unsigned_abs}
use Rattle.std.specs.Ordering.{int_eq}
use Rattle.std.proofs.lemmas.Bool.{ltb-false}
use Rattle.std.proofs.lemmas.Bool.Decides.{Decides-ltb}
use Rattle.std.proofs.lemmas.List.{length_push}
use Rattle.bl_terms.specs.Programs.{Program, columns}
use Rattle.bl_cut_terms.specs.NoGoods.{CutStep}
use Rattle.bl_cert_terms.specs.Certificates.{Certificate}
use Rattle.bl_certline.specs.declared.line.CertLine.{CertLine}
use Rattle.bl_certline.specs.declared.line.CertLine.TheVariants as lines
use Rattle.bl_certtext.specs.declared.part.Part.{Part}
use Rattle.bl_certtext.specs.declared.part.Part.TheVariants as parts
use Rattle.bl_certtext.specs.Grammar.{Begins, parts_behind, entries_from, cuts_from, units_from}
use Rattle.bl_certtext.specs.Texts.{start}
use Rattle.bl_check_terms.specs.Accepting.{Reads}
use Rattle.bl_check_terms.specs.Reading.{nothing, with_line, at_last, before_last, cut_on, with_den, with_place}
use Rattle.bl_check_terms.specs.Reading.{with_response, with_tight, with_unit}
use Rattle.bl_check_terms.specs.Values.{area_of, tight_of, unit_of}
use Rattle.bl_check.proofs.SaidEntries.{length-at_last}

-- so many cuts were said where these parts are expected; behind the last cut any number may have been
abbrev pub Counts : List Part → ℕ → Type 0
Counts [] n = Unit {0}
Counts (parts.Version ∷ rest) n = (n ≡ 0) × ((m : ℕ) → Counts rest m)
Counts (parts.Sense ∷ rest) n = (n ≡ 0) × Counts rest n
Counts (parts.Statement ∷ rest) n = (n ≡ 0) × ((m : ℕ) → Counts rest m)
Counts (parts.Point ∷ rest) n = (n ≡ 0) × Counts rest n
Counts (parts.EntryCount ∷ rest) n = (n ≡ 0) × ((m : ℕ) → Counts rest m)
Counts (parts.Entries left last ∷ rest) n = (n ≡ 0) × ((m : ℕ) → Counts rest m)
Counts (parts.Answer ∷ rest) n = (n ≡ 0) × Counts rest n
Counts (parts.FollowerTree a ∷ rest) n = (n ≡ 0) × Counts rest n
Counts (parts.CutCount ∷ rest) n = (n ≡ 0) × ((m : ℕ) → Counts rest m)
Counts (parts.Cuts place count ∷ rest) n = ((n ≡ place) × (place < count)) × ((m : ℕ) → Counts rest m)
Counts (parts.CutArea place ∷ rest) n = (n ≡ place) × Counts rest (n + 1)
Counts (parts.Tight place ∷ rest) n = Counts rest n
Counts (parts.Inverse items ∷ rest) n = Counts rest n
Counts (parts.Units left items ∷ rest) n = Counts rest n
Counts (parts.At ∷ rest) n = Counts rest n
Counts (parts.Response ∷ rest) n = Counts rest n
Counts (parts.Head cuts ∷ rest) n = (n ≡ cuts) × Counts rest n
Counts (parts.Tree a cuts ∷ rest) n = (n ≡ cuts) × Counts rest n
Counts (parts.End ∷ rest) n = Counts rest n

entries_count : (left : ℕ) (last : Option (List ℤ)) (rest : List Part) (n : ℕ) → n ≡ 0 → ((m : ℕ) → Counts rest m)
    → Counts (entries_from left last ++ rest) n
entries_count zero last rest n e h = (e, h)
entries_count (suc left) last rest n e h = (e, h)

cuts_count : (place count : ℕ) (rest : List Part) (n : ℕ) → n ≡ place → place ≤ count → ((m : ℕ) → Counts rest m)
    → Counts (cuts_from place count ++ rest) n
cuts_count place count rest n e few h = by (nat_lt place count) refl
  where
    by : (b : Bool) → nat_lt place count ≡ b
        → Counts ((if b then parts.Cuts place count ∷ [] else parts.Head count ∷ []) ++ rest) n
    by true test = ((e, (Decides-ltb place count).0 test), h)
    by false test = (omega (arith, ltb-false place count test), h n)

units_count : (left items : ℕ) (rest : List Part) (n : ℕ) → Counts rest n → Counts (units_from left items ++ rest) n
units_count zero items rest n h = h
units_count (suc left) items rest n h = h

version_count : (b : Bool) (rest : List Part) (n : ℕ) → n ≡ 0 → ((m : ℕ) → Counts rest m)
    → Counts ((if b then parts.Statement ∷ [] else parts.Sense ∷ parts.Statement ∷ []) ++ rest) n
version_count true rest n e h = (e, h)
version_count false rest n e h = (e, (e, h))

-- a cut that changes is still one
changed_count : (rest : List Part) (f : CutStep → CutStep) (cuts : List CutStep) → Counts rest (length cuts)
    → Counts rest (length (at_last f cuts))
changed_count rest f cuts h = subst (Counts rest) (sym (length-at_last f cuts)) h

-- so it is behind a line
step_count : (p : Program) (part : Part) (rest : List Part) (line : CertLine) (c : Certificate) → Begins p part line
    → Counts (part ∷ rest) (length c.cuts)
    → Counts (parts_behind p part line ++ rest) (length (with_line p part line c).cuts)
step_count p parts.Version rest (lines.Version number) c b h =
    version_count (int_eq number (pos 1)) rest (length c.cuts) h.0 h.1
step_count p parts.Sense rest (lines.Sense maximise) c b h = h.1
step_count p parts.Statement rest (lines.StatesOptimal value) c b h = (h.0, (h.0, h.1))
step_count p parts.Statement rest lines.StatesInfeasible c b h = (h.0, h.1)
step_count p parts.Point rest (lines.Point values) c b h = h.1
step_count p parts.EntryCount rest (lines.Entries count) c b h =
    entries_count (unsigned_abs count) None rest (length c.cuts) h.0 h.1
step_count p (parts.Entries left last) rest (lines.EntryHead link) c b h =
    (h.0, entries_count (left - 1) (Some link) rest (length c.cuts) h.0 h.1)
step_count p parts.Answer rest (lines.Best value response) c b h = (h.0, h.1)
step_count p parts.Answer rest lines.NoAnswer c b h = (h.0, h.1)
step_count p (parts.FollowerTree a) rest (lines.Split column place) c b h = (h.0, (h.0, h.1))
step_count p (parts.FollowerTree a) rest (lines.Proof den mult) c b h = h.1
step_count p parts.CutCount rest (lines.CutCount count) c b h =
    cuts_count 0 (unsigned_abs count) rest (length c.cuts) h.0 (omega arith) h.1
step_count p (parts.Cuts place count) rest lines.CutHead c b h =
    let below = h.0.1 in (
      h.0.0,
      cuts_count (place + 1) count rest (length c.cuts + 1) (ap (λ (n : ℕ). n + 1) h.0.0) (omega arith) h.1,
    )
step_count p (parts.CutArea place) rest (lines.Area sides) c b h =
    subst (Counts rest) (sym (length_push c.cuts (cut_on (area_of sides)))) h.1
step_count p (parts.Tight place) rest (lines.TightList items) c b h =
    changed_count rest (with_tight p (before_last c.cuts) (map tight_of items)) c.cuts h
step_count p (parts.Inverse items) rest (lines.Inverse den) c b h =
    units_count (columns p) items rest (length (at_last (with_den den) c.cuts))
    (changed_count rest (with_den den) c.cuts h)
step_count p (parts.Units left items) rest (lines.Unit pairs) c b h =
    units_count (left - 1) items rest (length (at_last (with_unit (unit_of pairs)) c.cuts))
    (changed_count rest (with_unit (unit_of pairs)) c.cuts h)
step_count p parts.At rest (lines.At values) c b h = changed_count rest (with_place values) c.cuts h
step_count p parts.Response rest (lines.Response values) c b h = changed_count rest (with_response values) c.cuts h
step_count p (parts.Head cuts) rest lines.TreeHead c b h = (h.0, h.1)
step_count p (parts.Tree a cuts) rest (lines.Split column place) c b h = (h.0, (h.0, h.1))
step_count p (parts.Tree a cuts) rest (lines.Close den uses count cited mult) c b h = h.1
step_count p (parts.Tree a cuts) rest lines.NoAnswer c b h = h.1
step_count p parts.End rest lines.End c b h = h
step_count p part rest line c b h = absurd b

-- and behind the first lines of a text
counts_on : (p : Program) (expected : List Part) (c : Certificate) (ls : List CertLine) (left : List Part)
    (d : Certificate) → Counts expected (length c.cuts) → Reads p expected c ls left d → Counts left (length d.cuts)
counts_on p expected c [] left d h r =
    let same : Counts expected (length d.cuts) =
    subst (λ (x : Certificate). Counts expected (length x.cuts)) (sym r.1) h in
    subst (λ (ps : List Part). Counts ps (length d.cuts)) (sym r.0) same
counts_on p [] c (line ∷ ls) left d h r = absurd r
counts_on p (part ∷ rest) c (line ∷ ls) left d h r =
    counts_on p (parts_behind p part line ++ rest) (with_line p part line c) ls left d
    (step_count p part rest line c r.0.placed.begins h) r.1

pub counted : (p : Program) (ls : List CertLine) (left : List Part) (c : Certificate) → Reads p start nothing ls left c
    → Counts left (length c.cuts)
counted p ls left c r = counts_on p start nothing ls left c (refl, λ m. tt) r
