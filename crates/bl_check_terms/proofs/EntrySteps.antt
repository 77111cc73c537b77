-- Right lines up to the entries.
use Rattle.std.proofs.Common.{◌≡◌, ℕ, zero, suc, ◌-◌, refl, sym, ◌∙◌, ap, subst, arith, Bool, true, false, List}
use Rattle.std.proofs.Common.{[], ◌∷◌, ◌++◌, length}
use Rattle.std.specs.Prelude.{ℤ, pos, ◌+ℤ◌, Option, None, Some, All, map, Contains, if◌then◌else◌, unsigned_abs}
use Rattle.std.specs.Ordering.{int_eq}
use Rattle.std.proofs.lemmas.List.{append-nil, length-set}
use Rattle.std.proofs.lemmas.List.Elements.{All-push}
use Rattle.std.proofs.lemmas.List.Quantifiers.{all_pairs_push}
use Rattle.bl_terms.specs.Points.{Area}
use Rattle.bl_terms.specs.Programs.{Program, root}
use Rattle.bl_terms.specs.Responses.{Entry, Best, NoResponse, IsLink, IsResponse}
use Rattle.bl_terms.specs.Trees.{BareNode, Leaf, Split, CanSplit, low_half, high_half}
use Rattle.bl_terms.specs.Bounds.{Multipliers, Proves}
use Rattle.bl_terms.specs.FollowerProofs.{IsFollowerProof, follower_box, follower_problem}
use Rattle.bl_model.specs.View.{IsModel}
use Rattle.bl_cert_terms.specs.declared.stated.Statement.{Statement}
use Rattle.bl_cert_terms.specs.Certificates.{ProvedEntry, Certificate, IsProvedEntry, ComesBefore, AreRising}
use Rattle.bl_cert_terms.proofs.CertificateLemmas.{one_more_rises}
use Rattle.bl_certline.specs.declared.line.CertLine.TheVariants as lines
use Rattle.bl_certtext.specs.declared.part.Part.{Part}
use Rattle.bl_certtext.specs.declared.part.Part.TheVariants as parts
use Rattle.bl_certtext.specs.Grammar.{entries_from}
use Rattle.bl_certtext.specs.Places.{IsAbove, IsFollowers, SplitsAt, lower_count}
use Rattle.bl_check_terms.specs.declared.rule.CertRule.TheVariants as rules
use Rattle.bl_check_terms.specs.Values.{followers_area, multipliers, place_in}
use Rattle.bl_check_terms.specs.Reading.{at_last, before_last, last_entry, entry_of_link, with_answer, with_node}
use Rattle.bl_check_terms.specs.Reading.{change_entry, stated_value, with_line, with_point}
use Rattle.bl_check_terms.specs.Rules.{KeepsPoint, KeepsBest, ProvesEntry}
use Rattle.bl_check_terms.proofs.FollowerBoxes.{followers_split, followers_low, followers_high}
use Rattle.bl_check_terms.proofs.Lasts.{has_last, changed_last, last_entry-push}
use Rattle.bl_check_terms.proofs.Links.{above_all, comes_before}
use Rattle.bl_check_terms.proofs.Standing.{Stands, Steps, IsStatedPoint, EndsWith, AreEntries, IsBare, IsOpen}
use Rattle.bl_check_terms.proofs.Standing.{HasAnswer, ClosesEntry, IsProving}
use Rattle.bl_check_terms.proofs.Standing.{follower_parts}
use Rattle.bl_check_terms.proofs.Trees.{LeadsTo, covers, leaf_more, split_more}

-- ---- what is stated

pub step_version : (p : Program) → Steps p parts.Version
step_version p rest c (lines.Version number) s h = by (int_eq number (pos 1))
  where
    by : (t : Bool)
        → Stands p ((if t then parts.Statement ∷ [] else parts.Sense ∷ parts.Statement ∷ []) ++ rest) c
    by true = s
    by false = (ap (λ (ps : List Part). parts.Statement ∷ ps) s.0, s.1)
step_version p rest c line s h = absurd h.formed.form

pub step_sense : (p : Program) → Steps p parts.Sense
step_sense p rest c (lines.Sense maximise) s h = subst (λ (ps : List Part). Stands p ps c) (sym s.0) (refl, s.1)
step_sense p rest c line s h = absurd h.formed.form

pub step_statement : (p : Program) → Steps p parts.Statement
step_statement p rest c (lines.StatesOptimal value) s h =
    (ap (λ (ps : List Part). parts.EntryCount ∷ ps) s.0, s.1.0, (value, refl))
step_statement p rest c lines.StatesInfeasible s h =
    (s.0, s.1.0, subst (λ (x : Statement). IsStatedPoint p x) (sym s.1.1) tt)
step_statement p rest c line s h = absurd h.formed.form

pub step_point : (p : Program) → Steps p parts.Point
step_point p rest c (lines.Point values) s h =
    let rule : KeepsPoint p c (lines.Point values) = h.rules 1 rules.Sense (omega arith) in
    subst (λ (ps : List Part). Stands p ps (with_line p parts.Point (lines.Point values) c)) (sym s.0) (
      refl,
      s.1,
      subst (λ (x : Statement). IsStatedPoint p (with_point values x)) (sym s.2.1)
          (h.placed.begins, rule.0, rule.1 ∙ ap stated_value s.2.1),
    )
step_point p rest c line s h = absurd h.formed.form

-- ---- entries

-- where no line is left for an entry, the cuts are expected
entries_expected : (p : Program) (c : Certificate) (left : ℕ) (last : Option (List ℤ)) → AreEntries p c.entries last
    → IsBare p c → Stands p (entries_from left last) c
entries_expected p c zero last entries bare = (refl, (last, entries), bare)
entries_expected p c (suc left) last entries bare = (refl, entries, bare)

no_entries : (p : Program) (entries : List ProvedEntry) → entries ≡ [] → AreEntries p entries None
no_entries p entries e = record {
  proved = λ k d b. absurd (omega (arith, ap length e));
  rising = λ i j d lt b. absurd (omega (arith, ap length e));
  ends = e;
}

pub step_entry_count : (p : Program) → Steps p parts.EntryCount
step_entry_count p rest c (lines.Entries count) s h =
    let from = entries_from (unsigned_abs count) None in
    subst (λ (ps : List Part). Stands p ps c) (sym (ap (λ (ps : List Part). from ++ ps) s.0 ∙ append-nil from))
    (entries_expected p c (unsigned_abs count) None (no_entries p c.entries s.1.0) (s.2, s.1.1, s.1.2))
step_entry_count p rest c line s h = absurd h.formed.form

-- the links before stand below one that is above the last
above_last : (entries : List ProvedEntry) (last : Option (List ℤ)) (link : List ℤ) → AreRising entries
    → EndsWith entries last → IsAbove last link → All (λ e. ComesBefore e.link link) entries
above_last entries None link rising ends above = λ k d b. absurd (omega (arith, ap length ends))
above_last entries (Some l) link rising (before, e, whole, same) above =
    let so_far : AreRising (before ++ e ∷ []) = subst AreRising whole rising in
    let next : ComesBefore e.link link =
    subst (λ (m : List ℤ). ComesBefore m link) (sym same) (comes_before l link above) in
    let more = one_more_rises before e (entry_of_link link) so_far next in
    subst (λ (es : List ProvedEntry). All (λ d. ComesBefore d.link link) es) (sym whole)
    (above_all (before ++ e ∷ []) (entry_of_link link) more)

opens : (p : Program) (entries : List ProvedEntry) (last : Option (List ℤ)) (link : List ℤ)
    → AreEntries p entries last → IsLink p link → IsAbove last link
    → IsOpen p (entries ++ entry_of_link link ∷ []) link
opens p entries last link h is_link above =
    let next = entry_of_link link in
    let l = has_last last_entry last_entry-push (entries ++ next ∷ []) entries next refl in
    record {
      ends = l.ends;
      same = ap (λ (e : ProvedEntry). e.link) l.same;
      is_link = is_link;
      proved = subst (λ (es : List ProvedEntry). All (IsProvedEntry p) es) (sym l.before) h.proved;
      rising = subst AreRising (sym l.before) h.rising;
      above = subst (λ (es : List ProvedEntry). All (λ e. ComesBefore e.link link) es) (sym l.before)
          (above_last entries last link h.rising h.ends above);
    }

pub step_entries : (p : Program) (left : ℕ) (last : Option (List ℤ)) → Steps p (parts.Entries left last)
step_entries p left last rest c (lines.EntryHead link) s h =
    let from = entries_from (left - 1) (Some link) in
    let l = has_last last_entry last_entry-push (c.entries ++ entry_of_link link ∷ []) c.entries (entry_of_link link)
    refl in
    record {
      left = left - 1;
      link = link;
      parts = ap (λ (ps : List Part). from ++ ps) s.0 ∙ append-nil from;
      opened = opens p c.entries last link s.1 h.placed.begins.0 h.placed.begins.1;
      silent = ap (λ (e : ProvedEntry). e.entry) l.same;
      unproved = ap (λ (e : ProvedEntry). e.proof) l.same;
      bare = s.2;
    }
step_entries p left last rest c line s h = absurd h.formed.form

-- the last entry changes, and keeps its link
open_changed : (p : Program) (entries : List ProvedEntry) (link : List ℤ) (f : ProvedEntry → ProvedEntry)
    → IsOpen p entries link → ((e : ProvedEntry) → (f e).link ≡ e.link) → IsOpen p (at_last f entries) link
open_changed p entries link f h keeps =
    let l = changed_last last_entry last_entry-push f entries h.ends in
    record {
      ends = l.ends;
      same = ap (λ (e : ProvedEntry). e.link) l.same ∙ keeps (last_entry entries) ∙ h.same;
      is_link = h.is_link;
      proved = subst (λ (es : List ProvedEntry). All (IsProvedEntry p) es) (sym l.before) h.proved;
      rising = subst AreRising (sym l.before) h.rising;
      above = subst (λ (es : List ProvedEntry). All (λ e. ComesBefore e.link link) es) (sym l.before) h.above;
    }

proving_changed : (p : Program) (entries : List ProvedEntry) (link : List ℤ) (f : ProvedEntry → ProvedEntry)
    (boxes : List Area) → IsOpen p entries link → IsProving p link (f (last_entry entries)) boxes
    → IsProving p link (last_entry (at_last f entries)) boxes
proving_changed p entries link f boxes h proving =
    let l = changed_last last_entry last_entry-push f entries h.ends in
    subst (λ (e : ProvedEntry). IsProving p link e boxes) (sym l.same) proving

-- with its answer, an entry's whole box is expected
answered : (p : Program) (link : List ℤ) (x : Entry) (e : ProvedEntry) → IsModel p → e.proof ≡ [] → HasAnswer p link x
    → IsProving p link (with_answer x e) (root p ∷ [])
answered p link x e g none answer = record {
  answer = answer;
  leads = subst (λ (nodes : List (BareNode Multipliers)).
      LeadsTo (ClosesEntry p link x) nodes (follower_box p ∷ []) (follower_box p ∷ [])) (sym none) refl;
  sides = (g.sound.box.sides, tt);
}

pub step_answer : (p : Program) → IsModel p → Steps p parts.Answer
step_answer p g rest c (lines.Best value response) s h =
    let rule : KeepsBest p c (lines.Best value response) = h.rules 2 rules.Sense (omega arith) in
    let response_to : IsResponse p s.link response =
    subst (λ (l : List ℤ). IsResponse p l response) s.opened.same rule.0 in
    record {
      left = s.left;
      link = s.link;
      boxes = [];
      parts = s.parts;
      opened = open_changed p c.entries s.link (with_answer (Best response value)) s.opened (λ e. refl);
      proving = proving_changed p c.entries s.link (with_answer (Best response value)) (root p ∷ []) s.opened
          (answered p s.link (Best response value) (last_entry c.entries) g s.unproved (response_to, rule.1));
      bare = s.bare;
    }
step_answer p g rest c lines.NoAnswer s h = record {
  left = s.left;
  link = s.link;
  boxes = [];
  parts = s.parts;
  opened = s.opened;
  proving = answered p s.link (last_entry c.entries).entry (last_entry c.entries) g s.unproved
      (subst (λ (x : Entry). HasAnswer p s.link x) (sym s.silent) tt);
  bare = s.bare;
}
step_answer p g rest c line s h = absurd h.formed.form

-- ---- the follower's trees

proving_leaf : (p : Program) (link : List ℤ) (e : ProvedEntry) (a : Area) (boxes : List Area) (w : Multipliers)
    → IsProving p link e (a ∷ boxes) → ClosesEntry p link e.entry (followers_area p a) w
    → IsProving p link (with_node (Leaf w) e) boxes
proving_leaf p link e a boxes w h closes = record {
  answer = h.answer;
  leads = leaf_more (ClosesEntry p link e.entry) e.proof (follower_box p ∷ []) (followers_area p a)
      (map (followers_area p) boxes) w h.leads closes;
  sides = h.sides.1;
}

proving_split : (p : Program) (link : List ℤ) (e : ProvedEntry) (a : Area) (boxes : List Area) (k : ℕ) (v : ℤ)
    → IsModel p → IsProving p link e (a ∷ boxes) → Contains p.follower k → CanSplit a k v
    → IsProving p link (with_node (Split (place_in p.follower k) v tt) e)
    (low_half a k v ∷ high_half a k v ∷ boxes)
proving_split p link e a boxes k v g h here can =
    let rising = g.sound.follower_rising in
    let others = map (followers_area p) boxes in
    let j = place_in p.follower k in
    let nodes = e.proof ++ Split j v tt ∷ [] in
    let part = followers_area p a in
    let halves : LeadsTo (ClosesEntry p link e.entry) nodes (follower_box p ∷ [])
    (low_half part j v ∷ high_half part j v ∷ others) =
    split_more (ClosesEntry p link e.entry) e.proof (follower_box p ∷ []) part others j v h.leads
    (followers_split p a k v rising here can) in
    let low : LeadsTo (ClosesEntry p link e.entry) nodes (follower_box p ∷ [])
    (followers_area p (low_half a k v) ∷ high_half part j v ∷ others) =
    subst (λ (b : Area). LeadsTo (ClosesEntry p link e.entry) nodes (follower_box p ∷ [])
    (b ∷ high_half part j v ∷ others))
    (sym (followers_low p a k v rising here can h.sides.0)) halves in
    record {
      answer = h.answer;
      leads = subst (λ (b : Area). LeadsTo (ClosesEntry p link e.entry) nodes (follower_box p ∷ [])
          (followers_area p (low_half a k v) ∷ b ∷ others))
          (sym (followers_high p a k v rising here can)) low;
      sides = (length-set a.hi k v ∙ h.sides.0, (h.sides.0 ∙ sym (length-set a.lo k (v +ℤ pos 1)), h.sides.1));
    }

-- a tree whose boxes are closed proves the answer
entry_proof : (p : Program) (link : List ℤ) (x : Entry) (nodes : List (BareNode Multipliers)) → HasAnswer p link x
    → LeadsTo (ClosesEntry p link x) nodes (follower_box p ∷ []) [] → IsFollowerProof p link x nodes
entry_proof p link (Best y v) nodes answer leads = record {
  response = answer.0;
  value = answer.1;
  tree = covers (ClosesEntry p link (Best y v)) (λ a w. Proves (follower_problem p link a) (Some v) w) nodes
      (follower_box p ∷ []) (λ a w h. h) leads;
}
entry_proof p link NoResponse nodes answer leads =
    covers (ClosesEntry p link NoResponse) (λ a w. Proves (follower_problem p link a) None w) nodes
    (follower_box p ∷ []) (λ a w h. h) leads

closed : (p : Program) (entries : List ProvedEntry) (link : List ℤ) → IsOpen p entries link
    → IsProving p link (last_entry entries) [] → AreEntries p entries (Some link)
closed p entries link h proving =
    let e = last_entry entries in
    let before = before_last entries in
    let proved : IsProvedEntry p e = record {
      link = subst (IsLink p) (sym h.same) h.is_link;
      proof = subst (λ (l : List ℤ). IsFollowerProof p l e.entry e.proof) (sym h.same)
          (entry_proof p link e.entry e.proof proving.answer proving.leads);
    } in
    let above = subst (λ (l : List ℤ). All (λ d. ComesBefore d.link l) before) (sym h.same) h.above in
    record {
      proved = subst (λ (es : List ProvedEntry). All (IsProvedEntry p) es) (sym h.ends.whole)
          (All-push (IsProvedEntry p) before e h.proved proved);
      rising = subst AreRising (sym h.ends.whole)
          (all_pairs_push (λ x y. ComesBefore x.link y.link) before e h.rising above);
      ends = (before, e, h.ends.whole, h.same);
    }

-- behind a leaf the next box is expected, or the next entry
next_box : (p : Program) (c : Certificate) (rest : List Part) (left : ℕ) (link : List ℤ) (boxes : List Area)
    → rest ≡ follower_parts boxes ++ entries_from left (Some link) → IsOpen p c.entries link
    → IsProving p link (last_entry c.entries) boxes → IsBare p c → Stands p rest c
next_box p c rest left link [] e opened proving bare =
    subst (λ (ps : List Part). Stands p ps c) (sym e)
    (entries_expected p c left (Some link) (closed p c.entries link opened proving) bare)
next_box p c rest left link (b ∷ boxes) e opened proving bare =
    subst (λ (ps : List Part). Stands p ps c) (sym e)
    (record {
      left = left;
      link = link;
      boxes = boxes;
      parts = refl;
      opened = opened;
      proving = proving;
      bare = bare;
    })

pub step_follower : (p : Program) (a : Area) → IsModel p → Steps p (parts.FollowerTree a)
step_follower p a g rest c (lines.Split column place) s h =
    let k = unsigned_abs column in
    let named : IsFollowers p column = h.placed.begins.0 in
    let splits : SplitsAt a column place = h.placed.begins.1 in
    let here : Contains p.follower k =
    subst (λ (n : ℕ). Contains p.follower n) (sym (ap unsigned_abs named.1)) named.2 in
    let can : CanSplit a k place =
    subst (λ (n : ℕ). CanSplit a n place) (sym (ap unsigned_abs splits.1)) splits.2 in
    let f = with_node (Split (place_in p.follower k) place tt) in
    record {
      left = s.left;
      link = s.link;
      boxes = high_half a k place ∷ s.boxes;
      parts = ap (λ (ps : List Part). parts.FollowerTree (high_half a k place) ∷ ps) s.parts;
      opened = open_changed p c.entries s.link f s.opened (λ e. refl);
      proving = proving_changed p c.entries s.link f (low_half a k place ∷ high_half a k place ∷ s.boxes) s.opened
          (proving_split p s.link (last_entry c.entries) a s.boxes k place g s.proving here can);
      bare = s.bare;
    }
step_follower p a g rest c (lines.Proof den mult) s h =
    let w = multipliers (lower_count p) den mult in
    let e = last_entry c.entries in
    let rule : ProvesEntry p e a w = h.rules 9 rules.Sense (omega arith) in
    let closes : ClosesEntry p s.link e.entry (followers_area p a) w =
    subst (λ (l : List ℤ). ClosesEntry p l e.entry (followers_area p a) w) s.opened.same rule in
    next_box p (change_entry (with_node (Leaf w)) c) rest s.left s.link s.boxes s.parts
    (open_changed p c.entries s.link (with_node (Leaf w)) s.opened (λ x. refl))
    (proving_changed p c.entries s.link (with_node (Leaf w)) s.boxes s.opened
    (proving_leaf p s.link e a s.boxes w s.proving closes))
    s.bare
step_follower p a g rest c line s h = absurd h.formed.form
