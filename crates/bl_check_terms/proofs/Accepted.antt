-- What right lines say from the first to the last is an accepted certificate, and implies what it states.
use Rattle.std.proofs.Common.{List, [], ◌∷◌, ◌++◌, refl, sym, subst}
use Rattle.bl_terms.specs.Programs.{Program}
use Rattle.bl_model.specs.View.{IsModel}
use Rattle.bl_cert_terms.specs.Certificates.{Certificate, IsAccepted, StatementHolds}
use Rattle.bl_cert_terms.proofs.CertificateLemmas.{accepted_law}
use Rattle.bl_certline.specs.declared.line.CertLine.{CertLine}
use Rattle.bl_certtext.specs.declared.part.Part.{Part}
use Rattle.bl_certtext.specs.declared.part.Part.TheVariants as parts
use Rattle.bl_certtext.specs.Grammar.{parts_behind}
use Rattle.bl_certtext.specs.Texts.{start}
use Rattle.bl_check_terms.specs.Reading.{nothing, with_line}
use Rattle.bl_check_terms.specs.Accepting.{Reads, TextIsAccepted, AcceptanceLaw}
use Rattle.bl_check_terms.proofs.Standing.{Stands, Steps}
use Rattle.bl_check_terms.proofs.EntrySteps.{step_version, step_sense, step_statement, step_point, step_entry_count}
use Rattle.bl_check_terms.proofs.EntrySteps.{step_entries, step_answer, step_follower}
use Rattle.bl_check_terms.proofs.CutSteps.{step_cut_count, step_cuts, step_cut_area, step_tight, step_inverse}
use Rattle.bl_check_terms.proofs.CutSteps.{step_units, step_at, step_response}
use Rattle.bl_check_terms.proofs.TreeSteps.{step_head, step_tree, step_end}

step : (p : Program) (part : Part) → IsModel p → Steps p part
step p parts.Version g = step_version p
step p parts.Sense g = step_sense p
step p parts.Statement g = step_statement p
step p parts.Point g = step_point p
step p parts.EntryCount g = step_entry_count p
step p (parts.Entries left last) g = step_entries p left last
step p parts.Answer g = step_answer p g
step p (parts.FollowerTree a) g = step_follower p a g
step p parts.CutCount g = step_cut_count p
step p (parts.Cuts place count) g = step_cuts p place count
step p (parts.CutArea place) g = step_cut_area p place
step p (parts.Tight place) g = step_tight p place
step p (parts.Inverse items) g = step_inverse p items
step p (parts.Units left items) g = step_units p left items
step p parts.At g = step_at p
step p parts.Response g = step_response p
step p (parts.Head cuts) g = step_head p cuts
step p (parts.Tree a cuts) g = step_tree p a cuts
step p parts.End g = step_end p

-- from what stands, right lines lead to what stands behind them
leads_on : (p : Program) (expected : List Part) (c : Certificate) (ls : List CertLine) (left : List Part)
    (d : Certificate) → IsModel p → Stands p expected c → Reads p expected c ls left d → Stands p left d
leads_on p expected c [] left d g s h =
    let ended : Stands p left c = subst (λ (ps : List Part). Stands p ps c) (sym h.0) s in
    subst (λ (x : Certificate). Stands p left x) (sym h.1) ended
leads_on p [] c (line ∷ ls) left d g s h = absurd h
leads_on p (part ∷ rest) c (line ∷ ls) left d g s h =
    leads_on p (parts_behind p part line ++ rest) (with_line p part line c) ls left d g
    (step p part g rest c line s h.0) h.1

-- what stands behind the first lines of a text
pub standing : (p : Program) (ls : List CertLine) (left : List Part) (c : Certificate) → IsModel p
    → Reads p start nothing ls left c → Stands p left c
standing p ls left c g h = leads_on p start nothing ls left c g (refl, ((refl, refl, refl), refl)) h

pub text_is_accepted : TextIsAccepted
text_is_accepted p bytes c g h = standing p h.lines [] c g h.reads

pub acceptance_law : AcceptanceLaw
acceptance_law p bytes s g (c, text, states) =
    subst (StatementHolds p) states (accepted_law p c g.sound (text_is_accepted p bytes c g text))
