use Rattle.std.proofs.Common.{rules, ◌≡◌, sym, ◌∙◌, ap, subst, length}
use Rattle.std.specs.Prelude.{FitsSigned, ◌-ℤ◌}
use Rattle.std.specs.Int.{w64}
use Rattle.std.proofs.lemmas.Int.{to_z-of_z}
use Rattle.bl_limits.specs.declared.TheConstants.{MAX_NUMBER}
use Rattle.bl_whole.specs.Within.{AreWithin}
use Rattle.bl_whole.specs.Sums.{dot}
use Rattle.bl_terms.specs.Points.{values_at}
use Rattle.bl_fproof.proofs.Problems.{follower_places, link_places, links_few, link_within, follower_rhs_fits}
use Rattle.bl_fproof.proofs.rows.row_at_link.Goals as goal

pub picked-requires : goal.picked-requires
picked-requires c =
    let count = rw (sym c.row.view_is) at c.requires.row.count in
    rw (c.follower.ensures.follower)
    (follower_places c.args.model.now c.deref.result.now c.follower.ensures.model
    (ap length c.deref.ensures.value ∙ count))

pub dot_at-requires-clause-places : goal.dot_at-requires-clause-places
dot_at-requires-clause-places c =
    let count = rw (sym c.row.view_is) at c.requires.row.count in
    rw (c.links.ensures.links)
    (link_places c.args.model.now c.deref-2.result.now c.links.ensures.model
    (ap length c.deref-2.ensures.value ∙ count))

pub dot_at-requires-clause-few : goal.dot_at-requires-clause-few
dot_at-requires-clause-few c = rw (c.links.ensures.links) (links_few c.args.model.now c.links.ensures.model)

-- the link's part of the row
given : (c : goal.After-dot_at)
    → c.dot_at.result ≡ dot (values_at c.args.row.now.coef c.args.model.now.links) c.args.link.now
given c =
    c.dot_at.ensures ∙ ap (λ ks. dot (values_at c.deref-2.result.now ks) c.args.link.now) c.links.ensures.links
    ∙ ap (λ cs. dot (values_at cs c.args.model.now.links) c.args.link.now)
    (c.deref-2.ensures.value ∙ ap (λ r. r.coef) c.row.view_is)

difference : (c : goal.After-dot_at)
    → c.row.inside.right -ℤ c.dot_at.result
    ≡ c.args.row.now.rhs -ℤ dot (values_at c.args.row.now.coef c.args.model.now.links) c.args.link.now
difference c = let g = given c in let r = ap (λ r. r.rhs) c.row.view_is in cc

difference_fits : (c : goal.After-dot_at) → FitsSigned w64 (c.row.inside.right -ℤ c.dot_at.result)
difference_fits c =
    subst (λ z. FitsSigned w64 z) (sym (difference c))
    (follower_rhs_fits c.args.model.now c.args.link.now c.args.row.now c.links.ensures.model c.requires.link
    c.requires.row.coef c.requires.row.rhs)

pub overflow_sub-rhs : goal.overflow_sub-rhs
overflow_sub-rhs c =
    let right : FitsSigned w64 c.row.inside.right = search rules in
    let part : FitsSigned w64 c.dot_at.result = search rules in
    rw (to_z-of_z, to_z-of_z) (difference_fits c)

pub returns : goal.returns
returns c =
    let right : FitsSigned w64 c.row.inside.right = search rules in
    let part : FitsSigned w64 c.dot_at.result = search rules in
    let coef = c.in_ok-coef.ensures ∙ ap (λ ks. values_at c.deref.result.now ks) c.follower.ensures.follower
    ∙ ap (λ cs. values_at cs c.args.model.now.follower) (c.deref.ensures.value ∙ ap (λ r. r.coef) c.row.view_is) in
    let fits = difference_fits c in
    let whole = overflow_sub-rhs c in
    let same = difference c in
    rw (to_z-of_z, to_z-of_z, to_z-of_z) (cc)
