use Rattle.std.proofs.Common.{refl, subst, reverse, sym, true≢false}
use Rattle.bl_check_walk.specs.Walks.{IsFirstLine, IsPlacedStep}
use Rattle.bl_check_walk.proofs.FirstLines.{none_formed, other_form, the_first}
use Rattle.bl_check_walk.proofs.Verdicts.{has-line, stands-at, taken, told}
use Rattle.bl_check_walk.proofs.way.advance.Goals as goal

pub returns-in_default : goal.returns-in_default
returns-in_default g c =
    λ k at. none_formed c.args.model.now c.args.part c.args.bytes.now c.in_ok-line.field-0 c.in_ok-line.ensures
    c.in_default.is

pub returns-then-not-has_form : goal.returns-then-not-has_form
returns-then-not-has_form g c =
    let bytes = c.args.bytes.now in
    let first : IsFirstLine bytes c.in-Some.line c.in-Some.rest.now =
    the_first bytes c.in_ok-line.field-0 c.in-Some.line c.in-Some.rest c.in_ok-line.ensures c.in-Some.is in
    λ k at. other_form c.args.model.now c.args.part bytes c.in-Some.line c.in-Some.rest.now first
    (λ form. true≢false (sym (c.if-not-has_form.ensures.1 form)))

pub returns-in_default-2 : goal.returns-in_default-2
returns-in_default-2 g c =
    let bytes = c.args.bytes.now in
    let line = c.in-Some.line in
    let first : IsFirstLine bytes line c.in-Some.rest.now =
    the_first bytes c.in_ok-line.field-0 line c.in-Some.rest c.in_ok-line.ensures c.in-Some.is in
    λ k at. (
      line,
      has-line c.args.model.now c.args.part bytes line c.in-Some.rest.now first (c.if-not-has_form.ensures.0 refl),
      subst (IsPlacedStep c.args.model.now c.args.part line) c.in_default-2.is c.in_ok-following.ensures,
    )

pub take-requires-clause-stands : goal.take-requires-clause-stands
take-requires-clause-stands g c =
    let p = c.args.model.now in
    let bytes = c.args.bytes.now in
    let line = c.in-Some.line in
    let expected = reverse c.args.stack.now.items in
    let first : IsFirstLine bytes line c.in-Some.rest.now =
    the_first bytes c.in_ok-line.field-0 line c.in-Some.rest c.in_ok-line.ensures c.in-Some.is in
    let placed = subst (IsPlacedStep p c.args.part line) c.in-Some-2.is c.in_ok-following.ensures in
    let k = c.requires.known in (
      k.0,
      (
        c.args.part,
        (
          expected,
          stands-at (g.J.Judge.says c.args.judge.now p) p c.in_ok-site.site line k.0 c.args.part expected bytes
              c.in-Some.rest.now k.1 c.in_ok-site.ensures c.requires.sound first (c.if-not-has_form.ensures.0 refl)
              placed.0,
        ),
      ),
    )

pub returns-in-Some-3 : goal.returns-in-Some-3
returns-in-Some-3 g c =
    let p = c.args.model.now in
    let bytes = c.args.bytes.now in
    let line = c.in-Some.line in
    let first : IsFirstLine bytes line c.in-Some.rest.now =
    the_first bytes c.in_ok-line.field-0 line c.in-Some.rest c.in_ok-line.ensures c.in-Some.is in
    let placed = subst (IsPlacedStep p c.args.part line) c.in-Some-2.is c.in_ok-following.ensures in
    told (g.J.Judge.says c.args.judge.now p) (g.J.Judge.says c.take.new.self p) p c.in_ok-site.site line c.args.part
    c.args.stack.now.items bytes c.in-Some.rest.now c.in_ok-rule.field-0 c.in-Some-3.rule c.in_ok-rule.ensures
    c.in-Some-3.is c.in_ok-site.ensures c.requires.sound first (c.if-not-has_form.ensures.0 refl) placed.0

pub returns : goal.returns
returns g c =
    let p = c.args.model.now in
    let bytes = c.args.bytes.now in
    let line = c.in-Some.line in
    let first : IsFirstLine bytes line c.in-Some.rest.now =
    the_first bytes c.in_ok-line.field-0 line c.in-Some.rest c.in_ok-line.ensures c.in-Some.is in
    let placed = subst (IsPlacedStep p c.args.part line) c.in-Some-2.is c.in_ok-following.ensures in
    taken (g.J.Judge.says c.args.judge.now p) (g.J.Judge.says c.take.new.self p) p c.in_ok-site.site line c.args.part
    c.args.stack.now.items c.push.new.stack.items bytes c.in-Some.rest.now c.in_ok-rule.field-0 c.in-Some-2.following
    c.in_ok-rule.ensures c.in_default-3.is c.in_ok-site.ensures c.requires.sound first
    (c.if-not-has_form.ensures.0 refl) placed.0 placed.1 c.in_ok-push.ensures
