use Rattle.std.proofs.Common.{rules, ◌≡◌, ◌≤◌, length, [], ap, ◌∙◌, arith}
use Rattle.bl_outer.proofs.Reading.{length_more, mode_more, failed_read, more_read, whole_read, cut_read}
use Rattle.bl_outer.proofs.text.read_on.Goals as goal

pub returns-in_err-given-clause-text : goal.returns-in_err-given-clause-text
returns-in_err-given-clause-text g c =
    failed_read _ _ _ _ _ _ c.from_residual.ensures.1 c.loop-given.invariant.text

pub returns-then-given-eq0-clause-text : goal.returns-then-given-eq0-clause-text
returns-then-given-eq0-clause-text g c =
    let next = rw c.loop-given.invariant.reads.contents at c.in_ok-given.ensures.bytes in
    let fits : c.in_ok-given.given ≤ length c.next.new.into = omega (arith, c.in_ok-given.ensures.count) in
    whole_read _ _ _ _ _ c.loop-given.invariant.chosen fits _ c.if-given-eq0.true c.requires.there
    c.loop-given.invariant.text next

pub returns-in_err-extend_from_slice-clause-text :
    goal.returns-in_err-extend_from_slice-clause-text
returns-in_err-extend_from_slice-clause-text g c =
    rw c.in_err-extend_from_slice.ensures.items
    (failed_read _ _ _ _ _ _ c.from_residual-in_err-extend_from_slice.ensures.1 c.loop-given.invariant.text)

pub returns-then-given-left-clause-text : goal.returns-then-given-left-clause-text
returns-then-given-left-clause-text g c =
    let next = rw c.loop-given.invariant.reads.contents at c.in_ok-given.ensures.bytes in
    let fits : c.in_ok-given.given ≤ length c.next.new.into = omega (arith, c.in_ok-given.ensures.count) in
    let len : c.len.result ≡ length c.loop-given.into.items = omega (arith, c.loop-given.into.ok.0) in
    rw (c.in_ok-extend_from_slice.ensures.items, len)
    (cut_read _ _ _ _ _ c.loop-given.invariant.chosen fits _ _ (omega (arith, c.loop-given.into.ok.0))
    (omega (arith, c.loop-given.into.ok.0)) c.requires.there c.loop-given.invariant.text next)

pub loop-given-preserved : goal.loop-given-preserved
loop-given-preserved g c =
    let next = rw c.loop-given.invariant.reads.contents at c.in_ok-given.ensures.bytes in
    let fits : c.in_ok-given.given ≤ length c.next.new.into = omega (arith, c.in_ok-given.ensures.count) in
    record {
      chosen = mode_more _ _ _ _ _ _ c.in_ok-given.ensures.chosen c.loop-given.invariant.chosen
          (ap length c.in_ok-extend_from_slice-2.ensures.items ∙ length_more [] _ _ _ fits);
      text = rw c.in_ok-extend_from_slice-2.ensures.items
          (more_read _ _ _ _ _ c.loop-given.invariant.chosen fits _ c.loop-given.invariant.text next);
      reads = search rules;
      no_fault = search rules;
      misses = search rules;
      within = search rules;
    }

pub returns-in_err-extend_from_slice-2-clause-text :
    goal.returns-in_err-extend_from_slice-2-clause-text
returns-in_err-extend_from_slice-2-clause-text g c =
    rw c.in_err-extend_from_slice-2.ensures.items
    (failed_read _ _ _ _ _ _ c.from_residual-in_err-extend_from_slice-2.ensures.1 c.loop-given.invariant.text)
