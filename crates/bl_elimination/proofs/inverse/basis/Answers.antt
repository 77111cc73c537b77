use Rattle.std.proofs.Common.{◌≡◌, ◌*◌, length, map, ap, sym, ◌∙◌, subst}
use Rattle.std.specs.Prelude.{MatchOption}
use Rattle.std.specs.List.{range_with_len}
use Rattle.bl_simplex.specs.Rationals.{fraction_at}
use Rattle.bl_licence.specs.Steps.{AreWhole, PassesLimit}
use Rattle.bl_elimination.specs.Elimination.{identity_parts, nonzeros}
use Rattle.bl_elimination.specs.Keeping.{unit_numbers}
use Rattle.bl_elimination.proofs.Units.{small_basis_past, small_basis_is, den_back, parts_length}
use Rattle.bl_elimination.proofs.inverse.basis.Goals as goal

pub returns-in_default : goal.returns-in_default
returns-in_default c =
    let fs = c.deref-2.result.now in
    let parts : fs ≡ identity_parts c.args.columns c.args.kept.rows =
    c.deref-2.ensures.value ∙ c.in_ok-parts.ensures.value
    ∙ ap (identity_parts c.args.columns) (c.deref.ensures.value ∙ ap (λ k. k.rows) c.kept.view_is) in
    let past : PassesLimit (length fs) (fraction_at fs) =
    subst (λ o. MatchOption o (PassesLimit (length fs) (fraction_at fs))
    (λ p. AreWhole fs p.0 p.1.items)) c.in_default.is
    c.in_ok-whole.ensures in
    record {
      exact = small_basis_past c.args.columns c.args.count c.args.kept
          (subst (λ gs. PassesLimit (length gs) (fraction_at gs)) parts past);
    }

pub units-requires-clause-sizes : goal.units-requires-clause-sizes
units-requires-clause-sizes c =
    let fs = c.deref-2.result.now in
    let parts : fs ≡ identity_parts c.args.columns c.args.kept.rows =
    c.deref-2.ensures.value ∙ c.in_ok-parts.ensures.value
    ∙ ap (identity_parts c.args.columns) (c.deref.ensures.value ∙ ap (λ k. k.rows) c.kept.view_is) in
    let whole : AreWhole fs c.in-Some.den c.in-Some.multiples.items =
    subst (λ o. MatchOption o (PassesLimit (length fs) (fraction_at fs)) (λ p. AreWhole fs p.0 p.1.items)) c.in-Some.is
    c.in_ok-whole.ensures in
    let rows = parts_length c.args.columns c.args.kept.rows c.requires.shape.sizes in
    let size = ap length c.deref-3.ensures.value ∙ whole.size ∙ ap length parts ∙ rows in
    let columns = ap length (c.as_slice.ensures ∙ ap (λ k. k.columns) c.kept.view_is) ∙ c.requires.shape.columns in
    size ∙ ap (λ n. n * c.args.columns) (sym columns)

pub returns : goal.returns
returns c =
    let fs = c.deref-2.result.now in
    let n = c.args.columns in
    let parts : fs ≡ identity_parts n c.args.kept.rows =
    c.deref-2.ensures.value ∙ c.in_ok-parts.ensures.value
    ∙ ap (identity_parts n) (c.deref.ensures.value ∙ ap (λ k. k.rows) c.kept.view_is) in
    let whole : AreWhole fs c.in-Some.den c.in-Some.multiples.items =
    subst (λ o. MatchOption o (PassesLimit (length fs) (fraction_at fs)) (λ p. AreWhole fs p.0 p.1.items)) c.in-Some.is
    c.in_ok-whole.ensures in
    let pivots = c.as_slice.ensures ∙ ap (λ k. k.columns) c.kept.view_is in
    record {
      exact = small_basis_is n c.args.count c.in-Some.den c.args.kept fs c.in-Some.multiples.items _ _ _
          c.requires.shape parts whole (c.new.ensures
          ∙ ap (λ k. k.numbers) c.kept.view_is) (den_back c.in-Some.den whole.small)
          (c.new-2.ensures ∙ c.in_ok-units.ensures
          ∙ ap (λ cs. map (λ j. nonzeros 0 (unit_numbers cs c.deref-3.result.now n j)) (range_with_len 0 n)) pivots
          ∙ ap (λ xs. map (λ j. nonzeros 0 (unit_numbers c.args.kept.columns xs n j)) (range_with_len 0 n))
          c.deref-3.ensures.value);
    }
