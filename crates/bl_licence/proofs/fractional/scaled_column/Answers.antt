use Rattle.std.proofs.Common.{rules, ◌≡◌, to_z, of_z, FitsSigned, sym, ap, ◌∙◌, subst}
use Rattle.std.specs.Int.{w64}
use Rattle.std.proofs.lemmas.Int.{to_z-of_z}
use Rattle.bl_whole.specs.Within.{IsWithin}
use Rattle.bl_licence.specs.Steps.{scaled_size}
use Rattle.bl_licence.proofs.Distances.{column_read, column_within}
use Rattle.bl_licence.proofs.fractional.scaled_column.Goals as goal

pub returns-clause-value : goal.returns-clause-value
returns-clause-value c =
    column_read c.from.result c.args.start c.args.moved c.args.common
    (c.from.ensures ∙ to_z-of_z w64 c.args.start c.ranges.start) c.requires.start c.requires.small c.requires.within

pub returns-clause-size : goal.returns-clause-size
returns-clause-size c =
    subst (IsWithin scaled_size)
    (sym (column_read c.from.result c.args.start c.args.moved c.args.common
    (c.from.ensures ∙ to_z-of_z w64 c.args.start c.ranges.start) c.requires.start c.requires.small
    c.requires.within))
    (column_within c.args.start c.args.moved c.args.common c.requires.start c.requires.small c.requires.within)
