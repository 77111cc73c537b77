use Rattle.std.proofs.Common.{◌∙◌, ap, ◌∷◌, List, ℕ, take, sym, inl, ◌++◌}
use Rattle.std.proofs.lemmas.List.{take_rest}
use Rattle.bl_text.specs.Lines.{lines_of}
use Rattle.bl_text.proofs.Cuts.{lines_of-cut, lines_of-uncut, text-cut}
use Rattle.bl_text.proofs.lines.split_line.Goals as goal

pub returns-in-Some-clause-first : goal.returns-in-Some-clause-first
returns-in-Some-clause-first c =
    lines_of-cut c.args.text.now c.in-Some.end (sym c.in-Some.ensures)
    ∙ ap (λ (rest : List ℕ). take c.in-Some.end c.args.text.now ∷ lines_of rest) (sym (take_rest c.args.text.now _))

pub returns-in-None-clause-first : goal.returns-in-None-clause-first
returns-in-None-clause-first c =
    lines_of-uncut c.args.text.now c.if-is_empty.ensures (sym c.in-None.ensures)

pub returns-in-Some-clause-cut : goal.returns-in-Some-clause-cut
returns-in-Some-clause-cut c =
    inl (text-cut c.args.text.now c.in-Some.end (sym c.in-Some.ensures)
    ∙ ap (λ (rest : List ℕ). take c.in-Some.end c.args.text.now ++ 10 ∷ rest) (sym (take_rest c.args.text.now _)))
