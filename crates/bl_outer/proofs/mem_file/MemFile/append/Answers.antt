use Rattle.std.proofs.Common.{ℕ, List, subst}
use Rattle.std.specs.Bool.{OnFalse}
use Rattle.bl_outer.specs.Sink.{AddsPrefix}
use Rattle.bl_outer.proofs.mem_file.MemFile.append.Goals as goal

pub returns-clause-part : goal.returns-clause-part
returns-clause-part c =
    subst (λ (file : List ℕ × List ℕ). OnFalse c.add_piece.result
    (AddsPrefix c.args.piece.now file.1 c.add_piece.new.into.items)) c.self.view_is c.add_piece.ensures.part
