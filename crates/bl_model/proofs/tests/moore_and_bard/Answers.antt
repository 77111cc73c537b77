use Rattle.std.proofs.Common.{rules}
use Rattle.bl_model.proofs.tests.moore_and_bard.Goals as goal

pub returns-clause-limits : goal.returns-clause-limits
returns-clause-limits c = record {
  column_count = search rules;
  row_count = search rules;
  rows = search rules;
  columns = search rules;
}
