use Rattle.std.proofs.Common.{take, refl}
use Rattle.bus_types.specs.Timeline.{windows_between}
use Rattle.snapshot_applier.proofs.AppliedRows.{table_runs}
use Rattle.snapshot_applier.proofs.laws.applied_rows_are_the_table.Goals as goal

pub returns : goal.returns
returns c ws scn high most t l h = table_runs scn high most ws (take most (windows_between scn high ws)) t refl
