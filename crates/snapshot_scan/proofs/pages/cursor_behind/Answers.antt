use Rattle.std.proofs.Common.{sym, ◌∙◌}
use Rattle.bus_stores.proofs.Fronts.{last_row}
use Rattle.snapshot_scan.proofs.pages.cursor_behind.Goals as goal

pub returns-in-Some-clause-behind : goal.returns-in-Some-clause-behind
returns-in-Some-clause-behind c = c.cursor_after.ensures.value ∙ last_row c.args.cursor.now c.args.rows.now c.in-Some.row.now (sym c.in-Some.ensures.value)
