use Rattle.std.proofs.Common.{sym}
use Rattle.bus_types.specs.declared.row.Cursor.TheVariants.{Start}
use Rattle.bus_stores.proofs.Fronts.{last_row}
use Rattle.bus_stores.proofs.paging.cursor_behind.Goals as goal

pub returns-in-Some : goal.returns-in-Some
returns-in-Some c = last_row Start c.args.rows.now c.in-Some.row.now (sym c.in-Some.ensures.value)
