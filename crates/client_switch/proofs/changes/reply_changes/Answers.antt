use Rattle.client_switch.proofs.Turns.{rows_gathered, changes_gathered}
use Rattle.client_switch.proofs.changes.reply_changes.Goals as goal

pub returns-in-Rows : goal.returns-in-Rows
returns-in-Rows c = rows_gathered c.args.shape.now c.args.bytes.now c.of.result c.in-Rows.run' c.in-Rows.scn c.in-Rows.more c.run_changes.result c.in-Rows.is c.of.ensures c.run_changes.ensures

pub returns-in-Changes : goal.returns-in-Changes
returns-in-Changes c =
    changes_gathered c.args.shape.now c.args.bytes.now c.of.result c.in-Changes.run' c.in-Changes.scn c.in-Changes.more c.run_changes-in-Changes.result c.in-Changes.is c.of.ensures c.run_changes-in-Changes.ensures
