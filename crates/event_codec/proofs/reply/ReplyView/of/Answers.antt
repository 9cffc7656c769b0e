use Rattle.event_codec.proofs.Replying.{rows_had, changes_had, rows_viewed, changes_viewed}
use Rattle.event_codec.proofs.reply.ReplyView.of.Goals as goal

pub run_of-requires : goal.run_of-requires
run_of-requires c = rows_had c.args.shape.now c.args.bytes.now c.in-Rows.count c.in-Rows.scn c.in-Rows.more c.requires.0 c.requires.1 c.in-Rows.is

pub run_of-requires-in-Changes : goal.run_of-requires-in-Changes
run_of-requires-in-Changes c = changes_had c.args.shape.now c.args.bytes.now c.in-Changes.count c.in-Changes.more c.requires.0 c.requires.1 c.in-Changes.is

pub closing_scn-requires : goal.closing_scn-requires
closing_scn-requires c = changes_had c.args.shape.now c.args.bytes.now c.in-Changes.count c.in-Changes.more c.requires.0 c.requires.1 c.in-Changes.is

pub returns-in-Rows : goal.returns-in-Rows
returns-in-Rows c = λ reply spells.
    rows_viewed c.args.shape.now c.args.bytes.now c.in-Rows.count c.in-Rows.scn c.in-Rows.more c.run_of.result reply spells c.in-Rows.is c.run_of.ensures

pub returns-in-Changes : goal.returns-in-Changes
returns-in-Changes c = λ reply spells.
    changes_viewed c.args.shape.now c.args.bytes.now c.in-Changes.count c.closing_scn.result c.in-Changes.more c.run_of-in-Changes.result reply spells c.in-Changes.is c.run_of-in-Changes.ensures c.closing_scn.ensures
