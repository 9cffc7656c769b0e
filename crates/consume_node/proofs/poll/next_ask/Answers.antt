use Rattle.consume_node.proofs.Asking.{ask_ruled, ask_sized}
use Rattle.consume_node.proofs.poll.next_ask.Goals as goal

pub returns-in-Ok-clause-rules : goal.returns-in-Ok-clause-rules
returns-in-Ok-clause-rules c = ask_ruled c.args.client.now c.args.max c.in-Ok.ask c.mark-lawful.ensures.lawful c.in-Ok.ensures.ask

pub returns-in-Ok-clause-sized : goal.returns-in-Ok-clause-sized
returns-in-Ok-clause-sized c = ask_sized c.args.client.now c.args.max c.in-Ok.ask c.requires.least c.requires.most c.in-Ok.ensures.ask
