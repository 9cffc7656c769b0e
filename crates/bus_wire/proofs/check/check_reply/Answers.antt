use Rattle.bus_wire.proofs.Uniqueness.{answer_refused, items_refused}
use Rattle.bus_wire.proofs.check.check_reply.Goals as goal

pub returns-in-Some-clause-unlawful : goal.returns-in-Some-clause-unlawful
returns-in-Some-clause-unlawful c = answer_refused c.args.ask.now c.args.bytes.now c.check_answer.result c.check_answer.ensures

pub returns-in-None-clause-unlawful : goal.returns-in-None-clause-unlawful
returns-in-None-clause-unlawful c = items_refused c.args.ask.now c.args.bytes.now c.check_items.result c.in-None.ensures c.check_items.ensures
