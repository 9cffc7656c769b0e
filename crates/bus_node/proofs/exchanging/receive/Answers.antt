use Rattle.bus_node.proofs.Answering.{gives_answer, small_answer, gives_none}
use Rattle.bus_node.proofs.exchanging.receive.Goals as goal

pub returns-in-Ok-read_answer-clause-gives : goal.returns-in-Ok-read_answer-clause-gives
returns-in-Ok-read_answer-clause-gives g c =
    gives_answer _ _ _ _ c.in-Ok.inbox c.read_answer.new.inbox c.read_answer.new.body.items c.in-Ok-read_answer.field-0 c.in-Ok.ensures c.in-Ok-read_answer.ensures.gave

pub returns-in-Ok-read_answer-clause-small : goal.returns-in-Ok-read_answer-clause-small
returns-in-Ok-read_answer-clause-small g c =
    small_answer _ _ _ _ c.in-Ok.inbox c.read_answer.new.inbox c.read_answer.new.body.items c.in-Ok-read_answer.field-0 c.in-Ok-read_answer.ensures.gave

pub returns-in-Err-BadAnswer-clause-none : goal.returns-in-Err-BadAnswer-clause-none
returns-in-Err-BadAnswer-clause-none g c e =
    gives_none _ _ _ _ c.in-Ok.inbox c.read_answer.new.inbox c.read_answer.new.body.items c.in-Err-BadAnswer.field-0 c.in-Ok.ensures c.in-Err-BadAnswer.field-0-is c.in-Err-BadAnswer.ensures.gave
