use Rattle.std.proofs.Common.{subst}
use Rattle.bus_http.specs.Inbox.{Comes}
use Rattle.bus_http.proofs.Receivings.{gave_whole, gave_long, gave_part}
use Rattle.bus_http.proofs.receiving.read_answer.Goals as goal

pub returns-in-Ok-Whole-clause-gave : goal.returns-in-Ok-Whole-clause-gave
returns-in-Ok-Whole-clause-gave g c =
    gave_whole c.in-Ok-Whole.end _ _ _ _ _ _ c.args.inbox.now c.read_to_end.new.inbox c.take_answer.new.inbox c.take_answer.new.body.items c.take_answer.result
    c.read_to_end.ensures.short (subst (λ x. Comes x c.read_to_end.new.inbox (g.S.Source.left c.read_to_end.new.from)) c.in-Ok-Whole.field-0-is c.in-Ok-Whole.ensures.comes) c.read_to_end.ensures.draws c.take_answer.ensures.took

pub returns-in-Ok-TooLong-clause-gave : goal.returns-in-Ok-TooLong-clause-gave
returns-in-Ok-TooLong-clause-gave g c =
    gave_long _ _ _ _ c.args.inbox.now c.read_to_end.new.inbox c.args.body.now.items
    (subst (λ x. Comes x c.read_to_end.new.inbox (g.S.Source.left c.read_to_end.new.from)) c.in-Ok-TooLong.field-0-is c.in-Ok-TooLong.ensures.comes) c.read_to_end.ensures.draws

pub returns-in-Ok-Ended-clause-gave : goal.returns-in-Ok-Ended-clause-gave
returns-in-Ok-Ended-clause-gave g c =
    gave_part _ _ _ _ c.args.inbox.now c.read_to_end.new.inbox c.args.body.now.items
    (subst (λ x. Comes x c.read_to_end.new.inbox (g.S.Source.left c.read_to_end.new.from)) c.in-Ok-Ended.field-0-is c.in-Ok-Ended.ensures.comes) c.read_to_end.ensures.draws
