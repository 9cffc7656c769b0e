use Rattle.bus_http.proofs.Firsts.{fits, saw_coming, saw_failed, first_told}
use Rattle.bus_http.proofs.request.read_request.Goals as goal

pub take_coming-requires : goal.take_coming-requires
take_coming-requires g c = fits c.in-Ok.coming c.read_to_end.new.inbox _ c.in-Ok.ensures.comes

pub returns-in-Ok-clause-saw : goal.returns-in-Ok-clause-saw
returns-in-Ok-clause-saw g c =
    saw_coming c.args.side c.in-Ok.coming _ _ _ _ c.args.inbox.now c.read_to_end.new.inbox c.take_coming.new.inbox c.take_coming.result c.read_to_end.ensures.short c.read_to_end.ensures.draws c.in-Ok.ensures.comes c.take_coming.ensures.answers

pub returns-in-Err-clause-saw : goal.returns-in-Err-clause-saw
returns-in-Err-clause-saw g c = saw_failed c.args.side _ _ _ _ c.args.inbox.now c.read_to_end.new.inbox c.read_to_end.ensures.draws

pub returns-in-Ok-clause-first : goal.returns-in-Ok-clause-first
returns-in-Ok-clause-first g c = first_told c.args.side _ _ _ _ c.args.inbox.now c.take_coming.new.inbox c.take_coming.result (returns-in-Ok-clause-saw g c)

pub returns-in-Err-clause-first : goal.returns-in-Err-clause-first
returns-in-Err-clause-first g c = first_told c.args.side _ _ _ _ c.args.inbox.now c.read_to_end.new.inbox _ (returns-in-Err-clause-saw g c)
