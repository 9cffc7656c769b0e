use Rattle.std.proofs.Common.{length, ◌∙◌}
use Rattle.bus_http.proofs.Receivings.{short_body}
use Rattle.bus_http.proofs.receiving.take_body.Goals as goal

pub returns-in-Ok-2-clause-took : goal.returns-in-Ok-2-clause-took
returns-in-Ok-2-clause-took g c =
    let f = c.in-Ok.ensures in
    short_body _ _ _ _ (length c.args.room.now) c.take_held-used.result c.in-Ok.count c.args.inbox.now c.take_held-used.new.inbox c.take_held-used.new.room c.fill_up.new.room
    c.take_held-used.ensures.count c.take_held-used.ensures.front f.draws f.within (f.size ∙ c.take_held-used.ensures.size) c.if-count-room.false f.ended
