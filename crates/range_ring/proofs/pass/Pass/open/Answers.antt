use Rattle.range_ring.proofs.Gathering.{opens_range, opens_small, opens_empty}
use Rattle.range_ring.proofs.pass.Pass.open.Goals as goal

pub returns-in-Some-Ok-clause-opened : goal.returns-in-Some-Ok-clause-opened
returns-in-Some-Ok-clause-opened g c =
    let gathered = rw (c.in-Some-Ok.field-0-is, c.seen.ensures) at c.in-Some-Ok.ensures.range in
    rw c.went_on.ensures (opens_range g.T.Timeline.told c.first_after.new.self c.args.scn (g.F.Accepts.test c.args.filter.now) c.args.max c.args.filter.now c.in-Some-Ok.range c.in-Ok.first g.T.Timeline.lawful c.first_after.ensures.lawful c.in-Ok.ensures.found gathered.0 gathered.1)

pub returns-in-Some-Err-clause-opened : goal.returns-in-Some-Err-clause-opened
returns-in-Some-Err-clause-opened g c =
    opens_small g.T.Timeline.told c.first_after.new.self c.args.scn (g.F.Accepts.test c.args.filter.now) c.args.max c.in-Some-Err.need c.in-Ok.first g.T.Timeline.lawful c.first_after.ensures.lawful c.in-Ok.ensures.found (rw c.in-Some-Err.field-0-is at c.in-Some-Err.ensures.small)

pub returns-in-Err-Empty-clause-opened : goal.returns-in-Err-Empty-clause-opened
returns-in-Err-Empty-clause-opened g c =
    opens_empty g.T.Timeline.told c.first_after.new.self c.args.scn (g.F.Accepts.test c.args.filter.now) c.args.max c.in-Err-Empty.tail g.T.Timeline.lawful c.first_after.ensures.lawful (rw c.in-Err-Empty.field-0-is at c.in-Err-Empty.ensures.missed.1)

pub returns-in-Err-NotFound-clause-within : goal.returns-in-Err-NotFound-clause-within
returns-in-Err-NotFound-clause-within g c = rw c.in-Err-NotFound.field-0-is at c.in-Err-NotFound.ensures.within

pub returns-in-Err-Empty-clause-within : goal.returns-in-Err-Empty-clause-within
returns-in-Err-Empty-clause-within g c = rw c.in-Err-Empty.field-0-is at c.in-Err-Empty.ensures.within

pub returns-in-Some-Err-clause-within : goal.returns-in-Some-Err-clause-within
returns-in-Some-Err-clause-within g c = rw c.in-Some-Err.field-0-is at c.in-Some-Err.ensures.within
