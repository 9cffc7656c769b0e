use Rattle.std.proofs.Common.{rules, ap}
use Rattle.range_ring.proofs.Answering.{entry_past}
use Rattle.range_ring.proofs.first.scn_past.Goals as goal

pub returns-clause-before : goal.returns-clause-before
returns-clause-before g c =
    let entry = c.in_ok-shown.ensures.entry in
    let past = entry_past g.T.Timeline.told c.in_ok-shown.shown entry c.args.position c.scns.result.0 g.T.Timeline.lawful c.in_ok-shown.ensures.position (ap (λ x. x.0) (c.scns.ensures.value entry)) in
    search rules

pub returns-clause-within : goal.returns-clause-within
returns-clause-within g c = c.scns.ensures.within.0
