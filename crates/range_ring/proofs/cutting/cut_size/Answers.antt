use Rattle.range_ring.proofs.Counted.{cut_counts}
use Rattle.range_ring.proofs.cutting.cut_size.Goals as goal

pub returns-clause-value : goal.returns-clause-value
returns-clause-value g c = λ entry. cut_counts (g.F.Accepts.test c.args.filter.now) entry.window c.events_of-events.result c.accepted_size.result (c.events_of-events.ensures.events entry) c.accepted_size.ensures.value
