use Rattle.log_segment.proofs.OneReading.{opens_finds}
use Rattle.log_segment.proofs.segment.Segment.open.Goals as goal

pub returns-clause-finds : goal.returns-clause-finds
returns-clause-finds g c = opens_finds g.D.Disk.state c.args.disk c.read.result c.read.ensures
