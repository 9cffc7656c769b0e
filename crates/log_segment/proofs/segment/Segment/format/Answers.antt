use Rattle.log_segment.proofs.Segments.{formatted}
use Rattle.log_segment.proofs.segment.Segment.format.Goals as goal

pub returns-in-Ok : goal.returns-in-Ok
returns-in-Ok g c = formatted _ _ _ _ _ c.in-Ok.ensures c.cut_lasting.ensures
