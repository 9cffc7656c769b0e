use Rattle.log_segment.proofs.Segments.{freed_by, not_freed_by}
use Rattle.log_segment.proofs.segment.Segment.free.Goals as goal

pub returns-in-Ok : goal.returns-in-Ok
returns-in-Ok g c =
    let n = c.note_freed.ensures in
    freed_by g.D.Disk.state c.args.self.now _ c.self.view_is c.note_freed.new.self _ _ n.disk c.in-Ok.ensures n.numbers

pub returns-in-Err : goal.returns-in-Err
returns-in-Err g c = not_freed_by g.D.Disk.state c.args.self.now _ c.self.view_is _ _ c.in-Err.ensures
