use Rattle.log_segment.proofs.Segments.{begun_by, not_begun_by}
use Rattle.log_segment.proofs.segment.Segment.begin.Goals as goal

pub returns-in-Ok : goal.returns-in-Ok
returns-in-Ok g c =
    let n = c.note_begun.ensures in
    begun_by g.D.Disk.state c.args.self.now _ c.self.view_is c.args.prev _ c.note_begun.new.self _ _ c.head_text.ensures n.disk c.in-Ok.ensures n.numbers c.requires.low

pub returns-in-Err : goal.returns-in-Err
returns-in-Err g c = not_begun_by g.D.Disk.state c.args.self.now _ c.self.view_is c.args.prev _ _ _ c.head_text.ensures c.in-Err.ensures c.requires.low
