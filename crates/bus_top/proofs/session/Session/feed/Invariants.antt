use Rattle.std.proofs.Common.{◌++◌, ◌≤◌, length}
use Rattle.bus_top.proofs.Pieces.{Fed}
use Rattle.bus_top.proofs.session.Session.feed.Given as goal

abbrev pub invariant-loop-after : goal.invariant-loop-after
invariant-loop-after g l = record {
  fed : Fed (l.fn.self.lines.come ++ l.fn.piece) l.rest l.fn.self l.self (g.W.Sink.written l.fn.out) (g.W.Sink.written l.out) l.text.items;
  later : g.W.Sink.faults l.fn.out ≤ g.W.Sink.faults l.out;
}

abbrev pub decreases-loop-after : goal.decreases-loop-after
decreases-loop-after g l = length l.rest
