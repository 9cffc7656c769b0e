use Rattle.std.proofs.Common.{◌≤◌, ◌<◌, ◌+◌, ◌-◌, length}
use Rattle.trace_script.specs.Input.{longest_input}
use Rattle.bus_top.specs.Session.{IsSession, Reached}
use Rattle.bus_top.proofs.call.run.Given as goal

abbrev pub invariant-loop-status : goal.invariant-loop-status
invariant-loop-status g l = record {
  session : IsSession l.session;
  room : 0 < length l.piece;
  reached : Reached (g.S.Source.left l.fn.input) (g.S.Source.left l.input) (g.W.Sink.written l.fn.out) (g.W.Sink.written l.out) l.session;
  later_input : g.S.Source.faults l.fn.input ≤ g.S.Source.faults l.input;
  later_output : g.W.Sink.faults l.fn.out ≤ g.W.Sink.faults l.out;
}

abbrev pub decreases-loop-status : goal.decreases-loop-status
decreases-loop-status g l = longest_input - (l.session.lines.used + length l.session.lines.come)
