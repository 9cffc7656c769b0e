use Rattle.std.proofs.Common.{◌≡◌, ◌≤◌}
use Rattle.partition_filter.specs.Selection.{test_of}
use Rattle.relay_server.proofs.Sendings.{WindowsSent}
use Rattle.relay_server.proofs.stream.send_windows.Given as goal

abbrev pub invariant-loop-i : goal.invariant-loop-i
invariant-loop-i g l = record {
  sent : WindowsSent g.T.Timeline.told l.range.entries (test_of l.range.filter) (g.W.Sink.written l.fn.out) (g.W.Sink.written l.out) l.i;
  later : g.W.Sink.faults l.fn.out ≤ g.W.Sink.faults l.out;
  beside : g.W.Sink.beside l.out ≡ g.W.Sink.beside l.fn.out;
}
