use Rattle.std.proofs.Common.{◌≤◌}
use Rattle.bus_node.proofs.Visiting.{Ran}
use Rattle.relay_node.specs.Serving.{ServesRelay}
use Rattle.relay_node.proofs.serving.serve_door.Given as goal

abbrev pub invariant-loop-done : goal.invariant-loop-done
invariant-loop-done g l = record {
  ran : Ran (ServesRelay g.T.Timeline.told) g.D.Peer.Source.given g.D.Peer.Source.left g.D.Peer.Sink.written (g.D.Accept.finished l.fn.door) (g.D.Accept.finished l.door)
      l.fn.relaying l.relaying l._done l.short;
  later : g.D.Accept.faults l.fn.door ≤ g.D.Accept.faults l.door;
}
