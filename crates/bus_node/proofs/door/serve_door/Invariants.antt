use Rattle.std.proofs.Common.{◌≤◌}
use Rattle.bus_node.proofs.Visiting.{Ran}
use Rattle.bus_node.proofs.door.serve_door.Given as goal

abbrev pub invariant-loop-done : goal.invariant-loop-done
invariant-loop-done g l = record {
  ran : Ran g.S.Serves.serves g.D.Peer.Source.given g.D.Peer.Source.left g.D.Peer.Sink.written (g.D.Accept.finished l.fn.door) (g.D.Accept.finished l.door)
      (g.S.Serves.state l.fn.service) (g.S.Serves.state l.service) l._done l.short;
  later : g.D.Accept.faults l.fn.door ≤ g.D.Accept.faults l.door;
}
