use Rattle.std.proofs.Common.{◌≡◌, ◌≤◌, false}
use Rattle.client_switch.specs.Client.{Keeps, FloorKept}
use Rattle.consume_node.specs.Failing.{TellsFrom, Reached}
use Rattle.consume_node.proofs.node.make_polls.Given as goal

abbrev pub invariant-loop : goal.invariant-loop
invariant-loop g l = record {
  runs : l.client.halted ≡ false;
  stored : Keeps (g.K.Keeper.state l.keeper) l.client.mark;
  reached : Reached g.L.Peer.Source.given g.L.Peer.Source.left g.L.Peer.Sink.written l.fn.by.relay l.fn.by.bootstrap l.fn.by.max l.fn.client (g.K.Keeper.state l.fn.keeper)
      (g.L.Link.told l.fn.link) (g.W.Sink.written l.fn.out) l.counter l.client (g.K.Keeper.state l.keeper) (g.L.Link.told l.link) (g.W.Sink.written l.out);
  floor : FloorKept (g.K.Keeper.state l.fn.keeper) (g.K.Keeper.state l.keeper);
  tells : TellsFrom (g.K.Keeper.state l.fn.keeper) (g.K.Keeper.state l.keeper);
  later_keeper : (g.K.Keeper.state l.fn.keeper).faults ≤ (g.K.Keeper.state l.keeper).faults;
  later_link : g.L.Link.faults l.fn.link ≤ g.L.Link.faults l.link;
  later_out : g.W.Sink.faults l.fn.out ≤ g.W.Sink.faults l.out;
}
