use Rattle.std.proofs.Common.{◌≡◌, false}
use Rattle.bootstrap_core.specs.Boot.{told}
use Rattle.bootstrap_node.proofs.Making.{Sofar}
use Rattle.bootstrap_node.proofs.rounds.make_rounds.Given as goal

abbrev pub invariant-loop-done : goal.invariant-loop-done
invariant-loop-done g l = record {
  far : Sofar g.L.Peer.Source.given g.L.Peer.Source.left g.L.Peer.Sink.written l.words.relay
      (told g.G.WindowLog.state g.K.Keeper.state l.fn.boot) (told g.G.WindowLog.state g.K.Keeper.state l.boot)
      (record { link = g.L.Link.told l.fn.link; text = g.W.Sink.written l.fn.out; link_faults = g.L.Link.faults l.fn.link; text_faults = g.W.Sink.faults l.fn.out })
      (record { link = g.L.Link.told l.link; text = g.W.Sink.written l.out; link_faults = g.L.Link.faults l.link; text_faults = g.W.Sink.faults l.out })
      l.noted.gap l.noted.full l._done;
  runs : l.boot.halted ≡ false;
}
