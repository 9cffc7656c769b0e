use Rattle.std.proofs.Common.{◌∙◌, arith}
use Rattle.bootstrap_node.proofs.Making.{sofar_more, sofar_all, sofar_stopped}
use Rattle.bootstrap_node.proofs.rounds.make_rounds.Goals as goal

pub returns-in-Err-clause-stopped : goal.returns-in-Err-clause-stopped
returns-in-Err-clause-stopped g c =
    sofar_stopped g.L.Peer.Source.given g.L.Peer.Source.left g.L.Peer.Sink.written c.in-Err.stop _ _ _ _ _ _ _ _ _ _ _ c.loop-done.invariant.far
    (omega (arith, c.loop-done-test.true)) c.in-Err.ensures.breaks

pub loop-done-preserved : goal.loop-done-preserved
loop-done-preserved g c = record {
  far = sofar_more g.L.Peer.Source.given g.L.Peer.Source.left g.L.Peer.Sink.written _ _ _ _ _ _ _ _ _ _ _ _ c.loop-done.invariant.far c.in-Ok.ensures.made;
  runs = c.in-Ok.ensures.runs;
}

pub returns-clause-made : goal.returns-clause-made
returns-clause-made g c =
    let all = sofar_all g.L.Peer.Source.given g.L.Peer.Source.left g.L.Peer.Sink.written _ _ _ _ _ _ _ _ c.loop-done.invariant.far in
    (all.0, all.1 ∙ omega (arith, c.loop-done-test.false, c.loop-done.auto._done-end), all.2)
