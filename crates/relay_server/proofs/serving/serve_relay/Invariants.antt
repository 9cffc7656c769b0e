use Rattle.std.proofs.Common.{◌≡◌, ◌-◌, ◌≤◌, true}
use Rattle.bus_http.proofs.Servings.{Progress}
use Rattle.bus_http.specs.declared.route.Side.TheVariants.{Relay}
use Rattle.relay_server.specs.Shared.{MayShare, KeepsPass}
use Rattle.relay_server.proofs.serving.serve_relay.Given as goal

abbrev pub invariant-loop-answered : goal.invariant-loop-answered
invariant-loop-answered g l = record {
  progress : Progress Relay (MayShare g.T.Timeline.told) KeepsPass true l.fn.pass l.pass l.answered l.inbox
      (g.C.Source.given l.fn.conn) (g.C.Source.given l.conn) (g.C.Source.left l.fn.conn) (g.C.Source.left l.conn) (g.C.Sink.written l.fn.conn) (g.C.Sink.written l.conn);
  home : l.pass.home ≡ l.ring;
  within : l.answered ≤ 1000000;
  reads : g.C.Source.faults l.fn.conn ≤ g.C.Source.faults l.conn;
  writes : g.C.Sink.faults l.fn.conn ≤ g.C.Sink.faults l.conn;
}

abbrev pub decreases-loop-answered : goal.decreases-loop-answered
decreases-loop-answered g l = 1000000 - l.answered
