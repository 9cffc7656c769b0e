use Rattle.std.proofs.Common.{◌-◌, ◌≤◌}
use Rattle.bus_http.proofs.Servings.{Progress}
use Rattle.bus_http.proofs.serving.serve.Given as goal

abbrev pub invariant-loop-answered : goal.invariant-loop-answered
invariant-loop-answered g l = record {
  progress : Progress g.S.Service.side g.S.Service.may g.S.Service.keeps g.S.Service.sure (g.S.Service.state l.fn.service) (g.S.Service.state l.service) l.answered l.inbox
      (g.C.Source.given l.fn.conn) (g.C.Source.given l.conn) (g.C.Source.left l.fn.conn) (g.C.Source.left l.conn) (g.C.Sink.written l.fn.conn) (g.C.Sink.written l.conn);
  within : l.answered ≤ 1000000;
  reads : g.C.Source.faults l.fn.conn ≤ g.C.Source.faults l.conn;
  writes : g.C.Sink.faults l.fn.conn ≤ g.C.Sink.faults l.conn;
}

abbrev pub decreases-loop-answered : goal.decreases-loop-answered
decreases-loop-answered g l = 1000000 - l.answered
