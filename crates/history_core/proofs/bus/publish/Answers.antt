use Rattle.history_core.proofs.Feeding.{fed_follows, fed_more, fed_out}
use Rattle.history_core.proofs.bus.publish.Goals as goal

pub returns-in_default-clause-publishes : goal.returns-in_default-clause-publishes
returns-in_default-clause-publishes g c = fed_out c.args.count c.loop-i._i c.args.source.now c.loop-i.source (g.B.Buffer.relay c.args.relay.now) (g.B.Buffer.relay c.loop-i.relay) c.in_default.ensures c.loop-i.invariant

pub publish-requires-clause-chained : goal.publish-requires-clause-chained
publish-requires-clause-chained g c = (fed_follows c.args.count c.loop-i._i c.args.source.now c.loop-i.source (g.B.Buffer.relay c.args.relay.now) (g.B.Buffer.relay c.loop-i.relay) c.in-Some.window.now c.requires.follow c.loop-i-test.true c.in-Some.ensures c.loop-i.invariant).chained

pub publish-requires-clause-full : goal.publish-requires-clause-full
publish-requires-clause-full g c = (fed_follows c.args.count c.loop-i._i c.args.source.now c.loop-i.source (g.B.Buffer.relay c.args.relay.now) (g.B.Buffer.relay c.loop-i.relay) c.in-Some.window.now c.requires.follow c.loop-i-test.true c.in-Some.ensures c.loop-i.invariant).full

pub loop-i-preserved : goal.loop-i-preserved
loop-i-preserved g c = fed_more c.args.count c.loop-i._i c.args.source.now c.loop-i.source c.pass.new.self (g.B.Buffer.relay c.args.relay.now) (g.B.Buffer.relay c.loop-i.relay) (g.B.Buffer.relay c.publish.new.self) c.in-Some.window.now c.requires.follow c.loop-i-test.true c.in-Some.ensures c.loop-i.invariant
    c.in_ok-publish.ensures.ok c.pass.ensures.windows c.pass.ensures.waiting c.pass.ensures.passed
