use Rattle.std.proofs.Common.{arith}
use Rattle.relay_node.proofs.Published.{made_more, made_near, made_next, made_all, made_on}
use Rattle.relay_node.proofs.line.publish_generated.Goals as goal

pub publish-requires-clause-next : goal.publish-requires-clause-next
publish-requires-clause-next g c =
    let made = c.in_ok-window.ensures in
    λ κs lives. made_next g.T.Timeline.told c.loop-i.publisher (made_on c.args.publisher.now c.args.more c.args.seed) c.loop-i.state c.loop-i._i c.args.more c.in_ok-window.window c.loop-i-test.true (rw (← c.tail.ensures) made.window) c.loop-i.invariant.rest c.requires.next

pub loop-i-preserved : goal.loop-i-preserved
loop-i-preserved g c =
    let s = c.loop-i.publisher in
    let w = c.in_ok-window.window in
    let made = c.in_ok-window.ensures in
    let published = c.in_ok-publish.ensures in
    let near = made_near s _ w c.tail.result c.tail.ensures published made.near in
    record {
      rest = rw made.state (made_more s _ _ c.loop-i.state c.loop-i._i c.args.more w c.loop-i-test.true (rw (← c.tail.ensures) made.window) published c.loop-i.invariant.rest);
      low = omega (arith, near, c.loop-i.invariant.low);
    }

pub returns : goal.returns
returns g c = made_all c.loop-i.publisher _ c.loop-i.state c.loop-i._i c.args.more (omega (arith, c.loop-i-test.false)) c.loop-i.invariant.rest
