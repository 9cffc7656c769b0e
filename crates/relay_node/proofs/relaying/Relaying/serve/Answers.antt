use Rattle.std.proofs.Common.{rules}
use Rattle.range_ring.specs.Words.{room_of}
use Rattle.relay_node.specs.Passing.{relay_told}
use Rattle.relay_node.proofs.Seen.{relaying_is}
use Rattle.relay_node.proofs.Replies.{serves_relay, serves_still}
use Rattle.relay_node.proofs.relaying.Relaying.serve.Goals as goal

pub invariant_of-self : goal.invariant_of-self
invariant_of-self g c =
    let inside = c.self.inside in
    let told = g.T.Timeline.told in
    let r = relay_told (room_of inside.ring.now.limits) told inside.floor inside.tail in
    let is = relaying_is told inside.ring.now.limits inside.floor inside.tail c.self.invariant.floor_is c.self.invariant.tail_is in
    let sees = serves_still told inside.ring.now r inside.pass c.serve_relay.new.pass _ _ _ _ _ _ _ g.T.Timeline.lawful is c.self.invariant.home c.self.invariant.sees c.serve_relay.ensures.served in
    search rules

pub returns : goal.returns
returns g c =
    let inside = c.self.inside in
    let told = g.T.Timeline.told in
    let r = relay_told (room_of inside.ring.now.limits) told inside.floor inside.tail in
    let is = relaying_is told inside.ring.now.limits inside.floor inside.tail c.self.invariant.floor_is c.self.invariant.tail_is in
    rw (← c.self.view_is) (serves_relay told inside.ring.now r inside.pass c.serve_relay.new.pass _ _ _ _ _ _ _ g.T.Timeline.lawful is c.self.invariant.home c.self.invariant.sees c.serve_relay.ensures.served)
