use Rattle.std.proofs.Common.{length, rules, sym, ap, subst, ◌∙◌}
use Rattle.bus_types.specs.Timeline.{end_of}
use Rattle.ring_cells.specs.Entries.{IsAt}
use Rattle.relay_node.specs.Pieces.{Sent}
use Rattle.relay_node.proofs.Published.{position_below, publishing_more}
use Rattle.relay_node.proofs.publisher.Publisher.publish.Goals as goal

pub new-requires-clause-below : goal.new-requires-clause-below
new-requires-clause-below g c =
    let inside = c.self.inside in
    let chained = c.requires.chained ∙ sym (ap (λ (s : Sent). end_of s.windows) c.self.view_is) in
    let below = position_below inside.ring.now inside.feeder inside.tail inside.past c.args.window.now c.self.invariant chained c.scn-scn.ensures.fits in
    search rules

pub new-requires-clause-told : goal.new-requires-clause-told
new-requires-clause-told g c =
    let place = c.self.invariant.count ∙ ap (λ (s : Sent). length s.windows) c.self.view_is in
    let told = subst (λ n. IsAt g.T.Timeline.told n c.args.window.now) (sym place) c.requires.next in
    search rules

pub invariant_of-self : goal.invariant_of-self
invariant_of-self g c =
    let inside = c.self.inside in
    let chained = c.requires.chained ∙ sym (ap (λ (s : Sent). end_of s.windows) c.self.view_is) in
    rw c.push.ensures (publishing_more inside.ring.now inside.feeder c.publish.new.self inside.tail c.scn-scn.result _ inside.past c.args.window.now c.self.invariant chained c.scn-scn.ensures.fits c.publish.ensures.feeder c.scn-scn.ensures.value)
