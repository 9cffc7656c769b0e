use Rattle.relay_node.proofs.Runs.{leads_on}
use Rattle.relay_node.proofs.feed.Feed.take.Goals as goal

pub take_next-requires-clause-leads : goal.take_next-requires-clause-leads
take_next-requires-clause-leads g c =
    λ κs lives. leads_on g.T.Timeline.told (record { sent = c.args.self.now.publisher; lines = c.args.self.now.lines }) (record { sent = c.loop-after.self.publisher; lines = c.loop-after.self.lines })
    c.args.piece.now c.loop-after.rest.now c.loop-after.invariant.part c.requires.leads
