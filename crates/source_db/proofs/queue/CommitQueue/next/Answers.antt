use Rattle.std.proofs.Common.{ap, sym, ◌∙◌}
use Rattle.source_db.specs.Queue.{waiting}
use Rattle.source_db.proofs.Waiting.{waiting_is, front_is}
use Rattle.source_db.proofs.queue.CommitQueue.next.Goals as goal

pub returns : goal.returns
returns c =
    let items = c.self.inside.waiting.items in
    front_is items (waiting c.args.self.now) c.front.result (ap waiting (sym c.self.view_is) ∙ waiting_is c.self.inside.past items c.self.invariant.timeline) c.front.ensures.item
