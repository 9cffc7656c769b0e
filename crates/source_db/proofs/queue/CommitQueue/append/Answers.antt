use Rattle.std.proofs.Common.{List, ◌∷◌, [], ◌++◌, ap, sym, ◌∙◌}
use Rattle.std.proofs.lemmas.List.{append_assoc}
use Rattle.bus_types.specs.Window.{Span}
use Rattle.bus_types.specs.Timeline.{end_of}
use Rattle.source_db.specs.Queue.{Commits}
use Rattle.source_db.proofs.Waiting.{kept_more}
use Rattle.source_db.proofs.queue.CommitQueue.append.Goals as goal

pub invariant_of-self-2 : goal.invariant_of-self-2
invariant_of-self-2 c =
    let past : List Span = c.self.inside.past in
    let items : List Span = c.self.inside.waiting.items in
    let w : Span = c.args.window in
    let chained = c.requires.chained ∙ sym (ap (λ (q : Commits). end_of q.windows) c.self.view_is) in
    let more = kept_more (past ++ items) c.self.inside.last c.self.inside.count w c.self.invariant chained c.requires.full c.size-within.ensures.fits in
    rw (c.in_ok-push_back.ensures.items, c.scn-scn.ensures.value, ← append_assoc past items (w ∷ [])) more
