use Rattle.std.proofs.Common.{◌∙◌, ap, take}
use Rattle.event_codec.proofs.Parsings.{events_are}
use Rattle.event_codec.proofs.Lendings.{first_events, events_short}
use Rattle.event_codec.proofs.lent.Run.first.Goals as goal

pub slice_bounds-result-count : goal.slice_bounds-result-count
slice_bounds-result-count c =
    events_short c.self.inside.bytes.now c.rest.inside.bytes.now c.args.count c.self.invariant c.rest.invariant (c.rest.view_is ∙ c.skip.ensures)

pub invariant_of-result : goal.invariant_of-result
invariant_of-result c =
    (_, first_events c.self.inside.bytes.now c.rest.inside.bytes.now c.args.count c.self.invariant c.rest.invariant (c.rest.view_is ∙ c.skip.ensures))

pub returns : goal.returns
returns c =
    let front = first_events c.self.inside.bytes.now c.rest.inside.bytes.now c.args.count c.self.invariant c.rest.invariant (c.rest.view_is ∙ c.skip.ensures) in
    events_are _ _ front ∙ ap (take c.args.count) c.self.view_is
