use Rattle.event_codec.specs.View.{event_of}
use Rattle.window_stream.proofs.Changes.{none_decoded, more_decoded, all_decoded}
use Rattle.window_stream.proofs.decode.changes_of.Goals as goal

pub loop-event-init : goal.loop-event-init
loop-event-init c = λ events are. none_decoded c.in_ok-changes.changes.items c.of-left.result events c.in_ok-changes.ensures.items (c.of-left.ensures events are)

pub loop-event-preserved : goal.loop-event-preserved
loop-event-preserved c = λ events are.
    more_decoded c.loop-event.changes.items c.push.new.self.items c.in_ok-change.field-0 (event_of c.in-Some.event) c.loop-event.left c.next.new.self events c.in_ok-push.ensures.items c.in_ok-change.ensures.ok c.in-Some.ensures.event
    (c.loop-event.invariant events are)

pub returns : goal.returns
returns c = λ events are. all_decoded c.loop-event.changes.items c.loop-event.left events c.in_default.ensures.event.0 (c.loop-event.invariant events are)
