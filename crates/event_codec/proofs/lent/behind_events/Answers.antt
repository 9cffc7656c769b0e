use Rattle.std.proofs.Common.{◌∙◌, sym}
use Rattle.event_codec.specs.View.{event_of}
use Rattle.event_codec.proofs.Lendings.{behind_next, behind_end}
use Rattle.event_codec.proofs.Parsings.{events_shorten}
use Rattle.event_codec.proofs.lent.behind_events.Goals as goal

pub loop-behind-smaller : goal.loop-behind-smaller
loop-behind-smaller c = events_shorten c.loop-behind.rest.now c.in-Some.behind.now (event_of c.in-Some.field-0-0) c.in-Some.ensures.found

pub loop-behind-preserved : goal.loop-behind-preserved
loop-behind-preserved c = c.loop-behind.invariant ∙ behind_next c.loop-behind.rest.now c.in-Some.behind.now (event_of c.in-Some.field-0-0) c.in-Some.ensures.found

pub returns : goal.returns
returns c = sym (c.loop-behind.invariant ∙ behind_end c.loop-behind.rest.now c.in_default.ensures.found)
