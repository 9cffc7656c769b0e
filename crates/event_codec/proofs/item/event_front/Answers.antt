use Rattle.std.proofs.Common.{sym, ◌∙◌}
use Rattle.event_codec.specs.Items.{since_of, open_in}
use Rattle.event_codec.proofs.Fronts.{event_found}
use Rattle.event_codec.proofs.item.event_front.Goals as goal

pub returns : goal.returns
returns c =
    event_found (since_of c.args.follows) (open_in c.args.events) c.args.kind c.args.bytes.now c.in-Some.source c.in-Some.scn c.in-Some.key c.in-Some.len c.in-Some.payload.now
    c.in-Some.ensures (sym c.event_stands.ensures ∙ c.if-not-event_stands.false) c.if-payload-len.false
