use Rattle.std.proofs.Common.{sym, ap, ◌∙◌, subst, arith}
use Rattle.bus_types.specs.Timeline.{total_size}
use Rattle.bus_types.specs.Relay.{Relay, published, StandsFor}
use Rattle.bus_types.proofs.Floors.{stands_published}
use Rattle.plain_buffer.proofs.Publishing.{total_more, bytes_within, published_is, buffer_after}
use Rattle.plain_buffer.proofs.buffer.PlainBuffer.publish.Goals as goal

pub push-requires : goal.push-requires
push-requires c = omega (arith, bytes_within _ c.self.inside.kept.size c.self.invariant)

pub evict-requires : goal.evict-requires
evict-requires c =
    let before = c.self.inside.kept.windows.items in
    omega (arith, c.in_ok-push.ensures.size, ap total_size c.in_ok-push.ensures.ok, total_more before c.args.window.now, c.self.invariant.bytes)

pub invariant_of-self-2 : goal.invariant_of-self-2
invariant_of-self-2 c =
    let i = c.self.inside in
    let r : Relay = record { room = record { bytes = i.bytes; windows = i.windows }; floor = i.kept.floor; tail = i.tail; kept = i.kept.windows.items } in
    let w = c.args.window.now in
    let now = published_is r w _ _ _ c.evict.new.self.size c.evict.new.self.floor c.scn-self-inside.result c.in_ok-push.ensures.ok c.in_ok-push.ensures.floor c.scn-self-inside.ensures.value c.evict.ensures in
    let chained = c.requires.chained ∙ ap (λ r. r.tail) (sym c.self.view_is) in
    buffer_after r _ c.self.inside.kept.size c.evict.new.self.size w c.self.invariant chained c.requires.full c.scn-self-inside.ensures.fits now c.evict.ensures.bytes

pub returns-clause-stands : goal.returns-clause-stands
returns-clause-stands c = λ ws stands next.
    let i = c.self.inside in
    let r : Relay = record { room = record { bytes = i.bytes; windows = i.windows }; floor = i.kept.floor; tail = i.tail; kept = i.kept.windows.items } in
    let w = c.args.window.now in
    let now = published_is r w _ _ _ c.evict.new.self.size c.evict.new.self.floor c.scn-self-inside.result c.in_ok-push.ensures.ok c.in_ok-push.ensures.floor c.scn-self-inside.ensures.value c.evict.ensures in
    subst (StandsFor ws) (sym (now ∙ ap (λ r. published r w) c.self.view_is)) (stands_published ws c.args.self.now w stands next)
