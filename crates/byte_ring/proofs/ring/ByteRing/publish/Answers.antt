use Rattle.std.proofs.Common.{◌∷◌, [], ap, sym, subst, ◌∙◌}
use Rattle.bus_types.specs.Timeline.{end_from}
use Rattle.bus_types.specs.Relay.{Relay, published, StandsFor}
use Rattle.bus_types.proofs.Floors.{stands_published}
use Rattle.bus_types.proofs.Stretches.{end_from-append}
use Rattle.byte_ring.specs.Kept.{Holds}
use Rattle.byte_ring.proofs.Making.{published_of}
use Rattle.byte_ring.proofs.ring.ByteRing.publish.Goals as goal

pub push-requires-clause-follows : goal.push-requires-clause-follows
push-requires-clause-follows c =
    let tail = ap (λ (r : Relay). r.tail) (sym c.self.view_is) in
    record { chained = c.requires.chained ∙ tail ∙ c.self.invariant.0 ∙ sym c.make_room.ensures.room.end; full = c.requires.full; within = c.make_room.ensures.fits }

pub invariant_of-self : goal.invariant_of-self
invariant_of-self c =
    let mid = c.make_room.new.self in
    let w = c.args.window.now in
    let end = ap (λ (k : Holds). end_from k.floor k.windows) c.push.ensures ∙ end_from-append mid.floor mid.windows (w ∷ []) in
    (c.scn-self-inside.ensures.value ∙ sym end, rw c.scn-self-inside.ensures.value c.scn-self-inside.ensures.fits.scn)

pub returns-clause-stands : goal.returns-clause-stands
returns-clause-stands c = λ ws stands next.
    let i = c.self.inside in
    let w = c.args.window.now in
    let now = published_of i.kept c.make_room.new.self c.push.new.self w i.tail c.scn-self-inside.result c.make_room.ensures.room c.push.ensures c.scn-self-inside.ensures.value in
    subst (StandsFor ws) (sym (now ∙ ap (λ r. published r w) c.self.view_is)) (stands_published ws c.args.self.now w stands next)
