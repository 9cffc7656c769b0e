use Rattle.std.proofs.Common.{◌≡◌, suc, ◌<◌, take, subst, arith}
use Rattle.bus_types.specs.Timeline.{end_from}
use Rattle.bus_types.proofs.Stretches.{Rises, timeline_rises}
use Rattle.byte_ring.specs.Kept.{Holds}
use Rattle.byte_ring.specs.Slots.{windows_of}
use Rattle.byte_ring.proofs.Finding.{place_found}
use Rattle.byte_ring.proofs.kept.Kept.place_after.Goals as goal

pub returns-clause-after : goal.returns-clause-after
returns-clause-after c =
    let kept = c.args.self.now in
    let i = c.self.inside in
    let place = c.halves.low in
    let inv = c.halves.invariant in
    let rises : Rises kept.floor kept.windows = subst (λ (k : Holds). Rises k.floor k.windows) c.self.view_is (timeline_rises i.floor (windows_of i.slots.items) c.self.invariant.timeline) in
    let next : c.halves.high ≡ suc place = omega (arith, c.halves-test.false, inv.some) in
    let high = subst (λ n. c.args.scn < end_from kept.floor (take n kept.windows)) next inv.high in
    place_found kept.floor c.args.scn place kept.windows rises (omega (arith, inv.some, inv.within)) inv.low high
