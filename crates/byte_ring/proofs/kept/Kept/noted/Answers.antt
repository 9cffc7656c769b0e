use Rattle.std.proofs.Common.{◌-◌, ◌+◌, ◌<◌, ◌≤◌, length, take, sym, subst, arith}
use Rattle.bus_types.specs.Timeline.{end_from}
use Rattle.bus_types.proofs.Stretches.{timeline_rises}
use Rattle.byte_ring.specs.Kept.{Holds}
use Rattle.byte_ring.specs.Slots.{windows_of}
use Rattle.byte_ring.proofs.Finding.{noted_of, near_found, near_none}
use Rattle.byte_ring.proofs.kept.Kept.noted.Goals as goal

pub overflow_sub-result : goal.overflow_sub-result
overflow_sub-result c =
    let i = c.self.inside in
    (noted_of i.first i.floor (windows_of i.slots.items) i.index.entries (c.in-Some.field-0-0, c.in-Some.number) c.self.invariant.indexed c.in-Some.ensures.held).least

pub returns-in-Some-clause-within : goal.returns-in-Some-clause-within
returns-in-Some-clause-within c =
    let i = c.self.inside in
    let n = noted_of i.first i.floor (windows_of i.slots.items) i.index.entries (c.in-Some.field-0-0, c.in-Some.number) c.self.invariant.indexed c.in-Some.ensures.held in
    subst (λ (k : Holds). c.in-Some.number - i.first < length k.windows) c.self.view_is n.within

pub returns-in-Some-clause-low : goal.returns-in-Some-clause-low
returns-in-Some-clause-low c =
    let i = c.self.inside in
    let n = noted_of i.first i.floor (windows_of i.slots.items) i.index.entries (c.in-Some.field-0-0, c.in-Some.number) c.self.invariant.indexed c.in-Some.ensures.held in
    subst (λ (k : Holds). end_from k.floor (take (c.in-Some.number - i.first) k.windows) ≤ c.args.scn) c.self.view_is (omega (arith, n.before, c.in-Some.ensures.upto))

pub returns-in-Some-clause-near : goal.returns-in-Some-clause-near
returns-in-Some-clause-near c =
    let i = c.self.inside in
    let place = c.in-Some.number - i.first in
    let ws = windows_of i.slots.items in
    let high = subst (λ (k : Holds). c.args.scn < end_from k.floor k.windows) (sym c.self.view_is) c.requires.high in
    let near = near_found i.first c.args.scn i.floor ws i.index.entries (c.in-Some.field-0-0, c.in-Some.number) c.self.invariant.indexed (timeline_rises i.floor ws c.self.invariant.timeline) high c.in-Some.ensures in
    subst (λ (k : Holds). place + 16 ≤ length k.windows → c.args.scn < end_from k.floor (take (place + 16) k.windows)) c.self.view_is near

pub returns-in-None-clause-near : goal.returns-in-None-clause-near
returns-in-None-clause-near c =
    let i = c.self.inside in
    let ws = windows_of i.slots.items in
    let near = near_none i.first c.args.scn i.floor ws i.index.entries c.self.invariant.indexed (timeline_rises i.floor ws c.self.invariant.timeline) c.in-None.ensures in
    subst (λ (k : Holds). 16 ≤ length k.windows → c.args.scn < end_from k.floor (take 16 k.windows)) c.self.view_is near
