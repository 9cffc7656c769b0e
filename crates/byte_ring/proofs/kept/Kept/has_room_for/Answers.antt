use Rattle.std.proofs.Common.{◌≡◌, ◌+◌, ◌∷◌, [], ◌++◌, nat_le, List, ℕ, length, ap, sym, subst, ◌∙◌, arith}
use Rattle.std.proofs.lemmas.List.{length-map}
use Rattle.bus_types.specs.Relay.{Room, sizes, has_room}
use Rattle.bus_types.proofs.Floors.{roomy_parts}
use Rattle.plain_buffer.proofs.Evicting.{total_is}
use Rattle.byte_ring.proofs.Making.{room_left}
use Rattle.byte_ring.proofs.Pushing.{bytes_long}
use Rattle.byte_ring.specs.Kept.{Holds}
use Rattle.byte_ring.specs.declared.kept.Slot.{Slot}
use Rattle.byte_ring.specs.Slots.{windows_of}
use Rattle.byte_ring.proofs.kept.Kept.has_room_for.Goals as goal

pub overflow_add-result : goal.overflow_add-result
overflow_add-result c =
    let i = c.self.inside in
    let kept = c.self.invariant in
    let ws = windows_of i.slots.items in
    let room : Room = record { bytes = i.circle.room; windows = i.slots.capacity } in
    let parts = roomy_parts room (sizes ws) kept.roomy in
    omega (arith, c.len-then-len-capacity.ensures, ap (λ (x : List ℕ). length x) kept.bytes, bytes_long ws, total_is ws, parts.1, kept.room.bytes.1, c.size-size.ensures.value, c.size-size.ensures.fits.size)

pub returns-then-len-capacity-clause-room : goal.returns-then-len-capacity-clause-room
returns-then-len-capacity-clause-room c =
    let i = c.self.inside in
    let kept = c.self.invariant in
    let ws = windows_of i.slots.items in
    let w = c.args.window.now in
    let room : Room = record { bytes = i.circle.room; windows = i.slots.capacity } in
    let count = c.len.ensures.len ∙ sym (length-map i.slots.items (λ (x : Slot). x.window.value)) in
    let bytes = c.len-then-len-capacity.ensures ∙ ap (λ (x : List ℕ). length x) kept.bytes ∙ bytes_long ws in
    let left = room_left room ws w c.len.result c.len-then-len-capacity.result c.size-size.result c.capacity.result c.room.result c.if-len-capacity.true c.capacity.ensures.capacity c.room.ensures count bytes c.size-size.ensures.value in
    subst (λ (v : Holds). nat_le (c.len-then-len-capacity.result + c.size-size.result) c.room.result ≡ has_room v.room (sizes (v.windows ++ w ∷ []))) c.self.view_is left
