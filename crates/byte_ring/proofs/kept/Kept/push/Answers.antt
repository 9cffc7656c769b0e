use Rattle.std.proofs.Common.{◌≡◌, ◌+◌, ◌∷◌, [], ◌++◌, length, ap, sym, subst, ◌∙◌, refl, true}
use Rattle.bus_types.specs.Timeline.{Follows, end_from}
use Rattle.bus_types.specs.Relay.{Room, sizes, has_room}
use Rattle.scn_index.specs.Index.{AreBelow}
use Rattle.byte_ring.specs.Kept.{Holds, entry_of}
use Rattle.byte_ring.specs.declared.kept.Slot.{Slot}
use Rattle.byte_ring.specs.Slots.{windows_of}
use Rattle.byte_ring.proofs.Keeping.{can_push, kept_more, slots_kept, kept_same}
use Rattle.byte_ring.proofs.kept.Kept.push.Goals as goal

pub note-requires-clause-above : goal.note-requires-clause-above
note-requires-clause-above c =
    let i = c.self.inside in
    let w = c.args.window.now in
    let follows : Follows (end_from i.floor (windows_of i.slots.items)) w = subst (λ (v : Holds). Follows (end_from v.floor v.windows) w) (sym c.self.view_is) c.requires.follows in
    let room : Room = record { bytes = i.circle.room; windows = i.slots.capacity } in
    let roomy : has_room room (sizes (windows_of i.slots.items ++ w ∷ [])) ≡ true = subst (λ (v : Holds). has_room v.room (sizes (v.windows ++ w ∷ [])) ≡ true) (sym c.self.view_is) c.requires.room in
    subst (λ n. AreBelow n i.index.entries) (sym c.prev.ensures) (can_push i.circle i.slots i.floor i.end i.first i.index w c.self.invariant follows roomy).above

pub note-requires-clause-room : goal.note-requires-clause-room
note-requires-clause-room c =
    let i = c.self.inside in
    let w = c.args.window.now in
    let follows : Follows (end_from i.floor (windows_of i.slots.items)) w = subst (λ (v : Holds). Follows (end_from v.floor v.windows) w) (sym c.self.view_is) c.requires.follows in
    let room : Room = record { bytes = i.circle.room; windows = i.slots.capacity } in
    let roomy : has_room room (sizes (windows_of i.slots.items ++ w ∷ [])) ≡ true = subst (λ (v : Holds). has_room v.room (sizes (v.windows ++ w ∷ [])) ≡ true) (sym c.self.view_is) c.requires.room in
    (can_push i.circle i.slots i.floor i.end i.first i.index w c.self.invariant follows roomy).spare

pub push_window-requires : goal.push_window-requires
push_window-requires c =
    let i = c.self.inside in
    let w = c.args.window.now in
    let follows : Follows (end_from i.floor (windows_of i.slots.items)) w = subst (λ (v : Holds). Follows (end_from v.floor v.windows) w) (sym c.self.view_is) c.requires.follows in
    let room : Room = record { bytes = i.circle.room; windows = i.slots.capacity } in
    let roomy : has_room room (sizes (windows_of i.slots.items ++ w ∷ [])) ≡ true = subst (λ (v : Holds). has_room v.room (sizes (v.windows ++ w ∷ [])) ≡ true) (sym c.self.view_is) c.requires.room in
    (can_push i.circle i.slots i.floor i.end i.first i.index w c.self.invariant follows roomy).bytes

pub invariant_of-self : goal.invariant_of-self
invariant_of-self c =
    let i = c.self.inside in
    let w = c.args.window.now in
    let follows : Follows (end_from i.floor (windows_of i.slots.items)) w = subst (λ (v : Holds). Follows (end_from v.floor v.windows) w) (sym c.self.view_is) c.requires.follows in
    let room : Room = record { bytes = i.circle.room; windows = i.slots.capacity } in
    let roomy : has_room room (sizes (windows_of i.slots.items ++ w ∷ [])) ≡ true = subst (λ (v : Holds). has_room v.room (sizes (v.windows ++ w ∷ [])) ≡ true) (sym c.self.view_is) c.requires.room in
    let s : Slot = record { begin = i.end; size = c.size.result; count = length c.changes.result.now; window = c.of.result } in
    let can = can_push i.circle i.slots i.floor i.end i.first i.index w c.self.invariant follows roomy in
    let more = kept_more i.circle i.slots i.floor i.end i.first (i.first + c.len.result) i.index w s c.self.invariant follows roomy (ap (λ n. i.first + n) c.len.ensures.len) c.of.ensures refl c.size.ensures.value (ap (λ cs. length cs) c.changes.ensures) in
    let pushed = c.push_back-none.ensures.items ∙ (λ k. record { items = slots_kept i.slots.items s i.slots.capacity can.slots_left k; capacity = i.slots.capacity }) in
    let noted = c.note.ensures ∙ (λ k. record { slots = i.index.slots; entries = i.index.entries ++ entry_of (i.first + c.len.result) (c.prev.ensures k) }) in
    kept_same _ _ _ _ _ _ _ _ _ _ c.push_window.ensures pushed refl noted more
