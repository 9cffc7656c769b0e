use Rattle.std.proofs.Common.{◌≡◌, ◌-◌, ℕ, List, length, take, drop, arith, ap, sym, subst, ◌∙◌}
use Rattle.std.specs.Int.{w64}
use Rattle.event_codec.specs.Reading.{number_at}
use Rattle.byte_ring.proofs.Keeping.{front_slot, oldest_is, holds_less, kept_same}
use Rattle.bus_types.specs.Timeline.{end_from}
use Rattle.byte_ring.specs.Kept.{Bytes, Holds}
use Rattle.byte_ring.specs.Slots.{windows_of}
use Rattle.byte_ring.proofs.kept.Kept.evict_oldest.Goals as goal

pub long-self-inside-requires : goal.long-self-inside-requires
long-self-inside-requires c =
    let i = c.self.inside in
    let s = c.in-Some.oldest in
    let o = oldest_is i.circle i.slots i.floor i.end i.first i.index s (drop 1 i.slots.items) (front_slot i.slots.items s (sym c.pop_front.ensures.value ∙ c.in-Some.is)) c.self.invariant in
    omega (arith, o.least, o.within, ap (λ (x : List ℕ). length x) c.halves.ensures)

pub drop_front-requires : goal.drop_front-requires
drop_front-requires c =
    let i = c.self.inside in
    let s = c.in-Some.oldest in
    (oldest_is i.circle i.slots i.floor i.end i.first i.index s (drop 1 i.slots.items) (front_slot i.slots.items s (sym c.pop_front.ensures.value ∙ c.in-Some.is)) c.self.invariant).within

pub invariant_of-self : goal.invariant_of-self
invariant_of-self c =
    let i = c.self.inside in
    let s = c.in-Some.oldest in
    let o = oldest_is i.circle i.slots i.floor i.end i.first i.index s (drop 1 i.slots.items) (front_slot i.slots.items s (sym c.pop_front.ensures.value ∙ c.in-Some.is)) c.self.invariant in
    kept_same _ _ _ _ _ _ i.end _ _ _ c.drop_front.ensures c.pop_front.ensures.items (c.long-self-inside.ensures ∙ ap (λ (x : List ℕ). number_at w64 (s.size - 16) x) c.halves.ensures ∙ o.scn) c.forget.ensures o.next

pub returns : goal.returns
returns c =
    let i = c.self.inside in
    let s = c.in-Some.oldest in
    let are = front_slot i.slots.items s (sym c.pop_front.ensures.value ∙ c.in-Some.is) in
    let o = oldest_is i.circle i.slots i.floor i.end i.first i.index s (drop 1 i.slots.items) are c.self.invariant in
    let seen : Holds = record { room = record { bytes = c.drop_front.new.self.room; windows = c.pop_front.new.self.capacity }; floor = c.long-self-inside.result; windows = windows_of c.pop_front.new.self.items } in
    let left = holds_less i.circle c.drop_front.new.self i.slots c.pop_front.new.self i.floor c.long-self-inside.result s are (ap (λ (b : Bytes). b.room) c.drop_front.ensures) c.pop_front.ensures.items (c.long-self-inside.ensures ∙ ap (λ (x : List ℕ). number_at w64 (s.size - 16) x) c.halves.ensures ∙ o.scn) in
    subst (λ (v : Holds). seen ≡ record { room = v.room; floor = end_from v.floor (take 1 v.windows); windows = drop 1 v.windows }) c.self.view_is left
