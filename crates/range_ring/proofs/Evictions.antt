-- How many windows of a timeline are evicted, as far as the ring's rule needs it.
use Rattle.std.proofs.Common.{◌≡◌, ℕ, ◌<◌, ◌≤◌, inl, inr, List, [], ◌∷◌, ◌++◌, length, arith}
use Rattle.std.specs.List.{All}
use Rattle.std.proofs.lemmas.Bool.{cases_Bool}
use Rattle.std.proofs.lemmas.List.{length-map}
use Rattle.std.proofs.lemmas.List.Elements.{All-nil, All-cons}
use Rattle.bus_types.specs.Window.{Span, span_size}
use Rattle.bus_types.specs.Timeline.{IsTimeline, IsTimelineFrom}
use Rattle.bus_types.specs.Relay.{Room, IsRoom, sizes, has_room, surplus}
use Rattle.bus_types.proofs.Floors.{roomy_from, surplus_none, surplus_first, evicted_none, evicted_rises, evicted_below}
use Rattle.range_ring.specs.declared.words.Limits.{Limits}
use Rattle.range_ring.specs.Words.{room_of, evicted_at}

-- each window of a timeline fits alone
sizes_fit : (room : Room) (prev : ℕ) (ws : List Span) → 1048576 ≤ room.bytes → IsTimelineFrom prev ws → All (λ x. x ≤ room.bytes) (sizes ws)
sizes_fit room prev [] large t = All-nil (λ (x : ℕ). x ≤ room.bytes)
sizes_fit room prev (w ∷ ws) large t =
    let size = t.0.within.size in
    All-cons (λ (x : ℕ). x ≤ room.bytes) (span_size w) (sizes ws) (omega arith) (sizes_fit room w.scn ws large t.1)

-- the last window is kept
pub last_stays : (room : Room) (xs : List ℕ) (y : ℕ) → 0 < room.windows → y ≤ room.bytes → surplus room (xs ++ y ∷ []) ≤ length xs
last_stays room [] y some fits = omega (arith, surplus_none room y [] (roomy_from room (y ∷ []) (omega arith) (omega arith)))
last_stays room (x ∷ xs) y some fits =
    let rest = last_stays room xs y some fits in
    elim (cases_Bool (has_room room (x ∷ xs ++ y ∷ []))) [
      | inl h ↦ omega (arith, surplus_none room x (xs ++ y ∷ []) h)
      | inr h ↦ omega (arith, surplus_first room x (xs ++ y ∷ []) h)
    ]

-- what the rule needs of the number of evicted windows
pub record Evicts (evicts : ℕ → ℕ) (count : ℕ) : Type 0 where
  pub none : evicts 0 ≡ 0
  pub rises : (a b : ℕ) → a ≤ b → evicts a ≤ evicts b
  pub below : (published : ℕ) → 0 < published → published ≤ count → evicts published < published

pub evicts_nothing : (limits : Limits) (ws : List Span) → evicted_at limits ws 0 ≡ 0
unfolding evicted_at
evicts_nothing limits ws = evicted_none (room_of limits) (sizes ws)

evicts_more : (limits : Limits) (ws : List Span) (a b : ℕ) → a ≤ b → evicted_at limits ws a ≤ evicted_at limits ws b
unfolding evicted_at
evicts_more limits ws a b le = evicted_rises (room_of limits) (sizes ws) a b le

evicts_fewer : (limits : Limits) (ws : List Span) (published : ℕ) → IsRoom (room_of limits) → IsTimeline ws → 0 < published → published ≤ length ws → evicted_at limits ws published < published
unfolding evicted_at
evicts_fewer limits ws published room t some le =
    let bytes = room.bytes.0 in
    let windows = room.windows.0 in
    evicted_below (room_of limits) (sizes ws) published (omega arith) (sizes_fit (room_of limits) 0 ws bytes t) some (omega (arith, length-map ws span_size))

pub evicts : (limits : Limits) (ws : List Span) → IsRoom (room_of limits) → IsTimeline ws → Evicts (evicted_at limits ws) (length ws)
evicts limits ws room t = record {
  none = evicts_nothing limits ws;
  rises = evicts_more limits ws;
  below = λ published some le. evicts_fewer limits ws published room t some le;
}
