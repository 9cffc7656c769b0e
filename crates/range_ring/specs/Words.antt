-- The two words of a shared ring: FLOOR, how many windows of the timeline were evicted, and TAIL, how many were published.
use Rattle.std.specs.Prelude.{◌≡◌, ℕ, ◌+◌, ◌<◌, ◌≤◌, min, max, true, false, List, [], ◌∷◌, length, Option, Some, None}
use mathlib.Core.Option.{some}
use lib.ListN.{get_elem?}
use Rattle.atomic_table.specs.Table.{Me, Step}
use Rattle.bus_types.specs.Window.{Span}
use Rattle.bus_types.specs.Relay.{Room, sizes, evicted}
use Rattle.range_ring.specs.declared.words.Limits.{Limits}
use Rattle.range_ring.specs.declared.words.View.{View}

abbrev pub room_of : Limits → Room
room_of limits = record { bytes = limits.bytes; windows = limits.windows }

-- how many windows of a timeline are evicted after the first so many were published
unfoldable pub evicted_at : Limits → List Span → ℕ → ℕ
evicted_at limits windows count = evicted (room_of limits) (sizes windows) count

-- where a timeline is told, so many are evicted after so many were published
abbrev pub IsEvicted : Limits → Option (List Span) → ℕ → ℕ → Type 0
IsEvicted limits None published evicted = Unit {0}
IsEvicted limits (Some windows) published evicted = evicted ≡ evicted_at limits windows published

-- numbers that a pass may have seen: no more were published than there are, and no more evicted than the next publication
-- evicts. Where no timeline is told, nothing is said
abbrev pub IsSeen : Limits → Option (List Span) → ℕ → ℕ → Type 0
IsSeen limits None evicted published = Unit {0}
IsSeen limits (Some windows) evicted published = (published ≤ length windows) × (evicted ≤ evicted_at limits windows (min (published + 1) (length windows)))

-- ---- the rule

-- the words are those of the last publication, or FLOOR alone is already that of the next one
pub record InTime (evicts : ℕ → ℕ) (count floor tail : ℕ) : Type 0 where
  pub least : evicts tail ≤ floor
  pub most : floor ≤ evicts (min (tail + 1) count)
  pub order : floor ≤ tail
  pub end : tail ≤ count

abbrev pub WordsStand : Limits → Option (List Span) → ℕ → ℕ → Type 0
WordsStand limits None floor tail = floor ≤ tail
WordsStand limits (Some windows) floor tail = InTime (evicted_at limits windows) (length windows) floor tail

-- what the seat of this number knows is not above the words, and the seat of the feeder knows both
pub record Agrees (feeder floor tail number : ℕ) (v : View) : Type 0 where
  pub feeds : v.feeds ≡ true → (number ≡ feeder) × (v.evicted ≡ floor) × (v.published ≡ tail)
  pub evicted : v.evicted ≤ floor
  pub published : v.published ≤ tail

-- the rule that every step keeps
pub record Kept (limits : Limits) (told : Option (List Span)) (words : List ℕ) (views : List View) : Type 0 where
  pub floor : ℕ
  pub tail : ℕ
  pub feeder : ℕ
  pub words_are : words ≡ floor ∷ tail ∷ []
  pub lawful : WordsStand limits told floor tail
  pub each : (number : ℕ) (v : View) → get_elem? views number ≡ some v → Agrees feeder floor tail number v

-- the first seat is the feeder's
abbrev pub feeding : Limits → View
feeding limits = record { evicted = 0; published = 0; floor_loads = 0; tail_loads = 0; feeds = true; limits = limits }

-- ---- the steps: of the step, the seat before, the number found and the seat after

-- a load of FLOOR
abbrev pub floor_seen : Step ℕ → Me ℕ View → ℕ → Me ℕ View → Type 0
floor_seen s old found new = (new ≡ (record old.0 { evicted = found; floor_loads = old.0.floor_loads + 1 }, old.1)) × (old.0.evicted ≤ found)

-- a load of TAIL
abbrev pub tail_seen : Option (List Span) → Step ℕ → Me ℕ View → ℕ → Me ℕ View → Type 0
tail_seen told s old found new = (new ≡ (record old.0 { published = found; tail_loads = old.0.tail_loads + 1 }, old.1)) × (old.0.published ≤ found) × (old.0.evicted ≤ found) × IsSeen old.0.limits told old.0.evicted found

-- a raise of FLOOR, and one of TAIL
abbrev pub floor_raised : Step ℕ → Me ℕ View → ℕ → Me ℕ View → Type 0
floor_raised s old found new = new ≡ (record old.0 { evicted = max old.0.evicted s.first }, old.1)

abbrev pub tail_raised : Step ℕ → Me ℕ View → ℕ → Me ℕ View → Type 0
tail_raised s old found new = new ≡ (record old.0 { published = max old.0.published s.first }, old.1)

-- a new seat copies the numbers of another, and does not feed
abbrev pub copied : View → View
copied v = record v { feeds = false }

-- a seat takes the greater numbers of its own and of another's, which knows nothing then
abbrev pub met : View → View → View
met v w = record v { evicted = max v.evicted w.evicted; published = max v.published w.published }

abbrev pub spent : View
spent = record { evicted = 0; published = 0; floor_loads = 0; tail_loads = 0; feeds = false; limits = record { bytes = 0; windows = 0 } }

-- the feeder may evict so many for the window that it publishes next, of which a told timeline has one
abbrev pub MayEvict : Limits → Option (List Span) → View → ℕ → Type 0
MayEvict limits None v evicted = evicted ≤ v.published
MayEvict limits (Some windows) v evicted = (v.published < length windows) × (evicted ≡ evicted_at limits windows (v.published + 1))

-- the feeder may publish that window, once it has evicted for it
abbrev pub MayPublish : Limits → Option (List Span) → View → Type 0
MayPublish limits None v = Unit {0}
MayPublish limits (Some windows) v = (v.published < length windows) × (v.evicted ≡ evicted_at limits windows (v.published + 1))
