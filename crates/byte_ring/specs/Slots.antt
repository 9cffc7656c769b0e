-- What a ring knows of the windows in its bytes.
use Rattle.std.specs.Prelude.{◌≡◌, ℕ, ◌+◌, ◌/◌, ◌%◌, ◌≤◌, true, List, [], ◌∷◌, length, map}
use Rattle.bus_types.specs.declared.limits.TheConstants.{MAX_SCN}
use Rattle.bus_types.specs.Window.{Span, span_size}
use Rattle.bus_types.specs.Timeline.{IsTimelineFrom, total_size}
use Rattle.bus_types.specs.Relay.{IsRoom, sizes, has_room}
use Rattle.circular_buffer.specs.Buffer.{Buffer}
use Rattle.event_codec.specs.Streams.{windows_bytes}
use Rattle.scn_index.specs.Index.{Index}
use Rattle.byte_ring.specs.declared.kept.Slot.{Slot}
use Rattle.byte_ring.specs.Kept.{Bytes, entries_of}

abbrev pub windows_of : List Slot → List Span
windows_of slots = map (λ s. s.window.value) slots

-- a slot tells its window's bytes and events, and where they begin, counted back over those behind them
pub record Tells (end behind : ℕ) (s : Slot) : Type 0 where
  pub size : s.size ≡ span_size s.window.value
  pub count : s.count ≡ length s.window.value.changes
  pub place : (s.begin + (s.size + behind)) % 4294967296 ≡ end

abbrev pub ArePlaced : ℕ → List Slot → Type 0
ArePlaced end [] = Unit {0}
ArePlaced end (s ∷ ss) = Tells end (total_size (windows_of ss)) s × ArePlaced end ss

-- the bytes are those of the slots' windows, in their room, and the index has their entries
pub record IsKept (circle : Bytes) (slots : Buffer Slot) (floor end first : ℕ) (index : Index) : Type 0 where
  pub room : IsRoom (record { bytes = circle.room; windows = slots.capacity })
  pub bytes : circle.bytes ≡ windows_bytes (windows_of slots.items)
  pub placed : ArePlaced end slots.items
  pub timeline : IsTimelineFrom floor (windows_of slots.items)
  pub roomy : has_room (record { bytes = circle.room; windows = slots.capacity }) (sizes (windows_of slots.items)) ≡ true
  pub low : first ≤ floor
  pub floor_low : floor ≤ MAX_SCN
  pub indexed : index.entries ≡ entries_of first floor (windows_of slots.items)
  pub spare : index.slots ≡ slots.capacity / 16 + 2
