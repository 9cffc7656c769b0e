-- The bytes of events, marks and windows. Numbers are big-endian. Each value has one spelling.
use Rattle.std.specs.Prelude.{◌≡◌, ℕ, ◌+◌, ◌<◌, ◌≤◌, ◌^◌, List, [], ◌∷◌, ◌++◌, length, take, drop, Option, Some, None}
use Rattle.std.specs.Int.{w16, w32, w64, to_be_bytes}
use Rattle.bus_types.specs.declared.change.Key.{Key}
use Rattle.bus_types.specs.declared.change.Key.TheVariants.{Long}
use Rattle.bus_types.specs.declared.change.Change.{Change}
use Rattle.bus_types.specs.declared.limits.TheConstants.{MAX_SCN, MAX_PAYLOAD}
use Rattle.bus_types.specs.Change.{IsKey, payload_size}
use Rattle.bus_types.specs.Window.{Span}

-- an event: the SCN of its window, and the change
pub record Event : Type 0 where
  pub scn : ℕ
  pub change : Change

-- the numbers of an event are in their ranges
pub record IsEvent (e : Event) : Type 0 where
  pub positive : 0 < e.scn
  pub scn : e.scn ≤ MAX_SCN
  pub source : e.change.source < 2 ^ 16
  pub key : IsKey e.change.key
  pub payload : payload_size e.change.put ≤ MAX_PAYLOAD

-- kind, source, SCN, key and length
abbrev pub head_bytes : ℕ → ℕ → ℕ → Key → ℕ → List ℕ
head_bytes kind source scn (Long key) len = kind ∷ to_be_bytes w16 source ++ to_be_bytes w64 scn ++ to_be_bytes w64 key ++ to_be_bytes w32 len

-- a put is of kind 1 and ends with its payload; a delete is of kind 2 and has the length 0
abbrev pub put_bytes : ℕ → ℕ → Key → Option (List ℕ) → List ℕ
put_bytes scn source key (Some payload) = head_bytes 1 source scn key (length payload) ++ payload
put_bytes scn source key None = head_bytes 2 source scn key 0

-- what an event has behind its head
abbrev pub payload_bytes : Option (List ℕ) → List ℕ
payload_bytes (Some payload) = payload
payload_bytes None = []

abbrev pub event_bytes : Event → List ℕ
event_bytes e = put_bytes e.scn e.change.source e.change.key e.change.put

-- an end-of-period mark: the SCN of its window, and the SCN of the window before it, or 0
pub record IsMark (scn prev : ℕ) : Type 0 where
  pub bound : scn ≤ MAX_SCN
  pub order : prev < scn

abbrev pub mark_size : ℕ
mark_size = 17

abbrev pub mark_bytes : ℕ → ℕ → List ℕ
mark_bytes scn prev = 3 ∷ to_be_bytes w64 scn ++ to_be_bytes w64 prev

abbrev pub changes_bytes : ℕ → List Change → List ℕ
changes_bytes scn [] = []
changes_bytes scn (c ∷ cs) = event_bytes (record { scn = scn; change = c }) ++ changes_bytes scn cs

-- a window: its changes as events, and its mark
abbrev pub window_bytes : Span → List ℕ
window_bytes w = changes_bytes w.scn w.changes ++ mark_bytes w.scn w.prev

-- the bytes stand in these at a place, and next is the place after them
pub record StandsAt (bytes : List ℕ) (place : ℕ) (text : List ℕ) (next : ℕ) : Type 0 where
  pub after : next ≡ place + length text
  pub there : take (length text) (drop place bytes) ≡ text
