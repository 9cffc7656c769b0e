-- The item that stands at the front of bytes in a stream of windows, and when its head can't stand there.
use Rattle.std.specs.Prelude.{◌≡◌, ℕ, ◌+◌, ◌≤◌, Bool, if◌then◌else◌, ◌==◌, ◌||◌, ◌&&◌, nat_lt, nat_le, List, [], ◌∷◌, length, take, drop, Option, Some, None}
use Rattle.std.specs.Int.{w16, w32, w64, from_be_bytes}
use Rattle.bus_types.specs.declared.change.Key.TheVariants.{Long}
use Rattle.bus_types.specs.declared.change.Change.{Change}
use Rattle.bus_types.specs.declared.limits.TheConstants.{MAX_SCN, MAX_PAYLOAD, MAX_CHANGES, MAX_WINDOW}
use Rattle.bus_types.specs.Change.{changes_size}
use Rattle.event_codec.specs.declared.item.Follows.{Follows}
use Rattle.event_codec.specs.declared.item.Events.{Events}
use Rattle.event_codec.specs.declared.item.Item.{Item}
use Rattle.event_codec.specs.declared.item.Item.TheVariants as items

-- what the next window follows: the SCN of the mark before it, or the floor where no mark has come
pub record Since : Type 0 where
  pub floor : ℕ
  pub started : Bool

-- the window that has begun: the SCN of its first event, where it has one, its events and their bytes
pub record Open : Type 0 where
  pub scn : Option ℕ
  pub count : ℕ
  pub size : ℕ

-- the window of this SCN that has begun with these changes
abbrev pub open_of : ℕ → List Change → Open
open_of scn [] = record { scn = None; count = 0; size = 0 }
open_of scn (c ∷ cs) = record { scn = Some scn; count = length (c ∷ cs); size = changes_size (c ∷ cs) }

-- the first event of a window, or its mark where it has none, is above what it follows; each later item has the SCN of the first event
abbrev pub has_right_scn : Since → Option ℕ → ℕ → Bool
has_right_scn s None scn = nat_lt s.floor scn
has_right_scn s (Some first) scn = scn == first

-- the first mark's prev is at most the floor, and each later one's is the SCN of the mark before it
abbrev pub has_right_prev : Since → ℕ → Bool
has_right_prev s prev = if s.started then prev == s.floor else nat_le prev s.floor

-- the numbers of an event's head can stand: its SCN and its length, that of a delete being 0, are in their ranges, the SCN
-- is the right one, and the window has room for it and for its mark
abbrev pub event_stands : Since → Open → ℕ → ℕ → ℕ → Bool
event_stands s o kind scn len =
    nat_lt 0 scn && nat_le scn MAX_SCN && nat_le len MAX_PAYLOAD && (kind == 1 || len == 0)
    && has_right_scn s o.scn scn && nat_lt o.count MAX_CHANGES && nat_le (o.size + 23 + len + 17) MAX_WINDOW

-- those of a mark
abbrev pub mark_stands : Since → Open → ℕ → ℕ → Bool
mark_stands s o scn prev = nat_le scn MAX_SCN && nat_lt prev scn && has_right_scn s o.scn scn && has_right_prev s prev

-- what stands at the front: an item that isn't whole yet, a complete head that can't stand, or an item and its bytes
pub data Front : Type 0 where
  Unfinished : Front
  Refused : Front
  AnEvent : ℕ → Change → ℕ → Front
  AMark : ℕ → ℕ → Front

-- behind the kind byte of an event: source, SCN, key, length and payload
abbrev pub event_front : Since → Open → ℕ → List ℕ → Front
event_front s o kind rest =
    let source = from_be_bytes w16 (take 2 rest) in
    let scn = from_be_bytes w64 (take 8 (drop 2 rest)) in
    let key = from_be_bytes w64 (take 8 (drop 10 rest)) in
    let len = from_be_bytes w32 (take 4 (drop 18 rest)) in
    let payload = take len (drop 22 rest) in
    if nat_lt (length rest) 22 then Unfinished
    else if event_stands s o kind scn len then
    (if nat_lt (length rest) (22 + len) then Unfinished
    else AnEvent scn (record { source = source; key = Long key; put = if kind == 1 then Some payload else None }) (23 + len))
    else Refused

-- behind the kind byte of a mark: the SCN, and the SCN before it
abbrev pub mark_front : Since → Open → List ℕ → Front
mark_front s o rest =
    let scn = from_be_bytes w64 (take 8 rest) in
    let prev = from_be_bytes w64 (take 8 (drop 8 rest)) in
    if nat_lt (length rest) 16 then Unfinished else if mark_stands s o scn prev then AMark scn prev else Refused

unfoldable pub front_of : Since → Open → List ℕ → Front
front_of s o [] = Unfinished
front_of s o (kind ∷ rest) =
    if kind == 3 then mark_front s o rest
    else if kind == 1 || kind == 2 then event_front s o kind rest
    else Refused

-- ---- the code's words

abbrev pub since_of : Follows → Since
since_of f = record { floor = f.floor; started = f.started }

abbrev pub open_in : Events → Open
open_in e = record { scn = e.scn; count = e.count; size = e.size }

-- the front is of that kind
abbrev pub Shows : Item → Front → Type 0
Shows items.Unfinished front = front ≡ Unfinished
Shows items.Refused front = front ≡ Refused
Shows (items.Event scn source key size) front = (put : Option (List ℕ))
    × (front ≡ AnEvent scn (record { source = source; key = Long key; put = put }) size)
Shows (items.Mark scn prev) front = front ≡ AMark scn prev

-- the window has room for an event with so long a payload, and for its mark
abbrev pub has_room : Open → ℕ → Bool
has_room o len = nat_lt o.count MAX_CHANGES && nat_le (o.size + 23 + len + 17) MAX_WINDOW

-- the SCN and the length of an event are in their ranges
abbrev pub is_in_range : ℕ → ℕ → ℕ → Bool
is_in_range kind scn len = nat_lt 0 scn && nat_le scn MAX_SCN && nat_le len MAX_PAYLOAD && (kind == 1 || len == 0)

-- the source, the SCN, the key, the length and the bytes from the payload on, of an event behind its kind
pub record IsEventNumbers (bytes : List ℕ) (from number id size : ℕ) (behind : List ℕ) : Type 0 where
  pub long : 22 ≤ length bytes
  pub source : from ≡ from_be_bytes w16 (take 2 bytes)
  pub scn : number ≡ from_be_bytes w64 (take 8 (drop 2 bytes))
  pub key : id ≡ from_be_bytes w64 (take 8 (drop 10 bytes))
  pub len : size ≡ from_be_bytes w32 (take 4 (drop 18 bytes))
  pub payload : length behind + 22 ≡ length bytes

-- the SCN and the SCN before it, of a mark behind its kind
pub record IsMarkNumbers (bytes : List ℕ) (number before : ℕ) : Type 0 where
  pub long : 16 ≤ length bytes
  pub scn : number ≡ from_be_bytes w64 (take 8 bytes)
  pub prev : before ≡ from_be_bytes w64 (take 8 (drop 8 bytes))
