-- What a relay answers to a consumer that asks for the windows after an SCN.
use Rattle.std.specs.Prelude.{◌≡◌, ℕ, ◌+◌, ◌-◌, ◌<◌, ◌≤◌, Bool, true, if◌then◌else◌, ◌==◌, ◌&&◌, nat_lt, nat_le, List, [], ◌∷◌, ◌++◌, length, take, drop, map}
use Rattle.std.specs.List.{list_any}
use Rattle.bus_types.specs.Change.{Test}
use Rattle.bus_types.specs.Window.{Span, span_size}
use Rattle.bus_types.specs.Timeline.{IsTimeline, end_from, windows_between, total_size}
use Rattle.bus_types.specs.Cut.{cuts}

-- the answer: the SCN of the newest evicted window, that of the newest published one, the size that is needed, or the
-- cut windows
pub data Served : Type 0 where
  NotFound : ℕ → Served
  Empty : ℕ → Served
  TooSmall : ℕ → Served
  Windows : List Span → Served

-- the longest run of at most count windows from the first on whose sizes sum to at most max
abbrev pub longest_run : ℕ → ℕ → List Span → List Span
longest_run count max [] = []
longest_run count max (w ∷ ws) = if nat_lt 0 count && nat_le (span_size w) max then w ∷ longest_run (count - 1) (max - span_size w) ws else []

-- said without the recursion: the windows from the first on that fit, and one more would be too many or too large
pub record IsLongestRun (count max : ℕ) (ws run : List Span) : Type 0 where
  pub front : run ≡ take (length run) ws
  pub few : length run ≤ count
  pub fits : total_size run ≤ max
  pub longest : length run < length ws → length run < count → max < total_size (take (length run + 1) ws)

-- the most windows that a reply has
abbrev pub most_windows : ℕ
most_windows = 32

-- of the windows after the SCN asked, of which there is one: what fits, or the size that the first one needs
abbrev pub fitting : ℕ → List Span → Served
fitting max [] = Windows []
fitting max (w ∷ ws) = if nat_lt max (span_size w) then TooSmall (span_size w) else Windows (longest_run most_windows max (w ∷ ws))

-- what a relay answers that evicted the windows up to floor and published those up to end, asked for the windows after
-- scn that a test accepts, in at most max bytes
abbrev pub stream : List Span → ℕ → ℕ → ℕ → Test → ℕ → Served
stream windows floor end scn test max =
    if nat_lt scn floor then NotFound floor
    else if nat_le end scn then Empty end
    else fitting max (cuts test (windows_between scn end windows))

-- ---- the circular buffer

-- the most that a relay holds: bytes of windows in full, and windows
pub record Room : Type 0 where
  pub bytes : ℕ
  pub windows : ℕ

-- a relay has room for the largest window at least, and for 256 MiB and 65,536 windows at most
pub record IsRoom (room : Room) : Type 0 where
  pub bytes : (1048576 ≤ room.bytes) × (room.bytes ≤ 268435456)
  pub windows : (1 ≤ room.windows) × (room.windows ≤ 65536)

abbrev pub sizes : List Span → List ℕ
sizes ws = map span_size ws

abbrev pub sum_of : List ℕ → ℕ
sum_of [] = 0
sum_of (x ∷ xs) = x + sum_of xs

-- a relay has room for windows of these sizes
abbrev pub has_room : Room → List ℕ → Bool
has_room room xs = nat_le (length xs) room.windows && nat_le (sum_of xs) room.bytes

-- 0 and the SCNs of the windows
abbrev pub places : List Span → List ℕ
places ws = 0 ∷ map (λ w. w.scn) ws

abbrev pub is_place : ℕ → List Span → Bool
is_place n ws = list_any (λ m. m == n) (places ws)

-- the SCN of the newest window that a relay has evicted, or 0, where it published those up to end: the least place behind
-- which it has room for the windows up to end
pub record IsFloor (room : Room) (ws : List Span) (end floor : ℕ) : Type 0 where
  pub place : is_place floor ws ≡ true
  pub roomy : has_room room (sizes (windows_between floor end ws)) ≡ true
  pub least : (n : ℕ) → is_place n ws ≡ true → has_room room (sizes (windows_between n end ws)) ≡ true → floor ≤ n

-- the first of these numbers behind which there is room for the windows up to end, or end
abbrev pub first_roomy : Room → List Span → ℕ → List ℕ → ℕ
first_roomy room ws end [] = end
first_roomy room ws end (n ∷ ns) = if has_room room (sizes (windows_between n end ws)) then n else first_roomy room ws end ns

-- the floor as a function: places rise in a timeline, so the first one is the least
unfoldable pub floor_of : Room → List Span → ℕ → ℕ
floor_of room ws end = first_roomy room ws end (places ws)

-- the least number of windows to evict from the front of windows of these sizes, so that there is room for the rest
unfoldable pub surplus : Room → List ℕ → ℕ
surplus room [] = 0
surplus room (x ∷ xs) = if has_room room (x ∷ xs) then 0 else surplus room xs + 1

-- how many of the windows of these sizes are evicted after the first so many were published
abbrev pub evicted : Room → List ℕ → ℕ → ℕ
evicted room xs count = surplus room (take count xs)

-- a relay: its room, the SCN of the newest window that it evicted, or 0, that of the newest one that it published, or 0, and
-- the windows that it keeps
pub record Relay : Type 0 where
  pub room : Room
  pub floor : ℕ
  pub tail : ℕ
  pub kept : List Span

abbrev pub new_relay : Room → Relay
new_relay room = record { room = room; floor = 0; tail = 0; kept = [] }

-- it evicts the fewest oldest windows that make a new one fit
abbrev pub published : Relay → Span → Relay
published r w =
    let all = r.kept ++ w ∷ [] in
    let gone = surplus r.room (sizes all) in
    record r { floor = end_from r.floor (take gone all); tail = w.scn; kept = drop gone all }

-- what it answers
abbrev pub answer_of : Relay → ℕ → Test → ℕ → Served
answer_of r scn test max = stream r.kept r.floor r.tail scn test max

-- a relay that published the windows of a timeline up to one of its places, and no others
pub record StandsFor (ws : List Span) (r : Relay) : Type 0 where
  pub timeline : IsTimeline ws
  pub tail : is_place r.tail ws ≡ true
  pub floor : r.floor ≡ floor_of r.room ws r.tail
  pub kept : r.kept ≡ windows_between r.floor r.tail ws
