-- Which replies are lawful for what is asked, and where a reply that isn't is at fault.
use Rattle.std.specs.Prelude.{◌≡◌, ℕ, ◌+◌, ◌<◌, ◌≤◌, ◌⊎◌, Bool, true, false, IsTrue, if◌then◌else◌, ◌&&◌, nat_lt, nat_le, List, ◌++◌, length}
use Rattle.std.specs.List.{AllByRecursion}
use Rattle.bus_types.specs.declared.change.Change.{Change}
use Rattle.bus_types.specs.declared.limits.TheConstants.{MAX_SCN, MAX_WINDOW, MAX_PAYLOAD}
use Rattle.bus_types.specs.declared.row.Cursor.{Cursor}
use Rattle.bus_types.specs.Window.{Span}
use Rattle.bus_types.specs.Timeline.{end_of}
use Rattle.bus_types.specs.Relay.{most_windows}
use Rattle.partition_filter.specs.Selection.{Selection, test_of}
use Rattle.partition_filter.specs.Selection.Selection.{All, Rules}
use Rattle.event_codec.specs.declared.answer.Answer.{Answer}
use Rattle.event_codec.specs.declared.answer.Answer.TheVariants.{NotFound, Empty, TooSmall, Behind, LogGone, StartDelta, StartSnapshot, Target}
use Rattle.event_codec.specs.declared.reply.Shape.{Shape}
use Rattle.event_codec.specs.declared.reply.Shape.TheVariants as shapes
use Rattle.event_codec.specs.Bytes.{changes_bytes}
use Rattle.event_codec.specs.Frames.{IsAnswer, answer_bytes}
use Rattle.event_codec.specs.Items.{Since, Open, open_of, Front, front_of}
use Rattle.event_codec.specs.Items.Front.{Unfinished, Refused, AnEvent, AMark}
use Rattle.event_codec.specs.Streams.{Come, after_windows, windows_bytes, Begins}
use Rattle.bus_wire.specs.declared.ask.Ask.{Ask}
use Rattle.bus_wire.specs.declared.ask.Ask.TheVariants.{Stream, Start, Scan, Target as WhereTo, Catchup, Delta}
use Rattle.bus_wire.specs.Wanted.{rows_wanted, changes_wanted, HoldsItems, ItemsStop}

-- ---- answers

-- in place of the windows after an SCN: the next one is evicted, none is there yet, or the limit is too small for it
abbrev pub stream_answers : ℕ → ℕ → Answer → Bool
stream_answers scn max (NotFound floor) = nat_lt scn floor
stream_answers scn max (Empty end) = nat_le end scn
stream_answers scn max (TooSmall need) = nat_lt max need && nat_le need MAX_WINDOW
stream_answers scn max (Behind tail) = false
stream_answers scn max (LogGone start) = false
stream_answers scn max (StartDelta start) = false
stream_answers scn max (StartSnapshot start) = false
stream_answers scn max (Target target) = false

-- where to start from an SCN: a bootstrap isn't further yet, or not so far where all is asked for afresh; or a delta begins
-- above the SCN; or a snapshot begins
abbrev pub start_answers : ℕ → Bool → Answer → Bool
start_answers since fresh (NotFound floor) = false
start_answers since fresh (Empty end) = false
start_answers since fresh (TooSmall need) = false
start_answers since fresh (Behind tail) = if fresh then nat_lt tail since else nat_le tail since
start_answers since fresh (LogGone start) = false
start_answers since fresh (StartDelta start) = if fresh then false else nat_lt since start
start_answers since fresh (StartSnapshot start) = true
start_answers since fresh (Target target) = false

-- in place of what a bootstrap holds from an SCN on: its log begins later, it isn't so far, or the limit is too small for what
-- is next, which has a greatest size
abbrev pub log_answers : ℕ → ℕ → ℕ → ℕ → Answer → Bool
log_answers from least max most (NotFound floor) = false
log_answers from least max most (Empty end) = false
log_answers from least max most (TooSmall need) = nat_lt max need && nat_le need most
log_answers from least max most (Behind tail) = nat_lt tail least
log_answers from least max most (LogGone start) = nat_lt from start
log_answers from least max most (StartDelta start) = false
log_answers from least max most (StartSnapshot start) = false
log_answers from least max most (Target target) = false

-- where a replay from an SCN goes to, not below what was asked: or the log begins later, or the bootstrap isn't so far
abbrev pub target_answers : ℕ → ℕ → Answer → Bool
target_answers from least (NotFound floor) = false
target_answers from least (Empty end) = false
target_answers from least (TooSmall need) = false
target_answers from least (Behind tail) = nat_lt tail least
target_answers from least (LogGone start) = nat_lt from start
target_answers from least (StartDelta start) = false
target_answers from least (StartSnapshot start) = false
target_answers from least (Target target) = nat_le least target && nat_le from target

-- the bytes of a chunk of one item, at most
abbrev pub most_chunk : ℕ
most_chunk = MAX_PAYLOAD + 33

-- the answers to what is asked
abbrev pub answers : Ask → Answer → Bool
answers (Stream scn filter max) answer = stream_answers scn max answer
answers (Start since fresh) answer = start_answers since fresh answer
answers (Scan start cursor filter max) answer = log_answers start start max most_chunk answer
answers (WhereTo start atleast) answer = target_answers start atleast answer
answers (Catchup at target filter max) answer = log_answers at target max MAX_WINDOW answer
answers (Delta since target cursor filter max) answer = log_answers since target max most_chunk answer

-- a lawful answer, whose number is in its range
pub record IsAnswerTo (ask : Ask) (answer : Answer) : Type 0 where
  pub within : IsAnswer answer
  pub lawful : IsTrue (answers ask answer)

-- ---- windows

-- where all rows are asked for, a window has a change: this one has so many
abbrev pub has_enough : Selection → ℕ → Bool
has_enough All count = nat_lt 0 count
has_enough (Rules rules) count = true

-- the filter accepts each change
abbrev pub AreAccepted : Selection → List Change → Type 0
AreAccepted filter changes = AllByRecursion (λ c. IsTrue (test_of filter c.source c.key)) changes

-- a window of a reply, up to the SCN top: a filter accepts its changes
pub record IsAskedFor (top : ℕ) (filter : Selection) (w : Span) : Type 0 where
  pub below : w.scn ≤ top
  pub accepted : AreAccepted filter w.changes
  pub enough : IsTrue (has_enough filter (length w.changes))

-- what the first window of a reply follows
abbrev pub after_floor : ℕ → Since
after_floor floor = record { floor = floor; started = false }

-- windows with which a reply can begin: they come one after the other from the floor
pub record AreAskedFor (floor top : ℕ) (filter : Selection) (ws : List Span) : Type 0 where
  pub come : Come (after_floor floor) ws
  pub each : AllByRecursion (IsAskedFor top filter) ws
  pub few : length ws ≤ most_windows

-- the windows of a reply: at least one
pub record IsRun (floor top : ℕ) (filter : Selection) (ws : List Span) : Type 0 where
  pub asked : AreAskedFor floor top filter ws
  pub some : 0 < length ws

-- ---- lawful replies

-- the bytes of windows, so many and up to the SCN last
pub record HoldsRun (floor top : ℕ) (filter : Selection) (bytes : List ℕ) (count last : ℕ) : Type 0 where
  pub windows : List Span
  pub spelled : bytes ≡ windows_bytes windows
  pub run : IsRun floor top filter windows
  pub counted : count ≡ length windows
  pub ends : last ≡ end_of windows

-- what a reply has where it isn't an answer: nothing else is lawful; windows above a floor and up to a top; rows from an SCN on,
-- after a cursor; or changes of an SCN, after a cursor
pub data Body : Type 0 where
  NoBody : Body
  WindowsOf : ℕ → ℕ → Selection → Body
  RowsOf : ℕ → Cursor → Selection → Body
  ChangesOf : ℕ → Cursor → Selection → Body

abbrev pub body_of : Ask → Body
body_of (Stream scn filter max) = WindowsOf scn MAX_SCN filter
body_of (Start since fresh) = NoBody
body_of (Scan start cursor filter max) = RowsOf start cursor filter
body_of (WhereTo start atleast) = NoBody
body_of (Catchup at target filter max) = WindowsOf at target filter
body_of (Delta since target cursor filter max) = ChangesOf target cursor filter

abbrev pub HoldsWindows : Body → List ℕ → ℕ → ℕ → Type 0
HoldsWindows NoBody bytes count last = ⊥
HoldsWindows (WindowsOf floor top filter) bytes count last = HoldsRun floor top filter bytes count last
HoldsWindows (RowsOf start cursor filter) bytes count last = ⊥
HoldsWindows (ChangesOf target cursor filter) bytes count last = ⊥

abbrev pub HoldsRows : Body → List ℕ → ℕ → ℕ → Bool → Type 0
HoldsRows NoBody bytes count scn more = ⊥
HoldsRows (WindowsOf floor top filter) bytes count scn more = ⊥
HoldsRows (RowsOf start cursor filter) bytes count scn more = HoldsItems (rows_wanted start cursor filter) bytes count scn more
HoldsRows (ChangesOf target cursor filter) bytes count scn more = ⊥

abbrev pub HoldsChanges : Body → List ℕ → ℕ → Bool → Type 0
HoldsChanges NoBody bytes count more = ⊥
HoldsChanges (WindowsOf floor top filter) bytes count more = ⊥
HoldsChanges (RowsOf start cursor filter) bytes count more = ⊥
HoldsChanges (ChangesOf target cursor filter) bytes count more = HoldsItems (changes_wanted target cursor filter) bytes count target more

-- the bytes are a lawful reply of that shape
abbrev pub IsLawful : Ask → List ℕ → Shape → Type 0
IsLawful ask bytes (shapes.Windows count last) = HoldsWindows (body_of ask) bytes count last
IsLawful ask bytes (shapes.Rows count scn more) = HoldsRows (body_of ask) bytes count scn more
IsLawful ask bytes (shapes.Changes count more) = HoldsChanges (body_of ask) bytes count more
IsLawful ask bytes (shapes.Only answer) = (bytes ≡ answer_bytes answer) × IsAnswerTo ask answer

-- ---- faults

-- whether what stands in front, behind the events of a window that has begun, is an item of such a reply
abbrev pub can_stand : ℕ → Selection → Open → Front → Bool
can_stand top filter begun Unfinished = false
can_stand top filter begun Refused = false
can_stand top filter begun (AnEvent scn c size) = nat_le scn top && test_of filter c.source c.key
can_stand top filter begun (AMark scn prev) = nat_le scn top && has_enough filter begun.count

-- bytes as windows with which a reply can begin, whole events with which the next one can begin, and the part behind them
pub record Reading (floor top : ℕ) (filter : Selection) (bytes : List ℕ) : Type 0 where
  pub windows : List Span
  pub scn : ℕ
  pub changes : List Change
  pub part : List ℕ
  pub parts : bytes ≡ windows_bytes windows ++ changes_bytes scn changes ++ part
  pub asked : AreAskedFor floor top filter windows
  pub begins : Begins (after_windows (after_floor floor) windows) scn changes
  pub below : scn ≤ top
  pub accepted : AreAccepted filter changes
  pub room : 0 < length changes → length windows < most_windows

-- at that place no more windows may come, or no item that can stand does; and the reply isn't whole there
pub record StopsAt (floor top : ℕ) (filter : Selection) (bytes : List ℕ) (place : ℕ) : Type 0 where
  pub read : Reading floor top filter bytes
  pub stops : (length read.windows ≡ most_windows)
      ⊎ (can_stand top filter (open_of read.scn read.changes)
      (front_of (after_windows (after_floor floor) read.windows) (open_of read.scn read.changes) read.part) ≡ false)
  pub unended : 0 < length read.windows → length read.changes ≡ 0 → 0 < length read.part
  pub there : place ≡ length (windows_bytes read.windows ++ changes_bytes read.scn read.changes)

-- a lawful answer stands in front, and bytes stand behind it, at that place
pub record StandsBehindAnswer (ask : Ask) (bytes : List ℕ) (place : ℕ) : Type 0 where
  pub answer : Answer
  pub rest : List ℕ
  pub lawful : IsAnswerTo ask answer
  pub parts : bytes ≡ answer_bytes answer ++ rest
  pub more : 0 < length rest
  pub there : place ≡ length (answer_bytes answer)

-- no lawful answer stands in front
abbrev pub HasNoAnswer : Ask → List ℕ → Type 0
HasNoAnswer ask bytes = (answer : Answer) (rest : List ℕ) → IsAnswerTo ask answer → bytes ≡ answer_bytes answer ++ rest → ⊥

-- the place where other bytes stop being a lawful reply
abbrev pub StopsIn : Body → List ℕ → ℕ → Type 0
StopsIn NoBody bytes place = place ≡ 0
StopsIn (WindowsOf floor top filter) bytes place = StopsAt floor top filter bytes place
StopsIn (RowsOf start cursor filter) bytes place = ItemsStop (rows_wanted start cursor filter) bytes place
StopsIn (ChangesOf target cursor filter) bytes place = ItemsStop (changes_wanted target cursor filter) bytes place

abbrev pub EndsAt : Ask → List ℕ → ℕ → Type 0
EndsAt ask bytes place = StopsIn (body_of ask) bytes place

-- the place of the first item that can't stand, or is missing
abbrev pub IsFaultAt : Ask → List ℕ → ℕ → Type 0
IsFaultAt ask bytes place = StandsBehindAnswer ask bytes place ⊎ (HasNoAnswer ask bytes × EndsAt ask bytes place)
