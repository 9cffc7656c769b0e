-- What a bootstrap makes of the relay's reply.
use Rattle.std.specs.Prelude.{◌≡◌, ℕ, ◌+◌, ◌-◌, ◌<◌, ◌≤◌, ◌⊎◌, true, false, List, [], ◌∷◌, ◌++◌, length, take, option_map, slice_get, Option, Some, IfSome, Result, Ok, Err}
use Rattle.bus_types.specs.Causes.{Rose}
use Rattle.bus_types.specs.Window.{Span, span_size}
use Rattle.bus_types.specs.Timeline.{end_from, total_size}
use Rattle.bus_types.specs.Relay.{is_place, stream}
use Rattle.partition_filter.specs.Selection.{test_of}
use Rattle.partition_filter.specs.Selection.Selection.{All}
use Rattle.event_codec.specs.declared.answer.Answer.{Answer}
use Rattle.event_codec.specs.declared.answer.Answer.TheVariants.{NotFound, Empty}
use Rattle.event_codec.specs.declared.reply.Shape.{Shape}
use Rattle.event_codec.specs.declared.reply.Shape.TheVariants.{Only}
use Rattle.event_codec.specs.Streams.{windows_bytes}
use Rattle.event_codec.specs.Reply.{reply_bytes}
use Rattle.bus_wire.specs.declared.ask.Ask.{Ask}
use Rattle.bus_wire.specs.declared.ask.Ask.TheVariants.{Stream}
use Rattle.bus_wire.specs.Lawful.{IsLawful, IsFaultAt, IsRun}
use Rattle.bus_types.specs.declared.limits.TheConstants.{MAX_SCN}
use Rattle.bus_stores.specs.Log.{LogState}
use Rattle.bootstrap_core.specs.declared.fault.TakeLog.{TakeLog}
use Rattle.bootstrap_core.specs.declared.fault.TakeLog.TheVariants.{BadReply, Gap, Full, LogFailed, Halted, NoMemory}
use Rattle.bootstrap_core.specs.Boot.{BootState}

-- the most bytes of a reply that a bootstrap asks for
abbrev pub most_bytes : ℕ
most_bytes = 16777216

-- what it asks of the relay: the windows behind its newest one, with all rows
abbrev pub log_ask : ℕ → Ask
log_ask high = Stream high All most_bytes

-- the bytes are windows behind the newest one of the log
pub record AreWindowsBehind (high : ℕ) (bytes : List ℕ) (ws : List Span) : Type 0 where
  pub spelled : bytes ≡ windows_bytes ws
  pub run : IsRun high MAX_SCN All ws

-- the place of the mark of the first of these windows
abbrev pub first_mark : List Span → ℕ
first_mark [] = 0
first_mark (w ∷ ws) = span_size w - 17

-- the first of these windows follows an SCN
abbrev pub IsChained : ℕ → List Span → Type 0
IsChained high [] = Unit {0}
IsChained high (w ∷ ws) = w.prev ≡ high

-- a log's windows fit into its room, where it tells both
abbrev pub FitsRoom : LogState → Type 0
FitsRoom log = IfSome log.windows (λ held. IfSome log.room (λ room. total_size held ≤ room.limit))

-- windows were appended to the log of a bootstrap, and found room, and nothing else changed but its count of faults
pub record Logged (ws : List Span) (old new : BootState) : Type 0 where
  pub floor : new.log.floor ≡ old.log.floor
  pub high : new.log.high ≡ end_from old.log.high ws
  pub windows : new.log.windows ≡ option_map (λ held. held ++ ws) old.log.windows
  pub room : new.log.room ≡ old.log.room
  pub fits : 0 < length ws → FitsRoom new.log
  pub keeper : new.keeper ≡ old.keeper
  pub mark : new.mark ≡ old.mark
  pub halted : new.halted ≡ old.halted

-- the first so many windows of a reply, or those there are, were appended; a reply without windows appends none
pub record Logs (scn count : ℕ) (bytes : List ℕ) (old new : BootState) : Type 0 where
  pub shape : Shape
  pub lawful : IsLawful (log_ask old.log.high) bytes shape
  pub windows : List Span
  pub are : ((end : ℕ) × (shape ≡ Only (Empty end)) × (windows ≡ [])) ⊎ (AreWindowsBehind old.log.high bytes windows × IsChained old.log.high windows)
  pub logged : Logged (take count windows) old new
  pub high : scn ≡ new.log.high

-- of the first so many windows of a reply some were appended, and then the next one found no room
pub record Fills (need count : ℕ) (bytes : List ℕ) (old new : BootState) : Type 0 where
  pub windows : List Span
  pub are : AreWindowsBehind old.log.high bytes windows
  pub chained : IsChained old.log.high windows
  pub done : ℕ
  pub some : done < length (take count windows)
  pub logged : Logged (take done windows) old new
  pub next : Span
  pub is_next : slice_get windows done ≡ Some next
  pub need_is : need ≡ span_size next
  pub full : new.log.full need ≡ true

-- there is no such window, or it finds room
abbrev pub FindsRoom : LogState → Option Span → Type 0
FindsRoom log next = IfSome next (λ w. log.full (span_size w) ≡ false)

-- of the first so many windows of a reply some were appended, and not the last of them; or none was. The next one found room
pub record LogsSome (count : ℕ) (bytes : List ℕ) (old new : BootState) : Type 0 where
  pub windows : List Span
  pub are : AreWindowsBehind old.log.high bytes windows
  pub done : ℕ
  pub chained : IsChained old.log.high windows
  pub some : 0 < done → done < length (take count windows)
  pub logged : Logged (take done windows) old new
  pub room : FindsRoom new.log (slice_get (take count windows) done)

-- the log failed, which no sound log does, and the bootstrap halted
pub record LogBreaks (old new : BootState) : Type 0 where
  pub halted : new.halted ≡ true
  pub rose : Rose old.log.faults new.log.faults
  pub sound : IfSome old.log.room (λ room. room.sound ≡ false)
  pub keeper : new.keeper ≡ old.keeper
  pub mark : new.mark ≡ old.mark

-- nothing changed
abbrev pub SameBoot : BootState → BootState → Type 0
SameBoot old new = new ≡ old

-- a call of `take_log`, by its answer
abbrev pub TakesLog : Result ℕ TakeLog → ℕ → List ℕ → BootState → BootState → Type 0
TakesLog (Ok scn) count bytes old new = Logs scn count bytes old new
TakesLog (Err (BadReply place)) count bytes old new =
    SameBoot old new × (IsFaultAt (log_ask old.log.high) bytes place
    ⊎ ((ws : List Span) × AreWindowsBehind old.log.high bytes ws × (IsChained old.log.high ws → ⊥) × (place ≡ first_mark ws)))
TakesLog (Err (Gap floor)) count bytes old new = SameBoot old new × IsLawful (log_ask old.log.high) bytes (Only (NotFound floor))
TakesLog (Err (Full need)) count bytes old new = Fills need count bytes old new
TakesLog (Err LogFailed) count bytes old new = ((ws : List Span) × AreWindowsBehind old.log.high bytes ws × IsChained old.log.high ws)
    × LogBreaks old new
TakesLog (Err Halted) count bytes old new = SameBoot old new
TakesLog (Err NoMemory) count bytes old new = LogsSome count bytes old new

-- ---- what a crash leaves

-- the windows that a call may append: the first so many of a reply whose windows follow the log's newest one, or none
abbrev pub AreBrought : ℕ → List ℕ → ℕ → List Span → Type 0
AreBrought count bytes high brought =
    (brought ≡ []) ⊎ ((ws : List Span) × AreWindowsBehind high bytes ws × IsChained high ws × (brought ≡ take count ws))

-- ---- a reply that is true

-- the bytes are what a relay of this timeline replies to who asks for all windows behind an SCN: for some floor and end that
-- are places of it
pub record IsRelayReply (ws : List Span) (high : ℕ) (bytes : List ℕ) : Type 0 where
  pub floor : ℕ
  pub end : ℕ
  pub floor_place : is_place floor ws ≡ true
  pub end_place : is_place end ws ≡ true
  pub is : bytes ≡ reply_bytes (stream ws floor end high (test_of All) most_bytes)

-- ---- the code's words

-- the mark of the first of these windows stands at this place and has this SCN before it
abbrev pub IsFirstMark : List Span → ℕ → ℕ → Type 0
IsFirstMark [] place prev = ⊥
IsFirstMark (w ∷ ws) place prev = (place + 17 ≡ span_size w) × (prev ≡ w.prev)

-- what an answer in place of windows makes
abbrev pub IsAnswered : Result ℕ TakeLog → ℕ → Answer → Type 0
IsAnswered (Ok scn) high answer = (scn ≡ high) × ((end : ℕ) × (answer ≡ Empty end))
IsAnswered (Err (BadReply place)) high answer = ⊥
IsAnswered (Err (Gap floor)) high answer = answer ≡ NotFound floor
IsAnswered (Err (Full need)) high answer = ⊥
IsAnswered (Err LogFailed) high answer = ⊥
IsAnswered (Err Halted) high answer = ⊥
IsAnswered (Err NoMemory) high answer = ⊥

-- a window was to be appended
abbrev pub LogsWindow : Result Unit TakeLog → Span → BootState → BootState → Type 0
LogsWindow (Ok u) w old new = Logged (w ∷ []) old new
LogsWindow (Err (BadReply place)) w old new = ⊥
LogsWindow (Err (Gap floor)) w old new = ⊥
LogsWindow (Err (Full need)) w old new = (need ≡ span_size w) × (new.log.full need ≡ true) × Logged [] old new
LogsWindow (Err LogFailed) w old new = LogBreaks old new
LogsWindow (Err Halted) w old new = ⊥
LogsWindow (Err NoMemory) w old new = FindsRoom new.log (Some w) × Logged [] old new

-- of windows some were appended, and then the next one found no room
pub record FillsAt (need : ℕ) (ws : List Span) (old new : BootState) : Type 0 where
  pub done : ℕ
  pub some : done < length ws
  pub logged : Logged (take done ws) old new
  pub next : Span
  pub is_next : slice_get ws done ≡ Some next
  pub need_is : need ≡ span_size next
  pub full : new.log.full need ≡ true

-- some were appended, and not the last one, and the next one found room
pub record StopsWithin (ws : List Span) (old new : BootState) : Type 0 where
  pub done : ℕ
  pub some : done < length ws
  pub logged : Logged (take done ws) old new
  pub room : FindsRoom new.log (slice_get ws done)

-- they were to be appended
abbrev pub LogsEach : {X : Type 0} → Result X TakeLog → List Span → BootState → BootState → Type 0
LogsEach (Ok x) ws old new = Logged ws old new
LogsEach (Err (BadReply place)) ws old new = ⊥
LogsEach (Err (Gap floor)) ws old new = ⊥
LogsEach (Err (Full need)) ws old new = FillsAt need ws old new
LogsEach (Err LogFailed) ws old new = LogBreaks old new
LogsEach (Err Halted) ws old new = ⊥
LogsEach (Err NoMemory) ws old new = StopsWithin ws old new
