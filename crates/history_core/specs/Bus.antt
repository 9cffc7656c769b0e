-- The bus as it is kept, against the state of a script.
use Rattle.std.specs.Prelude.{◌≡◌, ℕ, ◌<◌, ◌≤◌, Bool, true, false, List, [], length, map, take, slice_get, Option, Some, None, Result, Ok, Err}
use Rattle.std.specs.List.{AllByRecursion}
use Rattle.std.specs.Io.KnownBytes.{Appends}
use Rattle.bus_types.specs.Causes.{WasCounted}
use Rattle.bus_types.specs.Window.{Span}
use Rattle.bus_types.specs.Relay.{Relay, StandsFor, is_place}
use Rattle.partition_filter.specs.Selection.{test_of}
use Rattle.checkpoint.specs.declared.mark.Mark.{Mark}
use Rattle.checkpoint.specs.declared.mark.Mark.TheVariants.{Online, Delta, Snapshot, Scanned, Catchup}
use Rattle.bus_stores.specs.Memory.{MemoryStore, last_mark, told_by}
use Rattle.bus_stores.specs.MemoryLog.{MemoryWindows, log_of}
use Rattle.bus_wire.specs.True.{Boot}
use Rattle.bootstrap_core.specs.Boot.{BootParts, told, numbers, Stands}
use Rattle.client_switch.specs.Moves.{IsWished}
use Rattle.client_switch.specs.Good.{Good}
use Rattle.client_switch.specs.Client.{Held, IsStored}
use Rattle.trace_script.specs.declared.line.Line.{Line}
use Rattle.trace_script.specs.declared.line.Line.TheVariants.{Show, Sum}
use Rattle.history_core.specs.declared.fault.StepFault.{StepFault}
use Rattle.history_core.specs.declared.fault.StepFault.TheVariants.{BadLine, WriteFault, NoMemory}
use Rattle.history_core.specs.Script.{Follower, State}
use Rattle.history_core.specs.Steps.{Step, place_of, most_commits}

-- ---- what a bus is to a contract

-- a consumer as a bus keeps it: its name, its client, its keeper, and how often its rows were shown
pub record MemberState : Type 0 where
  pub name : List ℕ
  pub client : Held
  pub store : MemoryStore
  pub shows : ℕ

-- whether a line that isn't blank has come, the windows of the source, the relay, the bootstrap over a log and a keeper in
-- memory, and the consumers in the order in which they were declared
pub record Parts : Type 0 where
  pub begun : Bool
  pub source : List Span
  pub relay : Relay
  pub boot : BootParts MemoryWindows MemoryStore
  pub members : List MemberState

-- a consumer without its rows
abbrev pub follower : MemberState → Follower
follower m = record {
  name = m.name;
  filter = m.client.filter;
  mark = m.client.mark;
  wish = m.client.wish;
  armed = m.store.armed;
  marks = m.store.marks;
  shows = m.shows;
}

abbrev pub followers : List MemberState → List Follower
followers ms = map follower ms

-- the numbers of a bootstrap in memory
abbrev pub boot_numbers : BootParts MemoryWindows MemoryStore → Boot
boot_numbers b = numbers (log_of b.log) b.mark

-- the state of the script whose bus it is
abbrev pub state_of : Parts → State
state_of b = record {
  begun = b.begun;
  windows = b.source;
  room = b.relay.room;
  end = b.relay.tail;
  boot = boot_numbers b.boot;
  consumers = followers b.members;
}

-- ---- when a bus is sound

-- a replay goes to a place of the timeline
abbrev pub IsHeaded : List Span → Mark → Type 0
IsHeaded ws (Online scn) = Unit {0}
IsHeaded ws (Delta since target cursor) = Unit {0}
IsHeaded ws (Snapshot since start top cursor) = Unit {0}
IsHeaded ws (Scanned since start top) = Unit {0}
IsHeaded ws (Catchup since start target at) = is_place target ws ≡ true

-- a consumer's client runs, and its wish is one that comes up at its mark; its keeper fails only at a stop that is
-- armed, holds the client's mark, or none where no commit was
-- made, and rows that are good for it, and was called at least as often as its rows were shown
pub record IsMember (ws : List Span) (m : MemberState) : Type 0 where
  pub runs : m.client.halted ≡ false
  pub sound : m.store.fails ≡ []
  pub stored : IsStored (last_mark m.store.marks) m.client.mark
  pub good : Good ws (test_of m.client.filter) m.client.mark m.store.rows
  pub shown : m.shows ≤ m.store.calls
  pub wished : IsWished m.client.mark m.client.wish
  pub headed : IsHeaded ws m.client.mark

-- the bootstrap stands for the source, has met no fault, and its log, which has room for anything and begins at its base, and its
-- keeper fail at no call
pub record IsBooted (ws : List Span) (b : BootParts MemoryWindows MemoryStore) : Type 0 where
  pub stands : Stands ws (told log_of told_by b)
  pub runs : b.halted ≡ false
  pub log_sound : b.log.fails ≡ []
  pub roomy : b.log.limit ≡ 18446744073709551615
  pub begins : b.log.floor ≡ b.mark.base
  pub keeper_sound : b.keeper.fails ≡ []
  pub unarmed : b.keeper.armed ≡ None

-- a bus between two lines: its relay keeps the source's windows behind its floor, up to its end, its bootstrap stands for
-- the source, and its consumers follow it. Where no line has come that isn't blank, nothing was committed or declared
pub record IsSound (b : Parts) : Type 0 where
  pub few : length b.source ≤ most_commits
  pub relay : StandsFor b.source b.relay
  pub boot : IsBooted b.source b.boot
  pub members : AllByRecursion (IsMember b.source) b.members
  pub untouched : b.begun ≡ false → (b.source ≡ []) × (b.members ≡ [])

-- ---- what a line does to it

-- a line was taken, and what it prints was written: the state is the one that is defined
pub record TookLine (defined : Step) (new : Parts) (written written' : Option (List ℕ)) : Type 0 where
  pub text : List ℕ
  pub is : defined ≡ Some (state_of new, text)
  pub sound : IsSound new
  pub wrote : Appends written written' text

-- of the text of a line only a front of this length was written, which isn't the whole text
pub record BrokeOff (defined : Step) (count : ℕ) (written written' : Option (List ℕ)) : Type 0 where
  pub next : State
  pub text : List ℕ
  pub is : defined ≡ Some (next, text)
  pub short : count < length text
  pub wrote : Appends written written' (take count text)

-- a step, by its answer: a bad line is one that nothing is defined for, and changes nothing; where memory ran out nothing was
-- written. After a fault of writing and after want of memory the bus isn't used again
abbrev pub Steps : Result Unit StepFault → Step → Parts → Parts → Option (List ℕ) → Option (List ℕ) → Type 0
Steps (Ok done) defined old new written written' = TookLine defined new written written'
Steps (Err BadLine) defined old new written written' = (defined ≡ None) × (new ≡ old) × (written' ≡ written)
Steps (Err (WriteFault count)) defined old new written written' = BrokeOff defined count written written'
Steps (Err NoMemory) defined old new written written' = written' ≡ written

-- where a step answers `WriteFault`
abbrev pub OnWriteFault : Result Unit StepFault → Type 0 → Type 0
OnWriteFault (Ok done) P = Unit {0}
OnWriteFault (Err BadLine) P = Unit {0}
OnWriteFault (Err (WriteFault count)) P = P
OnWriteFault (Err NoMemory) P = Unit {0}

-- ---- calls of keepers

abbrev pub OnOnline : Mark → Type 0 → Type 0
OnOnline (Online scn) P = P
OnOnline (Delta since target cursor) P = Unit {0}
OnOnline (Snapshot since start top cursor) P = Unit {0}
OnOnline (Scanned since start top) P = Unit {0}
OnOnline (Catchup since start target at) P = Unit {0}

-- the keeper of a consumer that is online was called
abbrev pub WasCalled : MemberState → MemberState → Type 0
WasCalled m n = OnOnline m.client.mark (WasCounted m.store.calls n.store.calls)

-- the keeper of the consumer of this name was called
abbrev pub CallsAt : List ℕ → Parts → Parts → Type 0
CallsAt name old new = (i : ℕ) (m n : MemberState) → place_of name (followers old.members) ≡ Some i
    → slice_get old.members i ≡ Some m → slice_get new.members i ≡ Some n → WasCalled m n

-- a line that shows or sums a consumer's rows calls its keeper
abbrev pub Calls : Line → Parts → Parts → Type 0
Calls (Show name) old new = CallsAt name old new
Calls (Sum name) old new = CallsAt name old new
Calls line old new = Unit {0}
