-- For private functions alone: what the parts of a step do, before what it prints is written.
use Rattle.std.specs.Prelude.{◌≡◌, ℕ, ◌≤◌, false, List, take, length, Some, None, Result, Ok, Err, Vec}
use Rattle.std.specs.Global.{Global}
use Rattle.std.specs.List.{AllByRecursion}
use Rattle.bus_types.specs.Window.{Span}
use Rattle.bus_types.specs.Timeline.{end_of, end_from, windows_between}
use Rattle.bus_types.specs.Relay.{Relay, StandsFor}
use Rattle.partition_filter.specs.Selection.{test_of}
use Rattle.event_codec.specs.Forms.{shape_of}
use Rattle.event_codec.specs.ReplyViews.{Spells}
use Rattle.bus_wire.specs.declared.ask.Ask.{Ask}
use Rattle.bus_wire.specs.Lawful.{IsLawful}
use Rattle.event_codec.specs.Questions.{Reply}
use Rattle.bus_wire.specs.True.{Boot}
use Rattle.bus_stores.specs.Memory.{MemoryStore, last_mark}
use Rattle.client_switch.specs.Moves.{question}
use Rattle.client_switch.specs.Moves.Wish.{NoWish}
use Rattle.client_switch.specs.Client.{IsStored}
use Rattle.history_core.specs.declared.fault.StepFault.{StepFault}
use Rattle.history_core.specs.declared.fault.StepFault.TheVariants.{BadLine, WriteFault, NoMemory}
use Rattle.history_core.specs.Script.{Follower, shown, summed}
use Rattle.history_core.specs.Steps.{Step, most_commits, replied, after_reply, looked_at}
use Rattle.history_core.specs.Bus.{MemberState, Parts, follower, state_of, IsMember, IsBooted, IsSound, WasCalled}

-- ---- consumers

-- a keeper was read: all but its counts is as it was
pub record WasRead (old new : MemoryStore) : Type 0 where
  pub rows : new.rows ≡ old.rows
  pub marks : new.marks ≡ old.marks
  pub armed : new.armed ≡ old.armed
  pub fails : new.fails ≡ old.fails
  pub later : old.calls ≤ new.calls

-- a client was opened again over what its keeper holds
pub record IsReopened (old new : MemberState) : Type 0 where
  pub name : new.name ≡ old.name
  pub filter : new.client.filter ≡ old.client.filter
  pub wish : new.client.wish ≡ NoWish
  pub runs : new.client.halted ≡ false
  pub mark : IsStored (last_mark old.store.marks) new.client.mark
  pub read : WasRead old.store new.store
  pub shows : new.shows ≡ old.shows

-- a consumer became this follower, and is one of the source's still
pub record Becomes (ws : List Span) (next : Follower) (new : MemberState) : Type 0 where
  pub follows : follower new ≡ next
  pub member : IsMember ws new

-- bytes that were sent are this reply, a lawful one
pub record IsSent (ask : Ask) (bytes : List ℕ) (reply : Reply) : Type 0 where
  pub lawful : IsLawful ask bytes (shape_of reply)
  pub spells : Spells (shape_of reply) bytes reply

-- the reply to a consumer of these windows that asks a relay and a bootstrap for at most so many bytes
abbrev pub replied_to : List Span → Relay → Boot → ℕ → MemberState → Reply
replied_to ws r boot most m = replied ws r.floor r.tail boot (test_of m.client.filter) (question m.client.mark m.client.wish most)

-- a consumer asked, and took the reply
pub record Polls (ws : List Span) (r : Relay) (boot : Boot) (most : ℕ) (text : List ℕ) (old new : MemberState) : Type 0 where
  pub turn : after_reply (follower old) (replied_to ws r boot most old) ≡ (follower new, text)
  pub member : IsMember ws new

-- a consumer was shown
pub record Shows (ws : List Span) (old new : MemberState) (text : List ℕ) : Type 0 where
  pub printed : text ≡ shown ws (follower old) old.client.mark
  pub follows : follower new ≡ looked_at old.client.mark (follower old)
  pub member : IsMember ws new
  pub called : WasCalled old new

-- a consumer was summed
pub record Sums (ws : List Span) (old new : MemberState) (text : List ℕ) : Type 0 where
  pub printed : text ≡ summed ws (follower old) old.client.mark
  pub follows : follower new ≡ looked_at old.client.mark (follower old)
  pub member : IsMember ws new
  pub called : WasCalled old new

-- ---- lines

-- a bus at work, whether a line that isn't blank has come or not
pub record IsWorking (b : Parts) : Type 0 where
  pub few : length b.source ≤ most_commits
  pub relay : StandsFor b.source b.relay
  pub boot : IsBooted b.source b.boot
  pub members : AllByRecursion (IsMember b.source) b.members

-- what a line does, against the state and the text that are defined for it, before it is kept that a line has come
abbrev pub Acts : Result (Vec ℕ Global) StepFault → Step → Parts → Parts → Type 0
Acts (Ok text) defined old new = (defined ≡ Some (state_of new, text.items)) × IsWorking new
Acts (Err BadLine) defined old new = (defined ≡ None) × (new ≡ old)
Acts (Err (WriteFault count)) defined old new = ⊥
Acts (Err NoMemory) defined old new = Unit {0}

-- a whole line likewise, after which the bus is sound
abbrev pub Does : Result (Vec ℕ Global) StepFault → Step → Parts → Parts → Type 0
Does (Ok text) defined old new = (defined ≡ Some (state_of new, text.items)) × IsSound new
Does (Err BadLine) defined old new = (defined ≡ None) × (new ≡ old)
Does (Err (WriteFault count)) defined old new = ⊥
Does (Err NoMemory) defined old new = Unit {0}

-- windows that follow a relay's newest one were published: it stands for each timeline whose next windows they are
pub record Publishes (windows : List Span) (old new : Relay) : Type 0 where
  pub room : new.room ≡ old.room
  pub tail : new.tail ≡ end_from old.tail windows
  pub stands : (ws : List Span) → StandsFor ws old → windows ≡ take (length windows) (windows_between old.tail (end_of ws) ws) → StandsFor ws new
