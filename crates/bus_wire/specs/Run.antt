-- How far the windows of a reply are read, as the code keeps it.
use Rattle.std.specs.Prelude.{◌≡◌, ℕ, ◌<◌, ◌⊎◌, Bool, false, ◌&&◌, ◌==◌, nat_lt, List, ◌++◌, length, slice_index, take, drop, ◌^◌}
use Rattle.bus_types.specs.Relay.{most_windows}
use Rattle.partition_filter.specs.Selection.{Selection}
use Rattle.event_codec.specs.declared.answer.Answer.{Answer}
use Rattle.event_codec.specs.Bytes.{changes_bytes}
use Rattle.event_codec.specs.Frames.{answer_bytes}
use Rattle.event_codec.specs.Items.{Since, Open, open_of, Front, front_of, since_of, open_in}
use Rattle.event_codec.specs.Streams.{after_windows, windows_bytes}
use Rattle.bus_wire.specs.declared.run.Run.{Run}
use Rattle.bus_wire.specs.declared.run.Windows.{Windows}
use Rattle.bus_wire.specs.declared.ask.Ask.{Ask}
use Rattle.bus_wire.specs.Lawful.{after_floor, Reading, can_stand, IsAnswerTo}

-- each element is a byte
abbrev pub IsBytes : List ℕ → Type 0
IsBytes bytes = (i : ℕ) → slice_index bytes i < 256

-- bytes were read so far that the next window follows since, events of it have come, and so many windows stand in front of
-- the place with these events
pub record Reached (floor top : ℕ) (filter : Selection) (bytes : List ℕ) (since : Since) (begun : Open) (count place : ℕ) : Type 0 where
  pub read : Reading floor top filter bytes
  pub follows : since ≡ after_windows (after_floor floor) read.windows
  pub events : begun ≡ open_of read.scn read.changes
  pub counted : count ≡ length read.windows
  pub there : place ≡ length (windows_bytes read.windows ++ changes_bytes read.scn read.changes)

-- ---- the code's words

-- the bytes of a reply were read so far
pub record IsReached (check : Windows) (run : Run) : Type 0 where
  pub bytes : IsBytes check.bytes.now
  pub fits : length check.bytes.now < 2 ^ 64
  pub reached : Reached check.floor check.top check.filter.now check.bytes.now (since_of run.follows) (open_in run.events) run.count run.place

-- what stands at the place
abbrev pub front_at : Windows → Run → Front
front_at check run = front_of (since_of run.follows) (open_in run.events) (drop run.place check.bytes.now)

-- no more windows may come, or nothing that can stand does
abbrev pub Halts : Windows → Run → Type 0
Halts check run = (run.count ≡ most_windows) ⊎ (can_stand check.top check.filter.now (open_in run.events) (front_at check run) ≡ false)

-- one more item was read
abbrev pub Goes : Windows → Run → Run → Type 0
Goes check old new = IsReached check new × (old.place < new.place)

-- no more was read, since no more may be
abbrev pub Stays : Windows → Run → Run → Type 0
Stays check old new = Halts check old × (new ≡ old)

-- the reply is whole: a window stands in front, and nothing of another one is there
abbrev pub is_whole : Windows → Run → Bool
is_whole check run = nat_lt 0 run.count && run.events.count == 0 && run.place == length check.bytes.now

-- bytes begin with a lawful answer
pub record BeginsWith (ask : Ask) (answer : Answer) (bytes : List ℕ) : Type 0 where
  pub lawful : IsAnswerTo ask answer
  pub front : take 9 bytes ≡ answer_bytes answer
