-- How far the rows or changes of a reply are read, as the code keeps it.
use Rattle.std.specs.Prelude.{◌≡◌, ℕ, ◌<◌, ◌≤◌, true, false, List, ◌++◌, length, Some}
use Rattle.bus_types.specs.declared.limits.TheConstants.{MAX_SCN}
use Rattle.event_codec.specs.declared.close.Close.{Close}
use Rattle.event_codec.specs.Frames.{closing_bytes}
use Rattle.event_codec.specs.Parsing.{event_in_front, close_of, closing_in_front}
use Rattle.bus_wire.specs.declared.items.Items.{Items}
use Rattle.bus_wire.specs.declared.items.Walk.{Walk}
use Rattle.bus_wire.specs.Wanted.{Wanted, wanted_after, can_end, ItemsRead, goes_on}

abbrev pub wanted_of : Items → Wanted
wanted_of i = record { deletes = i.deletes; least = i.least; most = i.most; cursor = i.cursor; filter = i.filter.now }

-- the bytes of a reply were read so far
pub record IsWalked (w : Wanted) (bytes : List ℕ) (walk : Walk) : Type 0 where
  pub read : ItemsRead w bytes
  pub wanted : wanted_of walk.items ≡ wanted_after w read.scn read.changes
  pub counted : walk.count ≡ length read.changes
  pub left : walk.rest.now ≡ read.part

-- no item that may come stands in front
abbrev pub Stays : Walk → Type 0
Stays walk = goes_on (wanted_of walk.items) walk.count (event_in_front walk.rest.now) ≡ false

-- one more item was read
abbrev pub Walks : Wanted → List ℕ → Walk → Walk → Type 0
Walks w bytes old new = IsWalked w bytes new × (length new.rest.now < length old.rest.now)

-- a closing frame that may come stands in front
pub record IsClosed (walk : Walk) (close : Close) (behind : List ℕ) : Type 0 where
  pub there : closing_in_front walk.rest.now ≡ Some (close_of close, behind)
  pub parts : walk.rest.now ≡ closing_bytes (close_of close) ++ behind
  pub can : can_end (wanted_of walk.items) walk.count (close_of close) ≡ true
  pub scn : close.scn ≤ MAX_SCN
