-- What a disk in memory is to a contract.
use Rattle.std.specs.Prelude.{◌≡◌, ℕ, ◌+◌, ◌-◌, ◌≤◌, Bool, true, false, ◌||◌, ◌==◌, nat_lt, if◌then◌else◌, List, [], ◌∷◌, ◌++◌, length, get_or, map, take, drop, Some, Result, Ok, Err}
use Rattle.std.specs.List.{list_any, range_with_len}
use Rattle.bus_types.specs.declared.fault.Failed.{Failed}
use Rattle.log_disk.specs.declared.memory.Call.{Call}
use Rattle.log_disk.specs.declared.memory.Call.TheVariants.{Write, Cut, Sync}
use Rattle.log_disk.specs.declared.memory.Pick.{Pick}
use Rattle.log_disk.specs.declared.memory.Pick.TheVariants as picks
use Rattle.log_disk.specs.declared.memory.Range.{Range}
use Rattle.bus_types.specs.Counting.{next_count}
use Rattle.log_disk.specs.Disk.{DiskState, Clock}
use Rattle.log_disk.specs.Pending.{MayLeave, Content, lasting, Step, after_all, is_written}
use Rattle.log_disk.specs.Pending.Step.{Wrote, CutTo, Synced}

-- its bytes when it was made, the calls since then that changed something, how many bytes and calls it has room for, the
-- calls that are to fail, the number of the next call, and how often it failed
pub record MemoryState : Type 0 where
  pub start : List ℕ
  pub steps : List Step
  pub room : ℕ
  pub calls : ℕ
  pub fails : List ℕ
  pub next : ℕ
  pub faults : ℕ

-- a disk that holds these bytes, and has room for so many bytes and calls more
abbrev pub new_disk : List ℕ → ℕ → ℕ → List ℕ → MemoryState
new_disk bytes room calls fails = record { start = bytes; steps = []; room = room; calls = calls; fails = fails; next = 0; faults = 0 }

-- its content
abbrev pub content : MemoryState → Content
content s = after_all s.steps (lasting s.start)

-- a crash since a moment left what was pending at it or at a later one
abbrev pub LeftSince : List ℕ → List Step → ℕ → List ℕ → Type 0
LeftSince start steps t bytes = (n : ℕ) × (t ≤ n) × (n ≤ length steps) × MayLeave (after_all (take n steps) (lasting start)).pending bytes

-- a moment is how many calls have changed something
abbrev pub clock_of : List ℕ → List Step → Clock
clock_of start steps = record { moment = length steps; left_since = LeftSince start steps }

abbrev pub told_disk : List ℕ → List Step → ℕ → DiskState
told_disk start steps faults = record { seen = Some (after_all steps (lasting start)).bytes; clock = clock_of start steps; faults = faults }

-- it tells everything
abbrev pub disk_of : MemoryState → DiskState
disk_of s = told_disk s.start s.steps s.faults

-- ---- what a call does

-- a call that writes so many bytes finds no room for them, or none for itself
abbrev pub exceeds : ℕ → MemoryState → Bool
exceeds size s = nat_lt s.room size || s.calls == 0

-- the next call is to fail
abbrev pub is_listed : MemoryState → Bool
is_listed s = list_any (λ call. call == s.next) s.fails

-- a call failed
abbrev pub failed : MemoryState → MemoryState
failed s = record s { faults = s.faults + 1 }

-- a call was counted
abbrev pub counted : MemoryState → MemoryState
counted s = record s { calls = s.calls - 1; next = next_count s.next }

-- so many bytes of the room were used
abbrev pub used : ℕ → MemoryState → MemoryState
used size s = record s { room = s.room - size }

-- a call changed something
abbrev pub stepped : Step → MemoryState → MemoryState
stepped step s = record s { steps = s.steps ++ step ∷ [] }

-- whether a call that writes so many bytes fails
abbrev pub is_refused : ℕ → MemoryState → Bool
is_refused size s = exceeds size s || is_listed s

-- a call that was counted fails where it was listed
abbrev pub failed_if : Bool → MemoryState → MemoryState
failed_if listed s = if listed then failed s else s

-- what a call leaves that changes nothing
abbrev pub after_asking : MemoryState → MemoryState
after_asking s = if exceeds 0 s then failed s else failed_if (is_listed s) (counted s)

abbrev pub after_write : ℕ → List ℕ → MemoryState → MemoryState
after_write place text s =
    if exceeds (length text) s then failed s
    else failed_if (is_listed s) (stepped (Wrote place text) (used (length text) (counted s)))

abbrev pub after_cut : ℕ → MemoryState → MemoryState
after_cut size s = if exceeds 0 s then failed s else failed_if (is_listed s) (stepped (CutTo size) (counted s))

abbrev pub after_sync : MemoryState → MemoryState
after_sync s =
    if exceeds 0 s then failed s
    else (if is_listed s then failed (counted s) else stepped Synced (counted s))

-- it fails exactly where it is refused
abbrev pub FailsWhere : {X : Type 0} → Bool → Result X Failed → Type 0
FailsWhere refused (Ok x) = refused ≡ false
FailsWhere refused (Err e) = refused ≡ true

-- ---- a crash

-- a byte, or this one in its place where it was written
abbrev pub filled_at : List Range → ℕ → List ℕ → ℕ → ℕ
filled_at ranges byte bytes i = if is_written ranges i then byte else get_or bytes i 0

-- the bytes, each that was written replaced by this one
abbrev pub filled : List Range → ℕ → List ℕ → List ℕ
filled ranges byte bytes = map (filled_at ranges byte bytes) (range_with_len 0 (length bytes))

-- what is left of bytes, of which the last sync left those
abbrev pub left_of : Pick → List ℕ → List ℕ → List Range → List ℕ
left_of picks.Synced bytes synced ranges = synced
left_of picks.Read bytes synced ranges = bytes
left_of (picks.Fill byte) bytes synced ranges = filled ranges byte bytes

-- what is left of a content
abbrev pub picked : Pick → Content → List ℕ
picked pick c = left_of pick c.bytes c.pending.base c.pending.written

-- ---- how it is kept

-- the calls that changed something, with the bytes that they wrote, one after the other
abbrev pub steps_of : List Call → List ℕ → List Step
steps_of [] texts = []
steps_of (Write place size ∷ calls) texts = Wrote place (take size texts) ∷ steps_of calls (drop size texts)
steps_of (Cut size ∷ calls) texts = CutTo size ∷ steps_of calls texts
steps_of (Sync ∷ calls) texts = Synced ∷ steps_of calls texts

-- how many bytes the calls wrote
abbrev pub written_size : List Call → ℕ
written_size [] = 0
written_size (Write place size ∷ calls) = size + written_size calls
written_size (Cut size ∷ calls) = written_size calls
written_size (Sync ∷ calls) = written_size calls

-- a content and what is pending of it: the length and that of the last sync are between the least and the greatest, and a
-- crash may leave what a read gives
pub record IsContent (c : Content) : Type 0 where
  pub least : c.pending.least ≤ length c.pending.base
  pub greatest : length c.pending.base ≤ c.pending.greatest
  pub read : MayLeave c.pending c.bytes

-- the content after the calls is this, with these ranges written since the last sync, which left those bytes
pub record AreKept (content : Content) (calls : List Call) (texts bytes synced : List ℕ) (written : List Range) : Type 0 where
  pub size : written_size calls ≡ length texts
  pub read : content.bytes ≡ bytes
  pub base : content.pending.base ≡ synced
  pub ranges : content.pending.written ≡ written
  pub whole : IsContent content
