-- A disk that is only read.
use Rattle.std.specs.Prelude.{◌≡◌, ℕ, ◌+◌, ◌<◌, ◌≤◌, List, ◌++◌, length, take, drop, Result, Ok, Err}
use Rattle.log_disk.specs.Disk.{DiskState, may_leave, NothingNew, LeavesOnly}
use Rattle.log_segment.specs.declared.ahead.ReadFault.{ReadFault}
use Rattle.log_segment.specs.declared.ahead.ReadFault.TheVariants as reading

-- a disk was read: what it tells stands, and a crash at any moment leaves what it might have left before
pub record Looks (old new : DiskState) : Type 0 where
  pub faults : old.faults ≤ new.faults
  pub seen : new.seen ≡ old.seen
  pub crash : LeavesOnly old.clock new.clock (may_leave old.clock)
  pub now : NothingNew (may_leave old.clock) (may_leave new.clock)

-- where a disk failed
abbrev pub OnReadFailed : {X : Type 0} → Result X ReadFault → Type 0 → Type 0
OnReadFailed (Ok x) P = Unit {0}
OnReadFailed (Err reading.Failed) P = P
OnReadFailed (Err reading.NoMemory) P = Unit {0}

-- so many of a disk's bytes were put behind those that stand from a place on; some, where any are left before the end
pub record ReadsOn (place end count : ℕ) (bytes old new : List ℕ) : Type 0 where
  pub piece : List ℕ
  pub parts : new ≡ old ++ piece
  pub given : piece ≡ take count (drop (place + length old) bytes)
  pub some : place + length old < end → 0 < count
