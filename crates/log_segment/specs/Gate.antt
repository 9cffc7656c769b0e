-- How bytes are put behind a closed gate, and the gate is opened.
use Rattle.std.specs.Prelude.{◌≡◌, ℕ, ◌+◌, ◌≤◌, List, [], ◌∷◌, ◌++◌, length, take, Some, IfSome, Result, OnOk}
use Rattle.bus_types.specs.declared.fault.Failed.{Failed}
use Rattle.bus_types.specs.Causes.{HasCause}
use Rattle.log_disk.specs.Disk.{DiskState, may_leave, Only, Torn, BothTold, LeavesOnly}
use Rattle.log_disk.specs.Pending.{put}
use Rattle.log_segment.specs.Image.{Ends, EndsEither}

-- a disk tells these bytes, and a crash leaves them
pub record RestsAt (bytes : List ℕ) (s : DiskState) : Type 0 where
  pub seen : s.seen ≡ Some bytes
  pub only : Only bytes (may_leave s.clock)

-- it rests, with a closed gate behind a front
pub record RestsBehind (front : List ℕ) (s : DiskState) : Type 0 where
  pub bytes : List ℕ
  pub rests : RestsAt bytes s
  pub ends : Ends front bytes

-- no bytes were lost from the end
abbrev pub NoShorter : List ℕ → List ℕ → Type 0
NoShorter old new = length old ≤ length new

-- a text was written at a place and made lasting, or the disk failed
pub record WritesLasting (place : ℕ) (text : List ℕ) (old new : DiskState) (result : Result Unit Failed) : Type 0 where
  pub cause : HasCause old.faults new.faults result
  pub seen : BothTold NoShorter old.seen new.seen
  pub reach : OnOk result (IfSome new.seen (λ bytes. place + length text ≤ length bytes))
  pub crash : (bytes : List ℕ) → RestsAt bytes old → LeavesOnly old.clock new.clock (Torn place (length text) bytes)
  pub done : OnOk result ((bytes : List ℕ) → old.seen ≡ Some bytes → RestsAt (put place text bytes) new)

-- a disk was cut to a length, and that was made lasting, or the disk failed
pub record CutsLasting (size : ℕ) (old new : DiskState) (result : Result Unit Failed) : Type 0 where
  pub cause : HasCause old.faults new.faults result
  pub done : OnOk result ((bytes : List ℕ) → old.seen ≡ Some bytes → RestsAt (take size bytes) new)

-- A body and a closed gate were put behind a closed gate, which was then opened, or the disk failed. A crash at any moment
-- leaves the gate closed, or open with all of the body behind it.
pub record PutsBehind (place : ℕ) (text : List ℕ) (old new : DiskState) (result : Result Unit Failed) : Type 0 where
  pub cause : HasCause old.faults new.faults result
  pub seen : BothTold NoShorter old.seen new.seen
  pub reach : OnOk result (IfSome new.seen (λ bytes. place + 1 + length text ≤ length bytes))
  pub crash : (front body : List ℕ) → length front ≡ place → text ≡ body ++ 0 ∷ [] → RestsBehind front old
      → LeavesOnly old.clock new.clock (EndsEither front body)
  pub done : OnOk result ((front body : List ℕ) → length front ≡ place → text ≡ body ++ 0 ∷ [] → RestsBehind front old
      → RestsBehind (front ++ 165 ∷ body) new)
