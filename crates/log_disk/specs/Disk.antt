-- What a disk tells of itself, what a crash may leave of it, and what its calls do to both.
use Rattle.std.specs.Prelude.{◌≡◌, ℕ, ◌+◌, ◌<◌, ◌≤◌, ◌⊎◌, min, max, List, ◌++◌, length, take, drop, Option, Some, None, IfSome, Result, Ok, Err, OnOk, IfOk}
use Rattle.bus_types.specs.declared.fault.Failed.{Failed}
use Rattle.bus_types.specs.Causes.{HasCause}

-- ---- what it tells

-- A clock of a disk's calls. A moment is a number that does not fall, and to each belongs what a crash at that moment or at a
-- later one, up to now, may have left, in a call or between two.
pub record Clock : Type 1 where
  pub moment : ℕ
  pub left_since : ℕ → List ℕ → Type 0

-- what a crash now may leave
abbrev pub may_leave : Clock → List ℕ → Type 0
may_leave c = c.left_since c.moment

-- what a disk tells: the bytes that a read gives, where it tells them; its clock; and how often it failed
pub record DiskState : Type 1 where
  pub seen : Option (List ℕ)
  pub clock : Clock
  pub faults : ℕ

-- what is true of every disk: this moment is one of those since an earlier one, and a crash now may leave what a read gives
pub record IsDisk (s : DiskState) : Type 0 where
  pub since : (t : ℕ) (c : List ℕ) → t ≤ s.clock.moment → may_leave s.clock c → s.clock.left_since t c
  pub seen : IfSome s.seen (λ bytes. may_leave s.clock bytes)

-- ---- bytes before a call and after it

-- these bytes stand at a place, over what stood there and past the end; all else is as it was
abbrev pub Holds : ℕ → List ℕ → List ℕ → List ℕ → Type 0
Holds place text old new = new ≡ take place old ++ text ++ drop (place + length text) old

-- any bytes stand in the range of a write and past the old end, and the length is any from the old one to the greater of
-- it and the range's end; all else is as it was
pub record Torn (place size : ℕ) (old new : List ℕ) : Type 0 where
  pub before : take place new ≡ take place old
  pub after : drop (place + size) new ≡ drop (place + size) old
  pub no_shorter : length old ≤ length new
  pub no_longer : length new ≤ max (length old) (place + size)

-- the first bytes are left, so many of them
abbrev pub IsCut : ℕ → List ℕ → List ℕ → Type 0
IsCut size old new = new ≡ take size old

-- some of the first bytes are left, at least so many where there were as many
pub record CutAnywhere (size : ℕ) (old new : List ℕ) : Type 0 where
  pub no_shorter : min size (length old) ≤ length new
  pub front : take (length new) old ≡ new

-- either the first bytes are left, so many of them, or all
abbrev pub CutOrNot : ℕ → List ℕ → List ℕ → Type 0
CutOrNot size old new = IsCut size old new ⊎ (new ≡ old)

-- ---- what a crash may leave before a call and after it

-- whatever a crash may leave now is, by such a step, of what it might have left before
abbrev pub Follows : (List ℕ → List ℕ → Type 0) → (List ℕ → Type 0) → (List ℕ → Type 0) → Type 0
Follows step old new = (c : List ℕ) → new c → (d : List ℕ) × old d × step d c

-- a crash may leave nothing that it might not have left before
abbrev pub NothingNew : (List ℕ → Type 0) → (List ℕ → Type 0) → Type 0
NothingNew old new = (c : List ℕ) → new c → old c

-- a crash leaves these bytes
abbrev pub Only : List ℕ → (List ℕ → Type 0) → Type 0
Only bytes left = (c : List ℕ) → left c → c ≡ bytes

-- Time goes on: what a crash since an earlier moment may have left is what it might have left so far, or what it may leave now.
pub record Elapses (old new : Clock) : Type 0 where
  pub later : old.moment ≤ new.moment
  pub nothing_else : (t : ℕ) (c : List ℕ) → t ≤ old.moment → new.left_since t c → old.left_since t c ⊎ may_leave new c
  pub keeps : (t : ℕ) (c : List ℕ) → t ≤ old.moment → old.left_since t c → new.left_since t c

-- A crash at any moment from the old clock's on, in a call or between two, leaves bytes of which P is true.
pub record LeavesOnly (old new : Clock) (P : List ℕ → Type 0) : Type 0 where
  pub later : old.moment ≤ new.moment
  pub each : (c : List ℕ) → new.left_since old.moment c → P c
  -- for a run of calls that began earlier
  pub before : (t : ℕ) (c : List ℕ) → t ≤ old.moment → new.left_since t c → old.left_since t c ⊎ P c

-- ---- what each call does

-- every call: time goes on, the count of faults never falls, and it answers `Failed` only where that rose
pub record DiskCall {X : Type 0} (old new : DiskState) (result : Result X Failed) : Type 0 where
  pub time : Elapses old.clock new.clock
  pub cause : HasCause old.faults new.faults result
  pub disk : IsDisk new

-- where the content is told, it is told before and after, and stands so to what it was
abbrev pub BothTold : (List ℕ → List ℕ → Type 0) → Option (List ℕ) → Option (List ℕ) → Type 0
BothTold relation None None = Unit {0}
BothTold relation None (Some new) = ⊥
BothTold relation (Some old) None = ⊥
BothTold relation (Some old) (Some new) = relation old new

-- the content after a call: so at `Ok`, and so at `Failed`
abbrev pub Leaves : {X : Type 0} → Result X Failed → (List ℕ → List ℕ → Type 0) → (List ℕ → List ℕ → Type 0) → Option (List ℕ)
    → Option (List ℕ) → Type 0
Leaves (Ok x) done failed old new = BothTold done old new
Leaves (Err e) done failed old new = BothTold failed old new

-- a call that changes nothing
pub record Keeps {X : Type 0} (old new : DiskState) (result : Result X Failed) : Type 0 where
  pub call : DiskCall old new result
  pub crash : NothingNew (may_leave old.clock) (may_leave new.clock)
  pub seen : new.seen ≡ old.seen

-- it answers the length
pub record TellsLength (old new : DiskState) (result : Result ℕ Failed) : Type 0 where
  pub keeps : Keeps old new result
  pub length : IfOk result (λ n. IfSome old.seen (λ bytes. n ≡ length bytes))

-- so many bytes from a place on stand at the front of a buffer, and at least one where there is one and room for it
pub record Given (place count : ℕ) (bytes buffer : List ℕ) : Type 0 where
  pub same : take count buffer ≡ take count (drop place bytes)
  pub within : place + count ≤ max place (length bytes)
  pub some : place < length bytes → 0 < length buffer → 0 < count

-- it gives bytes from a place on
pub record ReadsAt (place : ℕ) (buffer : List ℕ) (old new : DiskState) (result : Result ℕ Failed) : Type 0 where
  pub keeps : Keeps old new result
  pub room : IfOk result (λ count. count ≤ length buffer)
  pub given : IfOk result (λ count. IfSome old.seen (λ bytes. Given place count bytes buffer))

-- it writes bytes at a place
pub record Writes (place : ℕ) (text : List ℕ) (old new : DiskState) (result : Result Unit Failed) : Type 0 where
  pub call : DiskCall old new result
  pub crash : Follows (Torn place (length text)) (may_leave old.clock) (may_leave new.clock)
  pub seen : Leaves result (Holds place text) (Torn place (length text)) old.seen new.seen

-- it cuts the disk to a length
pub record Cuts (size : ℕ) (old new : DiskState) (result : Result Unit Failed) : Type 0 where
  pub call : DiskCall old new result
  pub crash : Follows (CutAnywhere size) (may_leave old.clock) (may_leave new.clock)
  pub seen : Leaves result (IsCut size) (CutOrNot size) old.seen new.seen

-- it makes lasting what was written: at `Ok`, a crash now leaves what a read gives
pub record Syncs (old new : DiskState) (result : Result Unit Failed) : Type 0 where
  pub keeps : Keeps old new result
  pub lasting : OnOk result (IfSome old.seen (λ bytes. Only bytes (may_leave new.clock)))
