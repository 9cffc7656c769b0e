-- A call that makes at most one commit.
use Rattle.std.specs.Prelude.{◌≡◌, true, Option, None, Some, IfSome, Result, Ok, Err}
use Rattle.bus_stores.specs.declared.keeper.StoreFault.{StoreFault}
use Rattle.bus_stores.specs.declared.keeper.StoreFault.TheVariants.{Failed, NoMemory}
use Rattle.bus_stores.specs.declared.taking.Commit.{Commit}
use Rattle.bus_stores.specs.Keeper.{KeeperState, Move, Counts, SameStore, Leaves, OnFailed, move_of}

-- what a commit makes, as a record of the program
abbrev pub commit_move : Commit → Move
commit_move c = move_of c.clear c.batch.items c.mark.now

-- what a call leaves that has no commit to make, by its answer
abbrev pub LeavesAll : {X : Type 0} → KeeperState → KeeperState → Result X StoreFault → Type 0
LeavesAll old new (Ok x) = SameStore old new
LeavesAll old new (Err Failed) = ⊥
LeavesAll old new (Err NoMemory) = SameStore old new

-- what a call leaves that makes this commit, where there is one
abbrev pub LeavesBy : {X : Type 0} → Option Move → KeeperState → KeeperState → Result X StoreFault → Type 0
LeavesBy None old new result = LeavesAll old new result
LeavesBy (Some m) old new result = Leaves m old new result

-- a commit of this keeper may fail: it isn't sound, or a stop is armed
abbrev pub MayFail : KeeperState → Type 0
MayFail state = IfSome state.stops (λ s. s.sound ≡ true → s.armed ≡ None → ⊥)

-- a call that makes this commit, where there is one, and no other
pub record Takes {X : Type 0} (move : Option Move) (old new : KeeperState) (result : Result X StoreFault) : Type 0 where
  pub counts : Counts old new result
  pub leaves : LeavesBy move old new result
  pub may_fail : OnFailed result (MayFail old)
