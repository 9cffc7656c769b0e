-- What a keeper in memory is to a contract.
use Rattle.std.specs.Prelude.{◌≡◌, ℕ, ◌+◌, ◌-◌, ◌==◌, Bool, true, false, if◌then◌else◌, List, [], ◌∷◌, ◌++◌, length, find, slice_get, Option, Some, None, option_map, Result, Ok, Err}
use Rattle.bus_types.specs.Counting.{next_count}
use Rattle.bus_types.specs.Table.{RowList}
use Rattle.bus_stores.specs.declared.keeper.Stop.{Stop}
use Rattle.bus_stores.specs.declared.keeper.Stop.TheVariants.{Before, After}
use Rattle.bus_stores.specs.declared.keeper.StoreFault.{StoreFault}
use Rattle.bus_stores.specs.declared.keeper.StoreFault.TheVariants.{Failed, NoMemory}
use Rattle.bus_stores.specs.declared.plan.Fail.{Fail}
use Rattle.bus_stores.specs.Keeper.{KeeperState, Move, rows_moved}

-- its rows, the marks that commits set, the armed stop, the calls that are to fail, and how many calls were made and have
-- failed
pub record MemoryStore : Type 0 where
  pub rows : RowList
  pub marks : List (List ℕ)
  pub armed : Option Stop
  pub fails : List Fail
  pub calls : ℕ
  pub faults : ℕ

abbrev pub new_store : List Fail → MemoryStore
new_store fails = record { rows = []; marks = []; armed = None; fails = fails; calls = 0; faults = 0 }

-- its mark: the last that a commit set
abbrev pub last_mark : List (List ℕ) → Option (List ℕ)
last_mark marks = slice_get marks (length marks - 1)

abbrev pub no_fails : List Fail → Bool
no_fails [] = true
no_fails (f ∷ fs) = false

-- it tells everything, and is sound where no call is to fail
abbrev pub told_by : MemoryStore → KeeperState
told_by s = record {
  content = Some (record { rows = s.rows; mark = last_mark s.marks });
  stops = Some (record { marks = s.marks; armed = s.armed; sound = no_fails s.fails });
  calls = Some s.calls;
  faults = s.faults;
}

-- ---- what a call does

abbrev pub stop_at : Bool → Stop
stop_at after = if after then After else Before

-- the stop that is listed for a call
abbrev pub listed_stop : List Fail → ℕ → Option Stop
listed_stop fails call = option_map (λ f. stop_at f.after) (find (λ f. f.call == call) fails)

-- the first stop, where there is one, else the second
abbrev pub first_stop : Option Stop → Option Stop → Option Stop
first_stop None second = second
first_stop (Some stop) second = Some stop

-- a stop of a call that has nothing to make
abbrev pub before_any : Option Stop → Option Stop
before_any None = None
before_any (Some stop) = Some Before

-- the stop that a call meets that reads: where it is listed, it fails
abbrev pub read_stop : MemoryStore → Option Stop
read_stop s = before_any (listed_stop s.fails s.calls)

-- the stop that a commit meets: the armed one, or the listed one
abbrev pub commit_stop : MemoryStore → Option Stop
commit_stop s = first_stop s.armed (listed_stop s.fails s.calls)

-- a call fails exactly where it meets a stop. A commit that is to fail after it counts may run out of memory instead
abbrev pub FailsAt : {X : Type 0} → Option Stop → Result X StoreFault → Type 0
FailsAt None (Ok x) = Unit {0}
FailsAt None (Err Failed) = ⊥
FailsAt None (Err NoMemory) = Unit {0}
FailsAt (Some Before) (Ok x) = ⊥
FailsAt (Some Before) (Err Failed) = Unit {0}
FailsAt (Some Before) (Err NoMemory) = ⊥
FailsAt (Some After) (Ok x) = ⊥
FailsAt (Some After) (Err Failed) = Unit {0}
FailsAt (Some After) (Err NoMemory) = Unit {0}

-- a call was counted, and the calls that are to fail are the same
pub record CountsCall (old new : MemoryStore) : Type 0 where
  pub calls : new.calls ≡ next_count old.calls
  pub fails : new.fails ≡ old.fails

-- a call begins
abbrev pub begun : MemoryStore → MemoryStore
begun s = record s { calls = next_count s.calls }

-- a call that reads fails
abbrev pub failed : MemoryStore → MemoryStore
failed s = record s { faults = s.faults + 1 }

-- a commit fails
abbrev pub stopped : MemoryStore → MemoryStore
stopped s = record s { armed = None; faults = s.faults + 1 }

-- a commit counts
abbrev pub stored : Move → MemoryStore → MemoryStore
stored m s = record s { rows = rows_moved m s.rows; marks = s.marks ++ m.mark ∷ [] }

-- a commit fails at this stop: it counts where that is after it, and else it doesn't
abbrev pub stopped_at : Option Stop → Move → MemoryStore → MemoryStore
stopped_at (Some After) m s = stopped (stored m s)
stopped_at (Some Before) m s = stopped s
stopped_at None m s = stopped s

-- what a commit leaves, by its answer: where it failed, the stop that it met says which of the two states
abbrev pub CommitLeaves : {X : Type 0} → Move → MemoryStore → MemoryStore → Result X StoreFault → Type 0
CommitLeaves m old new (Ok x) = new ≡ stored m (begun old)
CommitLeaves m old new (Err Failed) = new ≡ stopped_at (commit_stop old) m (begun old)
CommitLeaves m old new (Err NoMemory) = new ≡ begun old

-- what a read leaves, by its answer
abbrev pub ReadLeaves : {X : Type 0} → MemoryStore → MemoryStore → Result X StoreFault → Type 0
ReadLeaves old new (Ok x) = new ≡ begun old
ReadLeaves old new (Err Failed) = new ≡ failed (begun old)
ReadLeaves old new (Err NoMemory) = new ≡ begun old
