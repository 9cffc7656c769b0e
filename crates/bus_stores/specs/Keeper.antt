-- What a keeper tells of itself, and what its calls do to that.
use Rattle.std.specs.Prelude.{◌≡◌, ℕ, ◌≤◌, Bool, true, false, if◌then◌else◌, List, [], ◌∷◌, ◌++◌, Option, Some, None, option_map, IfSome, Result, Ok, Err, IfOk, ◌⊎◌}
use Rattle.std.specs.FinMap.{is_sorted}
use Rattle.bus_types.specs.declared.change.Key.{Key}
use Rattle.bus_types.specs.declared.change.Change.{Change}
use Rattle.bus_types.specs.Change.{name_cmp}
use Rattle.bus_types.specs.Table.{RowList, rows_after, payload_at}
use Rattle.bus_types.specs.Causes.{Rose}
use Rattle.bus_stores.specs.declared.keeper.Stop.{Stop}
use Rattle.bus_stores.specs.declared.keeper.Stop.TheVariants.{Before, After}
use Rattle.bus_stores.specs.declared.keeper.StoreFault.{StoreFault}
use Rattle.bus_stores.specs.declared.keeper.StoreFault.TheVariants.{Failed, NoMemory}

-- ---- what it tells

-- rows in order of name, and at most one mark
pub record Content : Type 0 where
  pub rows : RowList
  pub mark : Option (List ℕ)

-- the marks that commits set, in order, the stop that the next commit meets, and whether a call fails only where a commit
-- meets an armed stop
pub record Stops : Type 0 where
  pub marks : List (List ℕ)
  pub armed : Option Stop
  pub sound : Bool

-- what a keeper tells: its content, its stops and a number of its calls, where it tells them, and how often it failed
pub record KeeperState : Type 0 where
  pub content : Option Content
  pub stops : Option Stops
  pub calls : Option ℕ
  pub faults : ℕ

-- a keeper that tells nothing of itself but how often it failed
abbrev pub untold : ℕ → KeeperState
untold faults = record { content = None; stops = None; calls = None; faults = faults }

-- neither a row nor a mark
abbrev pub new_content : Content
new_content = record { rows = []; mark = None }

-- rows in strictly rising order of name
abbrev pub IsTable : RowList → Type 0
IsTable rows = is_sorted name_cmp rows ≡ true

-- the payload of a row
abbrev pub payload_of : ℕ → Key → Content → Option (List ℕ)
payload_of source key c = payload_at c.rows (record { source = source; key = key })

-- ---- what a commit makes

-- whether the rows are cleared first, the changes, and the mark
pub record Move : Type 0 where
  pub clear : Bool
  pub batch : List Change
  pub mark : List ℕ

abbrev pub move_of : Bool → List Change → List ℕ → Move
move_of clear batch mark = record { clear = clear; batch = batch; mark = mark }

-- the rows after it
abbrev pub rows_moved : Move → RowList → RowList
rows_moved m rows = rows_after (if m.clear then [] else rows) m.batch

-- the content after it
abbrev pub moved : Move → Content → Content
moved m c = record { rows = rows_moved m c.rows; mark = Some m.mark }

-- the content after a commit that met this stop, or none
abbrev pub content_after : Option Stop → Move → Content → Content
content_after (Some Before) m c = c
content_after (Some After) m c = moved m c
content_after None m c = moved m c

-- the stops after a commit that met this stop, or none
abbrev pub stops_after : Option Stop → Move → Stops → Stops
stops_after (Some Before) m s = record s { armed = None }
stops_after (Some After) m s = record s { marks = s.marks ++ m.mark ∷ []; armed = None }
stops_after None m s = record s { marks = s.marks ++ m.mark ∷ [] }

-- ---- what each call leaves

-- two numbers, both told and so related, or neither told
abbrev pub BothTold : (ℕ → ℕ → Type 0) → Option ℕ → Option ℕ → Type 0
BothTold R None None = Unit {0}
BothTold R (Some a) (Some b) = R a b
BothTold R None (Some b) = ⊥
BothTold R (Some a) None = ⊥

-- where a call answers `Failed`
abbrev pub OnFailed : {X : Type 0} → Result X StoreFault → Type 0 → Type 0
OnFailed (Ok x) P = Unit {0}
OnFailed (Err Failed) P = P
OnFailed (Err NoMemory) P = Unit {0}

-- every call: the counts never fall, and it answers `Failed` only where the count of faults rose
pub record Counts {X : Type 0} (old new : KeeperState) (result : Result X StoreFault) : Type 0 where
  pub calls : BothTold (λ a b. a ≤ b) old.calls new.calls
  pub faults : old.faults ≤ new.faults
  pub failed : OnFailed result (Rose old.faults new.faults)

-- content that is told after a call, where any is, is this: a call may shut a keeper, which then tells none
abbrev pub TellsOnly : Option Content → Option Content → Type 0
TellsOnly is told = IfSome told (λ c. is ≡ Some c)

-- all but the counts is as it was
pub record SameStore (old new : KeeperState) : Type 0 where
  pub content : TellsOnly old.content new.content
  pub stops : new.stops ≡ old.stops

-- a call that reads: it answers what is asked of the content and changes nothing, and at a sound keeper it doesn't fail
pub record Reads {X : Type 0} (asked : Content → X) (old new : KeeperState) (result : Result X StoreFault) : Type 0 where
  pub counts : Counts old new result
  pub same : SameStore old new
  pub answer : IfOk result (λ x. IfSome new.content (λ c. x ≡ asked c))
  pub sound : OnFailed result (IfSome old.stops (λ s. s.sound ≡ false))

-- a commit that met this stop, or none; at a sound keeper it is the one that was armed
pub record Meets (stop : Option Stop) (m : Move) (old new : KeeperState) : Type 0 where
  pub content : TellsOnly (option_map (content_after stop m) old.content) new.content
  pub stops : new.stops ≡ option_map (stops_after stop m) old.stops
  pub sound : IfSome old.stops (λ s. s.sound ≡ true → s.armed ≡ stop)

-- a commit that failed met a stop before it counted, or after
abbrev pub Stopped : Move → KeeperState → KeeperState → Type 0
Stopped m old new = Meets (Some Before) m old new ⊎ Meets (Some After) m old new

-- what a commit leaves, by its answer
abbrev pub Leaves : {X : Type 0} → Move → KeeperState → KeeperState → Result X StoreFault → Type 0
Leaves m old new (Ok x) = Meets None m old new
Leaves m old new (Err Failed) = Stopped m old new
Leaves m old new (Err NoMemory) = SameStore old new

-- a call that commits
pub record Commits (m : Move) (old new : KeeperState) (result : Result Unit StoreFault) : Type 0 where
  pub counts : Counts old new result
  pub leaves : Leaves m old new result
