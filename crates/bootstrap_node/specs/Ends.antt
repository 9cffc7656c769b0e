-- What a run of a bootstrap did, by its status.
use Rattle.std.specs.Prelude.{◌≡◌, ℕ, ◌≤◌, ◌⊎◌, false, List, length, map, All, Option, option_map, IfSome, IsSome}
use Rattle.std.specs.Io.KnownBytes.{Appends}
use Rattle.bus_types.specs.Window.{Span}
use Rattle.bus_types.specs.Timeline.{IsTimeline}
use Rattle.bus_link.specs.Links.{Told, with_port, with_shut}
use Rattle.bus_http.specs.declared.service.ServeEnd.TheVariants as ends
use Rattle.bus_stores.specs.Keeper.{KeeperState, SameStore}
use Rattle.bus_stores.specs.Log.{LogState}
use Rattle.trace_script.specs.Printed.{boot_line}
use Rattle.snapshot_applier.specs.declared.boot.BootMark.{BootMark}
use Rattle.bootstrap_core.specs.declared.fault.BootOpen.{BootOpen}
use Rattle.bootstrap_core.specs.Boot.{BootState, Stands, StandsForBoot}
use Rattle.bootstrap_core.specs.Opening.{Stores, IsOpened, OpensNot}
use Rattle.bootstrap_core.specs.Moving.{SameParts, TellsWindows}
use Rattle.bus_node.specs.declared.words.BootstrapWords.{BootstrapWords}
use Rattle.bus_node.specs.declared.status.NodeStatus.{NodeStatus}
use Rattle.bus_node.specs.declared.status.NodeStatus.TheVariants.{Done, Usage, BadLine, ReadFault, WriteFault, NoMemory, TooLong, LinkFault, StoreFault, WrongWord, BadAnswer, BadReply, BadMark, Ahead, Hole}
use Rattle.bus_node.specs.Doors.{Visit, Visits}
use Rattle.bootstrap_node.specs.Rounds.{Outside, Round, Made, AreTrue, after_dials}
use Rattle.bootstrap_node.specs.Serving.{BootServes}

-- a door was opened at a port, and shut again, which told these connections
abbrev pub after_door : {P : Type 0} → ℕ → Option (List P) → Told P → Told P
after_door port finished t = with_shut finished (with_port port t)

-- a link opened a door at a port and took it back, or opened none
abbrev pub LeavesDoor : {P : Type 0} → ℕ → Option (Told P) → Option (Told P) → Type 0
LeavesDoor {P} port old new = (new ≡ old) ⊎ ((finished : Option (List P)) × (new ≡ option_map (after_door port finished) old))

-- a link took back every connection that it made to the relay, and then the door, where it opened one
abbrev pub LeavesLink : {P : Type 0} → BootstrapWords → Option (Told P) → Option (Told P) → Type 0
LeavesLink {P} words old new = (peers : List P) × LeavesDoor words.port (option_map (after_dials words.relay peers) old) new

module _ {P G K : Type 0} (given left written : P → Option (List ℕ)) (log : G → LogState) (keeper : K → KeeperState) where
  -- so many connections were accepted at a port and served by a bootstrap that keeps its log, its keeper and its boot mark, none of
  -- which ended by want of memory
  pub record IsServed (port connections : ℕ) (start new : BootState) (old_link new_link : Option (Told P)) : Type 0 where
    pub visits : List (Visit P (Unit {0}))
    pub count : length visits ≡ connections
    pub served : Visits (BootServes log keeper start) given left written tt tt visits
    pub roomy : All (λ v. v.end ≡ ends.NoMemory → ⊥) visits
    pub finished : Option (List P)
    pub are : IfSome finished (λ peers. peers ≡ map (λ v. v.peer) visits)
    pub link : new_link ≡ option_map (after_door port finished) old_link
    pub same : SameParts start new

  -- The rounds were made from a bootstrap that was opened, then its connections were served, and then its numbers were printed:
  -- base and applied of the mark that the keeper stores, and the SCN of the log's newest window. One that stood for a timeline when
  -- it was opened, whose log tells its windows, is served standing for it, where each reply of the relay is true of it.
  pub record IsRun (words : BootstrapWords) (o o' : Outside P) (old new : BootState) : Type 0 where
    pub rounds : List (Round P)
    pub count : length rounds ≡ words.rounds
    pub start : BootState
    pub outside : Outside P
    pub made : Made given left written words.relay false false old start o outside rounds
    pub served : IsServed words.port words.connections start new outside.link o'.link
    pub stored : Stores new.keeper new.mark
    pub text : Appends outside.text o'.text (boot_line new.mark.base new.mark.applied new.log.high)
    pub stands : (ws : List Span) → IsTimeline ws → Stands ws old → TellsWindows old.log → AreTrue given left written ws old rounds → Stands ws start

module _ {G K : Type 0} (log : G → LogState) (keeper : K → KeeperState) where
  -- no bootstrap was opened, and nothing else was done
  pub record IsUnopened {P : Type 0} (fault : BootOpen) (old_log new_log : G) (old_keeper new_keeper : K) (o o' : Outside P) : Type 0 where
    pub fault_is : OpensNot fault (log old_log) (keeper old_keeper) (keeper new_keeper)
    pub log_same : new_log ≡ old_log
    pub keeper_same : SameStore (keeper old_keeper) (keeper new_keeper)
    pub outside : o' ≡ o

  -- A bootstrap was opened over a log and a keeper, and its run ended so, with what is handed back. It stands for each timeline for
  -- which they stood, where the keeper still tells its content.
  pub record IsOpenedRun (RunEnds : BootState → BootState → Type 0) (old_log new_log : G) (old_keeper new_keeper : K) : Type 0 where
    pub opened : BootState
    pub is_opened : IsOpened (log old_log) (keeper old_keeper) opened
    pub stands : (ws : List Span) (mark : BootMark) → StandsForBoot ws (log old_log) (keeper old_keeper) mark → IsSome opened.keeper.content → (opened.mark ≡ mark) × Stands ws opened
    pub later : (keeper old_keeper).faults ≤ opened.keeper.faults
    pub new : BootState
    pub log_is : new.log ≡ log new_log
    pub keeper_is : new.keeper ≡ keeper new_keeper
    pub ends : RunEnds opened new

-- the statuses of a bootstrap
abbrev pub IsBootStatus : NodeStatus → Type 0
IsBootStatus Done = Unit {0}
IsBootStatus Usage = ⊥
IsBootStatus (BadLine line) = ⊥
IsBootStatus ReadFault = ⊥
IsBootStatus WriteFault = Unit {0}
IsBootStatus NoMemory = Unit {0}
IsBootStatus (TooLong line) = ⊥
IsBootStatus LinkFault = Unit {0}
IsBootStatus StoreFault = Unit {0}
IsBootStatus (WrongWord line) = ⊥
IsBootStatus BadAnswer = Unit {0}
IsBootStatus (BadReply place) = Unit {0}
IsBootStatus BadMark = Unit {0}
IsBootStatus (Ahead applied high) = Unit {0}
IsBootStatus (Hole base floor) = Unit {0}
