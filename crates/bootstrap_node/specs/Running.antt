-- For private functions alone: how a run ends, by cases.
use Rattle.std.specs.Prelude.{ℕ, ◌⊎◌, List, Option, Result, Ok, Err}
use Rattle.std.specs.Io.KnownBytes.{Appends}
use Rattle.bus_types.specs.Causes.{Rose}
use Rattle.bus_stores.specs.Keeper.{KeeperState}
use Rattle.bus_stores.specs.Log.{LogState}
use Rattle.trace_script.specs.Printed.{boot_line}
use Rattle.bootstrap_core.specs.declared.fault.BootOpen.TheVariants as opens
use Rattle.bootstrap_core.specs.Boot.{BootState}
use Rattle.bootstrap_core.specs.Opening.{Stores}
use Rattle.bus_node.specs.declared.words.BootstrapWords.{BootstrapWords}
use Rattle.bus_node.specs.declared.status.NodeStatus.{NodeStatus}
use Rattle.bus_node.specs.declared.status.NodeStatus.TheVariants.{Done, Usage, BadLine, ReadFault, WriteFault, NoMemory, TooLong, LinkFault, StoreFault, WrongWord, BadAnswer, BadReply, BadMark, Ahead, Hole}
use Rattle.bootstrap_node.specs.declared.stop.Stop.{Stop}
use Rattle.bootstrap_node.specs.declared.stop.Stop.TheVariants as stops
use Rattle.bootstrap_node.specs.Rounds.{Outside, Stopped, IsBadlyAnswered, IsBadlyReplied}
use Rattle.bootstrap_node.specs.Ends.{IsServed, IsRun, IsOpenedRun, IsUnopened}

module _ {P G K : Type 0} (given left written : P → Option (List ℕ)) (log : G → LogState) (keeper : K → KeeperState) where
  -- a bootstrap was served, and then its numbers were printed
  pub record IsEnd (words : BootstrapWords) (o o' : Outside P) (start new : BootState) : Type 0 where
    pub served : IsServed given left written log keeper words.port words.connections start new o.link o'.link
    pub stored : Stores new.keeper new.mark
    pub text : Appends o.text o'.text (boot_line new.mark.base new.mark.applied new.log.high)

  -- the same by its answer
  abbrev pub EndEnds : Result Unit Stop → BootstrapWords → Outside P → Outside P → BootState → BootState → Type 0
  EndEnds (Ok done) words o o' start new = IsEnd words o o' start new
  EndEnds (Err stops.BadAnswer) words o o' start new = ⊥
  EndEnds (Err (stops.BadReply place)) words o o' start new = ⊥
  EndEnds (Err stops.LinkFault) words o o' start new = Rose o.link_faults o'.link_faults
  EndEnds (Err stops.StoreFault) words o o' start new = ⊥
  EndEnds (Err stops.WriteFault) words o o' start new = Rose o.text_faults o'.text_faults
  EndEnds (Err stops.NoMemory) words o o' start new = Unit {0}

  -- how the run of an opened bootstrap ends
  abbrev pub RunEnds : Result Unit Stop → BootstrapWords → Outside P → Outside P → BootState → BootState → Type 0
  RunEnds (Ok done) words o o' old new = IsRun given left written log keeper words o o' old new
  RunEnds (Err stops.BadAnswer) words o o' old new = Stopped given left written (IsBadlyAnswered given left written words.relay) words.relay words.rounds old new o o'
  RunEnds (Err (stops.BadReply place)) words o o' old new = Stopped given left written (IsBadlyReplied given left written place words.relay) words.relay words.rounds old new o o'
  RunEnds (Err stops.LinkFault) words o o' old new = Rose o.link_faults o'.link_faults
  RunEnds (Err stops.StoreFault) words o o' old new = Rose old.log.faults new.log.faults ⊎ Rose old.keeper.faults new.keeper.faults
  RunEnds (Err stops.WriteFault) words o o' old new = Rose o.text_faults o'.text_faults
  RunEnds (Err stops.NoMemory) words o o' old new = Unit {0}

  -- how a run ends
  abbrev pub Ends : NodeStatus → BootstrapWords → G → G → K → K → Outside P → Outside P → Type 0
  Ends Done words l l' k k' o o' = IsOpenedRun log keeper (IsRun given left written log keeper words o o') l l' k k'
  Ends Usage words l l' k k' o o' = ⊥
  Ends (BadLine line) words l l' k k' o o' = ⊥
  Ends ReadFault words l l' k k' o o' = ⊥
  Ends WriteFault words l l' k k' o o' = Rose o.text_faults o'.text_faults
  Ends NoMemory words l l' k k' o o' = Unit {0}
  Ends (TooLong line) words l l' k k' o o' = ⊥
  Ends LinkFault words l l' k k' o o' = Rose o.link_faults o'.link_faults
  Ends StoreFault words l l' k k' o o' = Rose (log l).faults (log l').faults ⊎ Rose (keeper k).faults (keeper k').faults
  Ends (WrongWord line) words l l' k k' o o' = ⊥
  Ends BadAnswer words l l' k k' o o' = IsOpenedRun log keeper (RunEnds (Err stops.BadAnswer) words o o') l l' k k'
  Ends (BadReply place) words l l' k k' o o' = IsOpenedRun log keeper (RunEnds (Err (stops.BadReply place)) words o o') l l' k k'
  Ends BadMark words l l' k k' o o' = IsUnopened log keeper opens.BadMark l l' k k' o o'
  Ends (Ahead applied high) words l l' k k' o o' = IsUnopened log keeper (opens.Ahead applied high) l l' k k' o o'
  Ends (Hole base floor) words l l' k k' o o' = IsUnopened log keeper (opens.Hole base floor) l l' k k' o o'
