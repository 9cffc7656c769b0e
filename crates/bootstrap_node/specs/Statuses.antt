-- For private functions alone: statuses and reasons to stop.
use Rattle.std.specs.Prelude.{ℕ, Option, Some, None, Result, Ok, Err}
use Rattle.bootstrap_core.specs.declared.fault.BootOpen.{BootOpen}
use Rattle.bootstrap_core.specs.declared.fault.BootOpen.TheVariants as opens
use Rattle.bootstrap_core.specs.declared.fault.TakeLog.{TakeLog}
use Rattle.bootstrap_core.specs.declared.fault.TakeLog.TheVariants as takes
use Rattle.bus_node.specs.declared.status.NodeStatus.{NodeStatus}
use Rattle.bus_node.specs.declared.status.NodeStatus.TheVariants as statuses
use Rattle.bootstrap_node.specs.declared.stop.Stop.{Stop}
use Rattle.bootstrap_node.specs.declared.stop.Stop.TheVariants.{BadAnswer, BadReply, LinkFault, StoreFault, WriteFault, NoMemory}

abbrev pub stop_of : Result ℕ TakeLog → Option Stop
stop_of (Ok scn) = None
stop_of (Err (takes.BadReply place)) = Some (BadReply place)
stop_of (Err (takes.Gap floor)) = None
stop_of (Err (takes.Full need)) = None
stop_of (Err takes.LogFailed) = Some StoreFault
stop_of (Err takes.Halted) = Some StoreFault
stop_of (Err takes.NoMemory) = Some NoMemory

abbrev pub status_of : Result Unit Stop → NodeStatus
status_of (Ok done) = statuses.Done
status_of (Err BadAnswer) = statuses.BadAnswer
status_of (Err (BadReply place)) = statuses.BadReply place
status_of (Err LinkFault) = statuses.LinkFault
status_of (Err StoreFault) = statuses.StoreFault
status_of (Err WriteFault) = statuses.WriteFault
status_of (Err NoMemory) = statuses.NoMemory

abbrev pub open_status : BootOpen → NodeStatus
open_status opens.BadMark = statuses.BadMark
open_status (opens.Ahead applied high) = statuses.Ahead applied high
open_status (opens.Hole base floor) = statuses.Hole base floor
open_status opens.LogFailed = statuses.StoreFault
open_status opens.StoreFailed = statuses.StoreFault
open_status opens.NoMemory = statuses.NoMemory
