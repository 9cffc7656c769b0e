use Rattle.std.proofs.Common.{[]}
use Rattle.bus_stores.specs.MemoryLog.{new_windows}
use Rattle.bus_top.specs.declared.starting.TheConstants.{LOG_BYTES}
use Rattle.bus_top.proofs.Starts.{left_alone}
use Rattle.bus_top.proofs.starting.bootstrap.Goals as goal

pub returns-in-Err : goal.returns-in-Err
returns-in-Err g c = (new_windows LOG_BYTES [], record { ends = tt; back = left_alone c.args.words.now _ })
