-- How a client is opened.
use Rattle.bus_stores.specs.declared.keeper.StoreFault.{StoreFault}
use Rattle.bus_stores.specs.declared.keeper.StoreFault.TheVariants as stores
use Rattle.checkpoint.specs.declared.mark.MarkFault.{MarkFault}
use Rattle.checkpoint.specs.declared.mark.MarkFault.TheVariants as marks
use Rattle.client_switch.specs.declared.fault.ClientOpen.{ClientOpen}
use Rattle.client_switch.specs.declared.fault.ClientOpen.TheVariants as opens

-- a fault of the keeper, as one of opening
abbrev pub open_fault : StoreFault → ClientOpen
open_fault stores.Failed = opens.StoreFault
open_fault stores.NoMemory = opens.NoMemory

-- a fault of reading a mark, as one of opening
abbrev pub read_fault : MarkFault → ClientOpen
read_fault marks.BadMark = opens.BadMark
read_fault marks.NoMemory = opens.NoMemory
