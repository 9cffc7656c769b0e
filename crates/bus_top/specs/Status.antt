-- The exit status of the program.
use Rattle.std.specs.Prelude.{ℕ, List, [], ◌++◌, codes, decimal}
use Rattle.bus_top.specs.declared.status.Status.{Status}
use Rattle.bus_top.specs.declared.status.Status.TheVariants.{Done, Usage, BadLine, ReadFault, WriteFault, NoMemory, TooLong}

abbrev pub status_number : Status → ℕ
status_number Done = 0
status_number Usage = 1
status_number (BadLine line) = 2
status_number ReadFault = 3
status_number WriteFault = 4
status_number NoMemory = 5
status_number (TooLong line) = 6

-- what the program writes on standard error, without the LF at its end
abbrev pub status_text : Status → List ℕ
status_text Done = []
status_text Usage = codes "databus: usage"
status_text (BadLine line) = codes "databus: bad line " ++ decimal line
status_text ReadFault = codes "databus: read fault"
status_text WriteFault = codes "databus: write fault"
status_text NoMemory = codes "databus: no memory"
status_text (TooLong line) = codes "databus: too long at line " ++ decimal line
