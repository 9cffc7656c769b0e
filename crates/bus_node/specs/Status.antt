-- The exit status of a node.
use Rattle.std.specs.Prelude.{ℕ, List, [], ◌++◌, codes, decimal}
use Rattle.bus_node.specs.declared.status.NodeStatus.{NodeStatus}
use Rattle.bus_node.specs.declared.status.NodeStatus.TheVariants.{Done, Usage, BadLine, ReadFault, WriteFault, NoMemory, TooLong, LinkFault, StoreFault, WrongWord, BadAnswer, BadReply, BadMark, Ahead, Hole}

abbrev pub status_number : NodeStatus → ℕ
status_number Done = 0
status_number Usage = 1
status_number (BadLine line) = 2
status_number ReadFault = 3
status_number WriteFault = 4
status_number NoMemory = 5
status_number (TooLong line) = 6
status_number LinkFault = 7
status_number StoreFault = 9
status_number (WrongWord line) = 10
status_number BadAnswer = 11
status_number (BadReply place) = 12
status_number BadMark = 13
status_number (Ahead applied high) = 15
status_number (Hole base floor) = 16

-- what the program writes on standard error, without the LF at its end
abbrev pub status_text : NodeStatus → List ℕ
status_text Done = []
status_text Usage = codes "databus: usage"
status_text (BadLine line) = codes "databus: bad line " ++ decimal line
status_text ReadFault = codes "databus: read fault"
status_text WriteFault = codes "databus: write fault"
status_text NoMemory = codes "databus: no memory"
status_text (TooLong line) = codes "databus: too long at line " ++ decimal line
status_text LinkFault = codes "databus: link fault"
status_text StoreFault = codes "databus: store fault"
status_text (WrongWord line) = codes "databus: wrong word at line " ++ decimal line
status_text BadAnswer = codes "databus: bad answer"
status_text (BadReply place) = codes "databus: bad reply at " ++ decimal place
status_text BadMark = codes "databus: bad mark"
status_text (Ahead applied high) = codes "databus: applied " ++ decimal applied ++ codes " above " ++ decimal high
status_text (Hole base floor) = codes "databus: base " ++ decimal base ++ codes " below " ++ decimal floor
