-- What was written of an ask.
use Rattle.std.specs.Prelude.{ℕ, ◌<◌, List, length, take, Option}
use Rattle.std.specs.Io.KnownBytes.{Appends, Keeps}
use Rattle.bus_http.specs.declared.asking.AskFault.{AskFault}
use Rattle.bus_http.specs.declared.asking.AskFault.TheVariants.{WriteFault, NoMemory}

-- after a fault of the sink so many bytes went out, which aren't all, and after want of memory none
abbrev pub AsksPart : AskFault → Option (List ℕ) → Option (List ℕ) → List ℕ → Type 0
AsksPart (WriteFault written) old new text = (written < length text) × Appends old new (take written text)
AsksPart NoMemory old new text = Keeps old new

-- the fault of a sink
abbrev pub IsWriteFault : AskFault → Type 0
IsWriteFault (WriteFault written) = Unit {0}
IsWriteFault NoMemory = ⊥
