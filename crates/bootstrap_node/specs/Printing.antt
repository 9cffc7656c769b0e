-- For private functions alone: a line is printed.
use Rattle.std.specs.Prelude.{ℕ, ◌≤◌, List, Option, Result, Ok, Err}
use Rattle.std.specs.Io.KnownBytes.{Appends}
use Rattle.bus_types.specs.Causes.{Rose}
use Rattle.bootstrap_node.specs.declared.stop.Stop.{Stop}
use Rattle.bootstrap_node.specs.declared.stop.Stop.TheVariants.{BadAnswer, BadReply, LinkFault, StoreFault, WriteFault, NoMemory}

-- a line was printed, or it wasn't, and why
abbrev pub PrintEnds : Result Unit Stop → Option (List ℕ) → Option (List ℕ) → ℕ → ℕ → List ℕ → Type 0
PrintEnds (Ok done) old new faults faults' line = Appends old new line
PrintEnds (Err BadAnswer) old new faults faults' line = ⊥
PrintEnds (Err (BadReply place)) old new faults faults' line = ⊥
PrintEnds (Err LinkFault) old new faults faults' line = ⊥
PrintEnds (Err StoreFault) old new faults faults' line = ⊥
PrintEnds (Err WriteFault) old new faults faults' line = Rose faults faults'
PrintEnds (Err NoMemory) old new faults faults' line = Unit {0}

pub record Prints (result : Result Unit Stop) (old new : Option (List ℕ)) (faults faults' : ℕ) (line : List ℕ) : Type 0 where
  pub ends : PrintEnds result old new faults faults' line
  pub later : faults ≤ faults'
