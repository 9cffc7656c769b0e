-- A call that reads, against a function that says what is read.
use Rattle.std.specs.Prelude.{◌≡◌, Option, Some, None, Result, Ok, Err}
use Rattle.trace_script.specs.declared.fault.LineFault.{LineFault}
use Rattle.trace_script.specs.declared.fault.LineFault.TheVariants.{BadLine, NoMemory}

-- a bad line is one that the function doesn't have; want of memory says nothing
abbrev pub Refuses : {Y : Type 0} → LineFault → Option Y → Type 0
Refuses BadLine defined = defined ≡ None
Refuses NoMemory defined = Unit {0}

-- what a call answered, seen by view, is what the function has
abbrev pub Reads : {X Y : Type 0} → (X → Y) → Result X LineFault → Option Y → Type 0
Reads view (Ok x) defined = defined ≡ Some (view x)
Reads view (Err fault) defined = Refuses fault defined
