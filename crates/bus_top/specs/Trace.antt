-- What a run of the program has read and written, and the bus that it leaves, by its status.
use Rattle.std.specs.Prelude.{◌≡◌, ℕ, List, [], ◌∷◌, ◌++◌, map, take, codes, Option, Some, None, IfSome, String, string_bytes}
use Rattle.std.specs.Global.{Global}
use Rattle.std.specs.Io.KnownBytes.{Appends, Consumes}
use Rattle.trace_script.specs.Input.{whole_part}
use Rattle.history_core.specs.Run.{Ending, script}
use Rattle.history_core.specs.Run.Ending.{Finished}
use Rattle.history_core.specs.Bus.{Parts, state_of, IsSound}
use Rattle.bus_top.specs.declared.status.Status.{Status}
use Rattle.bus_top.specs.declared.status.Status.TheVariants.{Done, Usage, BadLine, ReadFault, WriteFault, NoMemory, TooLong}

-- ---- what was read and written

-- where the input is told: as a script it ends so, and what was written is the text that it prints up to there
abbrev pub EndsAt : Ending → Option (List ℕ) → Option (List ℕ) → Option (List ℕ) → Type 0
EndsAt ending input written written' = IfSome input (λ bytes. ((script bytes).ending ≡ ending) × Appends written written' (script bytes).text)

-- where the input is told: what was written is the text of the whole lines of the part that was read, none of which is at fault
abbrev pub StopsReading : Option (List ℕ) → Option (List ℕ) → Option (List ℕ) → Option (List ℕ) → Type 0
StopsReading input left written written' =
    IfSome input (λ bytes. (front : List ℕ) × Consumes input left front × ((script (whole_part front)).ending ≡ Finished)
    × Appends written written' (script (whole_part front)).text)

-- where the input is told: what was written is a front of the text that the script in it prints
abbrev pub StopsWriting : Option (List ℕ) → Option (List ℕ) → Option (List ℕ) → Type 0
StopsWriting input written written' = IfSome input (λ bytes. (n : ℕ) × Appends written written' (take n (script bytes).text))

-- where the input is told: what was written is the text of the whole lines in a front of it, none of which is at fault
abbrev pub StopsShort : Option (List ℕ) → Option (List ℕ) → Option (List ℕ) → Type 0
StopsShort input written written' =
    IfSome input (λ bytes. (front : List ℕ) × (rest : List ℕ) × (bytes ≡ front ++ rest) × ((script (whole_part front)).ending ≡ Finished)
    × Appends written written' (script (whole_part front)).text)

-- the one word `trace`
abbrev pub IsTrace : List (String Global) → Type 0
IsTrace words = map string_bytes words ≡ codes "trace" ∷ []

-- ---- the bus that a run leaves

-- a sound bus; where the input is told, its state is the one that the script in it leaves
pub record LeavesBus (input : Option (List ℕ)) (kept : Option Parts) : Type 0 where
  pub bus : Parts
  pub is : kept ≡ Some bus
  pub sound : IsSound bus
  pub state : IfSome input (λ bytes. (script bytes).state ≡ state_of bus)

-- a sound bus; where the input is told, its state is the one that the whole lines of the part that was read leave
pub record LeavesFrontBus (input left : Option (List ℕ)) (kept : Option Parts) : Type 0 where
  pub bus : Parts
  pub is : kept ≡ Some bus
  pub sound : IsSound bus
  pub state : IfSome input (λ bytes. (front : List ℕ) × Consumes input left front × ((script (whole_part front)).state ≡ state_of bus))

-- what a run that ended with a status hands back: the bus as the lines that were taken left it, or none
abbrev pub HandsBack : Status → Option (List ℕ) → Option (List ℕ) → Option Parts → Type 0
HandsBack Done input left kept = LeavesBus input kept
HandsBack Usage input left kept = kept ≡ None
HandsBack (BadLine line) input left kept = LeavesBus input kept
HandsBack ReadFault input left kept = LeavesFrontBus input left kept
HandsBack WriteFault input left kept = kept ≡ None
HandsBack NoMemory input left kept = kept ≡ None
HandsBack (TooLong line) input left kept = LeavesBus input kept
