-- A call that reads, against a function that says what is read.
use Rattle.std.specs.Prelude.{◌≡◌, ℕ, Option, Some, None, Result, Ok, Err}
use Rattle.partition_filter.specs.declared.fault.FilterFault.{FilterFault}
use Rattle.partition_filter.specs.declared.fault.FilterFault.TheVariants.{BadFilter, NoMemory}

-- a bad filter is one that the function doesn't have, with the place that it tells; want of memory says nothing
abbrev pub Refuses : {Y : Type 0} → FilterFault → Result Y ℕ → Type 0
Refuses (BadFilter place) defined = defined ≡ Err place
Refuses NoMemory defined = Unit {0}

-- what a call answered, seen by view, is what the function has
abbrev pub ReadsAs : {X Y : Type 0} → (X → Y) → Result X FilterFault → Result Y ℕ → Type 0
ReadsAs view (Ok x) defined = defined ≡ Ok (view x)
ReadsAs view (Err fault) defined = Refuses fault defined

-- what a call answered of the text at this place is what the function has
abbrev pub Finds : {X : Type 0} → ℕ → Result X FilterFault → Option X → Type 0
Finds place (Ok x) defined = defined ≡ Some x
Finds place (Err (BadFilter at_place)) defined = (at_place ≡ place) × (defined ≡ None)
Finds place (Err NoMemory) defined = Unit {0}

-- what a call answered is what the function has
abbrev pub Reads : {X : Type 0} → Result X FilterFault → Result X ℕ → Type 0
Reads result defined = ReadsAs (λ x. x) result defined
