-- For private functions alone: an input that is read to its end.
use Rattle.std.specs.Prelude.{◌≡◌, ℕ, ◌+◌, ◌<◌, ◌⊎◌, List, [], length, Option}
use Rattle.std.specs.Io.KnownBytes.{Consumes, IsAtEnd}
use Rattle.trace_script.specs.Input.{longest_input}
use Rattle.relay_node.specs.declared.feed.Stop.{Stop}
use Rattle.relay_node.specs.declared.feed.Stop.TheVariants.{BadLine, TooLong, WrongWord, ReadFault, NoMemory}
use Rattle.relay_node.specs.Feeding.{Ending}
use Rattle.relay_node.specs.Pieces.{At, SameRun, EndsIn, StopsAt, IsWithin}

-- so many bytes of an input were read and taken
pub record Reached (input left : Option (List ℕ)) (start now : At) (read : ℕ) : Type 0 where
  pub got : List ℕ
  pub consumed : Consumes input left got
  pub size : length got ≡ read
  pub within : IsWithin now
  pub used : now.lines.used + length now.lines.come ≡ start.lines.used + length start.lines.come + read
  pub same : SameRun start got now []

-- all of it was
pub record ReadsAll (input left : Option (List ℕ)) (start now : At) : Type 0 where
  pub got : List ℕ
  pub consumed : Consumes input left got
  pub end : IsAtEnd left
  pub within : IsWithin now
  pub same : SameRun start got now []

-- it was read on: to its end, or until more had come than an input may have, of which so much had come before
pub record ReadsOn (input left : Option (List ℕ)) (read : ℕ) : Type 0 where
  pub got : List ℕ
  pub consumed : Consumes input left got
  pub enough : IsAtEnd left ⊎ (longest_input < read + length got)

-- a line ended it so, and it was read on
pub record EndsSo (input left : Option (List ℕ)) (start : At) (ending : Ending) : Type 0 where
  pub got : List ℕ
  pub consumed : Consumes input left got
  pub ends : EndsIn start got ending
  pub enough : IsAtEnd left ⊎ (longest_input < length got)

-- what holds of the ending that a line makes which stops an input, unless it can't be read
abbrev pub HaltsAt : Stop → (Ending → Type 0) → Type 0
HaltsAt (BadLine line) Holds = StopsAt (BadLine line) Holds
HaltsAt (TooLong line) Holds = StopsAt (TooLong line) Holds
HaltsAt (WrongWord line) Holds = StopsAt (WrongWord line) Holds
HaltsAt ReadFault Holds = Unit {0}
HaltsAt NoMemory Holds = Unit {0}

-- a stop behind a line at fault, once the rest was read: the line's still, or a fault of the input
abbrev pub Settles : Stop → Stop → Type 0 → Type 0
Settles stop result On = (result ≡ ReadFault) ⊎ ((result ≡ stop) × StopsAt stop (λ ending. On))
