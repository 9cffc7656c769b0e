-- Parts of a reply that are sent one after the other.
use Rattle.std.specs.Prelude.{◌≡◌, ℕ, ◌+◌, ◌<◌, List, length, take, Option, Result, Ok, Err, IfSome}
use Rattle.std.specs.Io.KnownBytes.{Appends}
use Rattle.bus_io.specs.Bytes.{RoomLeft}
use Rattle.bus_io.specs.declared.write.WriteFault.{WriteFault}

-- what a sink tells: what was written to it, and for how many bytes more it has room for certain
pub record Told : Type 0 where
  pub written : Option (List ℕ)
  pub room : Option ℕ

abbrev pub told : Option (List ℕ) → Option ℕ → Told
told written room = record { written = written; room = room }

-- a text was sent behind so many bytes of a reply, or a front of it before a fault, which tells of all that went out, and
-- which doesn't come where there is room for the text
abbrev pub Sends : Told → Told → ℕ → Result ℕ WriteFault → List ℕ → Type 0
Sends old new done (Ok now) text = (now ≡ done + length text) × Appends old.written new.written text × RoomLeft old.room new.room (length text)
Sends old new done (Err fault) text = (n : ℕ) × (fault.written ≡ done + n) × (n < length text)
    × Appends old.written new.written (take n text) × IfSome old.room (λ room. room < length text)
