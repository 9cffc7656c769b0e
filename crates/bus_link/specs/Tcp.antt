-- Counts of what stands over TCP.
use Rattle.std.specs.Prelude.{ℕ, ◌≡◌, ◌+◌, None}
use Rattle.bus_io.specs.Counted.{Streamed}
use Rattle.bus_link.specs.Links.{IsUnused}

-- how often a connection over a stream has failed
abbrev pub stream_faults : {T : Type 0} → Streamed T → ℕ
stream_faults s = s.read_faults + s.write_faults

-- the count of a new door, which tells nothing
abbrev pub IsNewCount : ℕ → Type 0
IsNewCount faults = IsUnused {P = Unit {0}} None faults

-- a connection over a stream that has not failed
abbrev pub IsNewStream : {T : Type 0} → Streamed T → Type 0
IsNewStream s = (s.read_faults ≡ 0) × (s.write_faults ≡ 0)
