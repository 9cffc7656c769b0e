-- What a filter leaves of one change.
use Rattle.std.specs.Prelude.{ℕ, if◌then◌else◌, List, []}
use Rattle.bus_types.specs.declared.change.Change.{Change}
use Rattle.bus_types.specs.Change.{Test}
use Rattle.event_codec.specs.Bytes.{event_bytes}

-- the event of a change that is accepted, and else nothing
abbrev pub accepted_bytes : Test → ℕ → Change → List ℕ
accepted_bytes test scn c = if test c.source c.key then event_bytes (record { scn = scn; change = c }) else []
