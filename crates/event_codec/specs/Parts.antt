-- An event where it stands, as its head and its payload.
use Rattle.std.specs.Prelude.{ℕ, List, length}
use Rattle.event_codec.specs.declared.head.Head.{Head}
use Rattle.event_codec.specs.declared.event.EventView.{EventView}

abbrev pub parts : EventView → Head × List ℕ
parts v = (record { kind = v.kind; source = v.source; scn = v.scn; key = v.key; len = length v.payload.now }, v.payload.now)
