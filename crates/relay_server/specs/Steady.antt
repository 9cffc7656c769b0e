-- What a relay replies that stays as it is.
use Rattle.std.specs.Prelude.{◌≡◌, ℕ, List}
use Rattle.bus_types.specs.Relay.{Relay, answer_of}
use Rattle.partition_filter.specs.Selection.{test_of}
use Rattle.event_codec.specs.Reply.{reply_bytes}
use Rattle.bus_wire.specs.declared.ask.Ask.{Ask}
use Rattle.bus_wire.specs.declared.ask.Ask.TheVariants.{Stream, Start, Scan, Target, Catchup, Delta}

-- the reply to an ask for a stream is the relay's, which stays as it is
abbrev pub MayRelay : Relay → Relay → Ask → List ℕ → Type 0
MayRelay before after (Stream scn filter max) bytes = (after ≡ before) × (bytes ≡ reply_bytes (answer_of before scn (test_of filter) max))
MayRelay before after (Start since fresh) bytes = ⊥
MayRelay before after (Scan start cursor filter max) bytes = ⊥
MayRelay before after (Target start atleast) bytes = ⊥
MayRelay before after (Catchup at target filter max) bytes = ⊥
MayRelay before after (Delta since target cursor filter max) bytes = ⊥

abbrev pub KeepsRelay : Relay → Relay → Type 0
KeepsRelay before after = after ≡ before
