-- The bytes of an event before its payload.
use Rattle.std.specs.Prelude.{ℕ, List}
use Rattle.bus_types.specs.declared.change.Key.TheVariants.{Long}
use Rattle.event_codec.specs.declared.head.Head.{Head}
use Rattle.event_codec.specs.Bytes.{head_bytes}

abbrev pub spelled : Head → List ℕ
spelled h = head_bytes h.kind h.source h.scn (Long h.key) h.len
