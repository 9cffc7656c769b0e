-- The shape of a reply that is no answer, as the code finds it.
use Rattle.std.specs.Prelude.{ℕ, List}
use Rattle.event_codec.specs.declared.reply.Shape.{Shape}
use Rattle.event_codec.specs.declared.reply.Shape.TheVariants as shapes
use Rattle.bus_wire.specs.Lawful.{Body, HoldsWindows, HoldsRows, HoldsChanges}

abbrev pub IsShaped : Body → List ℕ → Shape → Type 0
IsShaped body bytes (shapes.Windows count last) = HoldsWindows body bytes count last
IsShaped body bytes (shapes.Rows count scn more) = HoldsRows body bytes count scn more
IsShaped body bytes (shapes.Changes count more) = HoldsChanges body bytes count more
IsShaped body bytes (shapes.Only answer) = ⊥
