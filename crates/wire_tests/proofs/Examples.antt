-- The reply of the tests of callbacks.
use Rattle.std.proofs.Common.{List, [], ◌∷◌, refl, lit<, lit≤}
use Rattle.std.specs.Prelude.{Some}
use Rattle.bus_types.specs.declared.change.Key.TheVariants.{Long}
use Rattle.bus_types.specs.declared.change.Change.{Change}
use Rattle.bus_types.specs.Window.{Span, IsSpan}
use Rattle.event_codec.specs.declared.reply.Shape.TheVariants as shapes
use Rattle.event_codec.specs.Questions.Reply.{Windows}
use Rattle.event_codec.specs.Streams.{windows_bytes}
use Rattle.dispatcher.specs.Callbacks.{Callback, Describes}

abbrev aa : Change
aa = record { source = 0; key = Long 1; put = Some (170 ∷ []) }

abbrev first : Span
first = record { scn = 10; prev = 0; changes = aa ∷ [] }

abbrev second : Span
second = record { scn = 20; prev = 10; changes = [] }

first_is : IsSpan first
first_is = record { scn = lit≤ tt; prev = lit< tt; count = lit≤ tt; size = lit≤ tt; changes = (record { source = lit< tt; key = lit< tt; payload = lit≤ tt }, tt) }

second_is : IsSpan second
second_is = record { scn = lit≤ tt; prev = lit< tt; count = lit≤ tt; size = lit≤ tt; changes = tt }

pub two_windows : (callbacks : List Callback) × Describes (shapes.Windows 2 20) (windows_bytes (first ∷ second ∷ [])) callbacks
two_windows = (_, record { reply = Windows (first ∷ second ∷ []); spells = record { formed = (first_is, (second_is, tt)); spelled = refl; shaped = refl }; told = refl })
