-- An event where it stands, as an event.
use Rattle.std.specs.Prelude.{◌≡◌, ◌==◌, ◌⊎◌, if◌then◌else◌, [], Some, None}
use Rattle.bus_types.specs.declared.change.Key.TheVariants.{Long}
use Rattle.event_codec.specs.declared.event.EventView.{EventView}
use Rattle.event_codec.specs.Bytes.{Event, IsEvent}

-- a put for the kind 1, else a delete
abbrev pub event_of : EventView → Event
event_of v = record { scn = v.scn; change = record { source = v.source; key = Long v.key; put = if v.kind == 1 then Some v.payload.now else None } }

-- a view of an event: it is of the kind of a put, or of that of a delete and has no payload
pub record IsView (v : EventView) : Type 0 where
  pub event : IsEvent (event_of v)
  pub kind : (v.kind ≡ 1) ⊎ ((v.kind ≡ 2) × (v.payload.now ≡ []))
