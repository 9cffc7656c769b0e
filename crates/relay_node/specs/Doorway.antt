-- For private functions alone: a door that a relay is served at.
use Rattle.std.specs.Prelude.{◌≡◌, ℕ, ◌≤◌, false, List, length, map, Option, option_map, IfSome, All}
use Rattle.bus_types.specs.Window.{Span}
use Rattle.bus_types.specs.Relay.{Relay}
use Rattle.bus_link.specs.Links.{Told, with_shut}
use Rattle.bus_node.specs.Doors.{Visit, Visits}
use Rattle.bus_node.specs.declared.door.DoorEnd.{DoorEnd}
use Rattle.relay_node.specs.Serving.{ServesRelay, IsNotShort}

-- a door took these connections back, each served a relay to its end, and was shut
pub record ServesDoor {P : Type 0} (given left written : P → Option (List ℕ)) (windows : Option (List Span)) (connections : ℕ) (r : Relay) (end : DoorEnd) (before after : Option (Told P)) : Type 0 where
  pub visits : List (Visit P Relay)
  pub finished : Option (List P)
  pub told : after ≡ option_map (with_shut finished) before
  pub peers : IfSome finished (λ peers. peers ≡ map (λ v. v.peer) visits)
  pub served : Visits (ServesRelay windows) given left written r r visits
  pub few : length visits ≤ connections
  pub all : end.failed ≡ false → length visits ≡ connections
  pub sound : end.short ≡ false → All IsNotShort visits
