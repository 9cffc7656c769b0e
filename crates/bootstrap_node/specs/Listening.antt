-- For private functions alone: the serving of a bootstrap by its answer.
use Rattle.std.specs.Prelude.{◌≡◌, ℕ, ◌≤◌, true, false, List, ◌++◌, length, map, All, Option, option_map, Result, Ok, Err}
use Rattle.bus_types.specs.Causes.{Rose}
use Rattle.bus_link.specs.Links.{Told}
use Rattle.bus_http.specs.declared.service.ServeEnd.TheVariants as ends
use Rattle.bus_node.specs.declared.door.DoorEnd.{DoorEnd}
use Rattle.bus_node.specs.Doors.{Visit}
use Rattle.bus_stores.specs.Keeper.{KeeperState}
use Rattle.bus_stores.specs.Log.{LogState}
use Rattle.bootstrap_core.specs.Boot.{BootState}
use Rattle.bootstrap_core.specs.Moving.{SameParts}
use Rattle.bootstrap_node.specs.declared.stop.Stop.{Stop}
use Rattle.bootstrap_node.specs.declared.stop.Stop.TheVariants.{BadAnswer, BadReply, LinkFault, StoreFault, WriteFault, NoMemory}
use Rattle.bootstrap_node.specs.Ends.{IsServed, LeavesDoor}

-- why a link did not listen
abbrev pub ListensNot : Stop → ℕ → ℕ → Type 0
ListensNot BadAnswer faults faults' = ⊥
ListensNot (BadReply place) faults faults' = ⊥
ListensNot LinkFault faults faults' = Rose faults faults'
ListensNot StoreFault faults faults' = ⊥
ListensNot WriteFault faults faults' = ⊥
ListensNot NoMemory faults faults' = Unit {0}

-- how the end of a door's serving ends a run
abbrev pub DoorStops : Result Unit Stop → DoorEnd → Type 0
DoorStops (Ok done) end = (end.failed ≡ false) × (end.short ≡ false)
DoorStops (Err BadAnswer) end = ⊥
DoorStops (Err (BadReply place)) end = ⊥
DoorStops (Err LinkFault) end = end.failed ≡ true
DoorStops (Err StoreFault) end = ⊥
DoorStops (Err WriteFault) end = ⊥
DoorStops (Err NoMemory) end = Unit {0}

-- what a door's serving did: so many connections at most were served, and where it didn't fail as many as were wanted
pub record IsDoorServed {P : Type 0} (Serves : Unit {0} → Unit {0} → List (Visit P (Unit {0})) → Type 0) (connections : ℕ) (end : DoorEnd) (old new : Option (List P)) : Type 0 where
  pub visits : List (Visit P (Unit {0}))
  pub finished : new ≡ option_map (λ peers. peers ++ map (λ v. v.peer) visits) old
  pub served : Serves tt tt visits
  pub count : end.failed ≡ false → length visits ≡ connections
  pub roomy : end.short ≡ false → All (λ v. v.end ≡ ends.NoMemory → ⊥) visits

module _ {P G K : Type 0} (given left written : P → Option (List ℕ)) (log : G → LogState) (keeper : K → KeeperState) where
  abbrev pub ServeEnds : Result Unit Stop → ℕ → ℕ → BootState → BootState → Option (Told P) → Option (Told P) → ℕ → ℕ → Type 0
  ServeEnds (Ok done) port connections start new old_link new_link faults faults' = IsServed given left written log keeper port connections start new old_link new_link
  ServeEnds (Err stop) port connections start new old_link new_link faults faults' = ListensNot stop faults faults'

  -- how a bootstrap was served, and what the link took back
  pub record ServesAll (result : Result Unit Stop) (port connections : ℕ) (start new : BootState) (old_link new_link : Option (Told P)) (faults faults' : ℕ) : Type 0 where
    pub ends : ServeEnds result port connections start new old_link new_link faults faults'
    pub back : LeavesDoor port old_link new_link
    pub later : faults ≤ faults'
    pub same : SameParts start new
