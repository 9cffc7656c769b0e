-- A relay that is served at a door.
use Rattle.std.proofs.Common.{◌≡◌, ℕ, ◌≤◌, false, List, [], ◌∷◌, ◌++◌, map, length, Option, Some, None, refl, sym, ap, ◌∙◌, subst, inr}
use Rattle.std.specs.Prelude.{option_map, IfSome, All}
use Rattle.bus_types.specs.Window.{Span}
use Rattle.bus_types.specs.Relay.{Relay}
use Rattle.bus_link.specs.Links.{Told, with_port, with_shut}
use Rattle.bus_node.specs.Doors.{Visit, Visits}
use Rattle.bus_node.specs.declared.door.DoorEnd.{DoorEnd}
use Rattle.relay_node.specs.Serving.{ServesRelay, IsNotShort, Listened, ServesAll, ServesSome}
use Rattle.relay_node.specs.Doorway.{ServesDoor}

module _ {P : Type 0} (given left written : P → Option (List ℕ)) (windows : Option (List Span)) where
  -- a relay stays as it is over all connections
  visits_end : (r t : Relay) (visits : List (Visit P Relay)) → Visits (ServesRelay windows) given left written r t visits → t ≡ r
  visits_end r t [] h = h
  visits_end r t (v ∷ vs) h = visits_end v.state t vs h.1 ∙ h.0.served.0

  visits_same : (r t : Relay) (visits : List (Visit P Relay)) → Visits (ServesRelay windows) given left written r t visits → Visits (ServesRelay windows) given left written r r visits
  visits_same r t visits h = subst (λ (u : Relay). Visits (ServesRelay windows) given left written r u visits) (visits_end r t visits h) h

  -- a door that took no connection back before
  door_peers : (old new : Option (List P)) (more : List P) → IfSome old (λ peers. peers ≡ []) → new ≡ option_map (λ peers. peers ++ more) old → IfSome new (λ peers. peers ≡ more)
  door_peers None new more none e = subst (λ (o : Option (List P)). IfSome o (λ peers. peers ≡ more)) (sym e) tt
  door_peers (Some xs) new more none e = subst (λ (o : Option (List P)). IfSome o (λ peers. peers ≡ more)) (sym e) (ap (λ (l : List P). l ++ more) none)

  pub serves_door : (connections : ℕ) (r t : Relay) (end : DoorEnd) (old new : Option (List P)) (before after : Option (Told P)) (visits : List (Visit P Relay)) → IfSome old (λ peers. peers ≡ [])
      → new ≡ option_map (λ peers. peers ++ map (λ v. v.peer) visits) old → Visits (ServesRelay windows) given left written r t visits → length visits ≤ connections → (end.failed ≡ false → length visits ≡ connections) → (end.short ≡ false → All IsNotShort visits)
      → after ≡ option_map (with_shut new) before → ServesDoor given left written windows connections r end before after
  serves_door connections r t end old new before after visits none finished served few all sound told = record {
    visits = visits;
    finished = new;
    told = told;
    peers = door_peers old new (map (λ v. v.peer) visits) none finished;
    served = visits_same r t visits served;
    few = few;
    all = all;
    sound = sound;
  }

  twice : {A B C : Type 0} (f : B → C) (g : A → B) (x : Option A) → option_map f (option_map g x) ≡ option_map (λ a. f (g a)) x
  twice f g None = refl
  twice f g (Some a) = refl

  listened : (port connections : ℕ) (r : Relay) (end : DoorEnd) (before mid after : Option (Told P)) → mid ≡ option_map (with_port port) before → (d : ServesDoor given left written windows connections r end mid after) → Listened given left written windows port r d.visits before after
  listened port connections r end before mid after e d = record {
    finished = d.finished;
    told = d.told ∙ ap (λ (t : Option (Told P)). option_map (with_shut d.finished) t) e ∙ twice (with_shut d.finished) (with_port port) before;
    peers = d.peers;
    served = d.served;
  }

  pub serves_all : (port connections : ℕ) (r : Relay) (end : DoorEnd) (before mid after : Option (Told P)) → mid ≡ option_map (with_port port) before → ServesDoor given left written windows connections r end mid after
      → end.failed ≡ false → end.short ≡ false → ServesAll given left written windows port connections r before after
  serves_all port connections r end before mid after e d failed short = record {
    visits = d.visits;
    listened = listened port connections r end before mid after e d;
    count = d.all failed;
    sound = d.sound short;
  }

  pub serves_some : (port connections : ℕ) (r : Relay) (end : DoorEnd) (before mid after : Option (Told P)) → mid ≡ option_map (with_port port) before → ServesDoor given left written windows connections r end mid after
      → ServesSome given left written windows port connections r before after
  serves_some port connections r end before mid after e d = inr (record {
    visits = d.visits;
    listened = listened port connections r end before mid after e d;
    count = d.few;
  })
