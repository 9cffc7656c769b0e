-- A relay that is served over the connections of one door.
use Rattle.std.specs.Prelude.{◌≡◌, ℕ, ◌≤◌, ◌⊎◌, true, List, length, map, Option, Some, None, option_map, IfSome, All}
use Rattle.bus_types.specs.Window.{Span}
use Rattle.bus_types.specs.Relay.{Relay, Served as Answer}
use Rattle.event_codec.specs.Reply.{reply_bytes}
use Rattle.bus_wire.specs.declared.ask.Ask.{Ask}
use Rattle.bus_wire.specs.declared.ask.Ask.TheVariants.{Stream, Start, Scan, Target, Catchup, Delta}
use Rattle.bus_http.specs.declared.service.ServeEnd.{ServeEnd}
use Rattle.bus_http.specs.declared.service.ServeEnd.TheVariants as ends
use Rattle.bus_http.specs.declared.route.Side.TheVariants.{Relay as RelaySide}
use Rattle.bus_http.specs.Talks.{Served}
use Rattle.bus_link.specs.Links.{Told, with_port, with_shut}
use Rattle.relay_server.specs.Steady.{MayRelay, KeepsRelay}
use Rattle.bus_node.specs.Doors.{Visit, Visits}

-- the bytes are a reply to an ask for a stream, of which it isn't said which windows it has
abbrev pub IsReply : Ask → List ℕ → Type 0
IsReply (Stream scn filter max) bytes = (answer : Answer) × (bytes ≡ reply_bytes answer)
IsReply (Start since fresh) bytes = ⊥
IsReply (Scan start cursor filter max) bytes = ⊥
IsReply (Target start atleast) bytes = ⊥
IsReply (Catchup at target filter max) bytes = ⊥
IsReply (Delta since target cursor filter max) bytes = ⊥

-- where windows are told, the reply to an ask is that of the relay which published them; where none are, it is a reply. The relay
-- stays as it is
abbrev pub MayReply : Option (List Span) → Relay → Relay → Ask → List ℕ → Type 0
MayReply None r t ask bytes = (t ≡ r) × IsReply ask bytes
MayReply (Some windows) r t ask bytes = MayRelay r t ask bytes

-- a relay of these windows was served over one connection, as it is by `serve_relay`, and stays as it is
abbrev pub ServesRelay : Option (List Span) → Relay → Relay → Option (List ℕ) → Option (List ℕ) → Option (List ℕ) → Option (List ℕ) → Option (List ℕ) → Option (List ℕ) → ServeEnd → Type 0
ServesRelay windows r t given given' left left' written written' end =
    (t ≡ r) × ((last : Relay) × Served RelaySide (MayReply windows) KeepsRelay true r last given given' left left' written written' end)

-- a connection did not end by want of memory
abbrev pub IsNotShort : {P : Type 0} → Visit P Relay → Type 0
IsNotShort v = v.end ≡ ends.NoMemory → ⊥

module _ {P : Type 0} (given left written : P → Option (List ℕ)) where
  -- a link listened at a port with one door, which took these connections back, each served a relay to its end, and was shut
  pub record Listened (windows : Option (List Span)) (port : ℕ) (r : Relay) (visits : List (Visit P Relay)) (before after : Option (Told P)) : Type 0 where
    pub finished : Option (List P)
    pub told : after ≡ option_map (λ t. with_shut finished (with_port port t)) before
    pub peers : IfSome finished (λ peers. peers ≡ map (λ v. v.peer) visits)
    pub served : Visits (ServesRelay windows) given left written r r visits

  -- so many connections, none of which ended by want of memory
  pub record ServesAll (windows : Option (List Span)) (port connections : ℕ) (r : Relay) (before after : Option (Told P)) : Type 0 where
    pub visits : List (Visit P Relay)
    pub listened : Listened windows port r visits before after
    pub count : length visits ≡ connections
    pub sound : All IsNotShort visits

  -- at most so many
  pub record ServesFew (windows : Option (List Span)) (port connections : ℕ) (r : Relay) (before after : Option (Told P)) : Type 0 where
    pub visits : List (Visit P Relay)
    pub listened : Listened windows port r visits before after
    pub count : length visits ≤ connections

  -- or it did not listen
  abbrev pub ServesSome : Option (List Span) → ℕ → ℕ → Relay → Option (Told P) → Option (Told P) → Type 0
  ServesSome windows port connections r before after = (after ≡ before) ⊎ ServesFew windows port connections r before after
