-- What a relay's node has read, written and served, by its status.
use Rattle.std.specs.Prelude.{◌≡◌, ℕ, ◌<◌, ◌⊎◌, List, length, take, Option, IfSome}
use Rattle.std.specs.Io.KnownBytes.{Appends, Consumes, IsAtEnd}
use Rattle.bus_types.specs.Timeline.{end_of}
use Rattle.bus_types.specs.Relay.{Relay, Room, new_relay, StandsFor}
use Rattle.trace_script.specs.Input.{longest_input}
use Rattle.trace_script.specs.Printed.{relay_line}
use Rattle.bus_link.specs.Links.{Told}
use Rattle.bus_node.specs.declared.status.NodeStatus.{NodeStatus}
use Rattle.bus_node.specs.declared.status.NodeStatus.TheVariants.{Done, Usage, BadLine, ReadFault, WriteFault, NoMemory, TooLong, LinkFault, StoreFault, WrongWord, BadAnswer, BadReply, BadMark, Ahead, Hole}
use Rattle.relay_node.specs.Feeding.{Ending, fed, windows_of, relay_after}
use Rattle.relay_node.specs.Feeding.Ending.{Finished}
use Rattle.relay_node.specs.Serving.{ServesAll, ServesFew}

-- all lines of an input were taken, and this is the relay that published their windows: it stands for the timeline of these, up to
-- the last one
pub record IsFedBy (room : Room) (bytes : List ℕ) (r : Relay) : Type 0 where
  pub finished : (fed bytes).ending ≡ Finished
  pub published : r ≡ relay_after (new_relay room) (fed bytes).windows
  pub stands : StandsFor (fed bytes).windows r
  pub end : r.tail ≡ end_of (fed bytes).windows

-- likewise, where the input is told
abbrev pub IsFed : Room → Option (List ℕ) → Relay → Type 0
IsFed room input r = IfSome input (λ bytes. IsFedBy room bytes r)

-- an input was read to its end, or more of it than an input may have
abbrev pub IsReadOn : Option (List ℕ) → Option (List ℕ) → Type 0
IsReadOn input left = IsAtEnd left ⊎ ((got : List ℕ) × Consumes input left got × (longest_input < length got))

-- where the input is told: it ends so
pub record EndsAt (ending : Ending) (input left : Option (List ℕ)) : Type 0 where
  pub ends : IfSome input (λ bytes. (fed bytes).ending ≡ ending)
  pub read : IsReadOn input left

module _ {P : Type 0} (given left written : P → Option (List ℕ)) where
  -- the whole input was published, the relay was served over so many connections, none of which ended by want of memory, and
  -- its line was written, or a part of it
  pub record Relayed (room : Room) (port connections : ℕ) (input rest : Option (List ℕ)) (before after : Option (Told P)) (Printed : List ℕ → Type 0) : Type 0 where
    pub relay : Relay
    pub fed : IsFed room input relay
    pub end : IsAtEnd rest
    pub serves : ServesAll given left written (windows_of input) port connections relay before after
    pub printed : Printed (relay_line relay.floor relay.tail)

  -- the whole input was published, and the relay was served over at most so many connections
  pub record RelayedFew (room : Room) (port connections : ℕ) (input rest : Option (List ℕ)) (before after : Option (Told P)) : Type 0 where
    pub relay : Relay
    pub fed : IsFed room input relay
    pub end : IsAtEnd rest
    pub serves : ServesFew given left written (windows_of input) port connections relay before after

  -- or the link did not listen
  abbrev pub RelayedSome : Room → ℕ → ℕ → Option (List ℕ) → Option (List ℕ) → Option (Told P) → Option (Told P) → Type 0
  RelayedSome room port connections input rest before after = (after ≡ before) ⊎ RelayedFew room port connections input rest before after

-- a front of a text was written
abbrev pub WritesFront : Option (List ℕ) → Option (List ℕ) → List ℕ → Type 0
WritesFront written written' text = (n : ℕ) × (n < length text) × Appends written written' (take n text)

-- a status with which the input decided before anything was served
abbrev pub IsUnserved : NodeStatus → Type 0
IsUnserved Done = ⊥
IsUnserved Usage = ⊥
IsUnserved (BadLine line) = Unit {0}
IsUnserved ReadFault = Unit {0}
IsUnserved WriteFault = ⊥
IsUnserved NoMemory = ⊥
IsUnserved (TooLong line) = Unit {0}
IsUnserved LinkFault = ⊥
IsUnserved StoreFault = ⊥
IsUnserved (WrongWord line) = Unit {0}
IsUnserved BadAnswer = ⊥
IsUnserved (BadReply place) = ⊥
IsUnserved BadMark = ⊥
IsUnserved (Ahead applied high) = ⊥
IsUnserved (Hole base floor) = ⊥

-- a status with which the link or want of memory decided before the line was written
abbrev pub IsCutShort : NodeStatus → Type 0
IsCutShort Done = ⊥
IsCutShort Usage = ⊥
IsCutShort (BadLine line) = ⊥
IsCutShort ReadFault = ⊥
IsCutShort WriteFault = ⊥
IsCutShort NoMemory = Unit {0}
IsCutShort (TooLong line) = ⊥
IsCutShort LinkFault = Unit {0}
IsCutShort StoreFault = ⊥
IsCutShort (WrongWord line) = ⊥
IsCutShort BadAnswer = ⊥
IsCutShort (BadReply place) = ⊥
IsCutShort BadMark = ⊥
IsCutShort (Ahead applied high) = ⊥
IsCutShort (Hole base floor) = ⊥

-- a status of a relay
abbrev pub IsRelayStatus : NodeStatus → Type 0
IsRelayStatus Done = Unit {0}
IsRelayStatus Usage = ⊥
IsRelayStatus (BadLine line) = Unit {0}
IsRelayStatus ReadFault = Unit {0}
IsRelayStatus WriteFault = Unit {0}
IsRelayStatus NoMemory = Unit {0}
IsRelayStatus (TooLong line) = Unit {0}
IsRelayStatus LinkFault = Unit {0}
IsRelayStatus StoreFault = ⊥
IsRelayStatus (WrongWord line) = Unit {0}
IsRelayStatus BadAnswer = ⊥
IsRelayStatus (BadReply place) = ⊥
IsRelayStatus BadMark = ⊥
IsRelayStatus (Ahead applied high) = ⊥
IsRelayStatus (Hole base floor) = ⊥
