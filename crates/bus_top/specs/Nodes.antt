-- What a node has read, written, asked and served, by its status.
use Rattle.std.specs.Prelude.{◌≡◌, ℕ, ◌⊎◌, true, List, map, Option, Some, None, String, string_bytes}
use Rattle.std.specs.Global.{Global}
use Rattle.std.specs.Io.KnownBytes.{Appends}
use Rattle.bus_types.specs.Causes.{Rose}
use Rattle.bus_types.specs.Relay.{Room}
use Rattle.bus_link.specs.Links.{Told}
use Rattle.bus_stores.specs.Keeper.{KeeperState}
use Rattle.bus_stores.specs.Log.{LogState}
use Rattle.client_switch.specs.Client.{FloorKept}
use Rattle.bootstrap_core.specs.declared.fault.BootOpen.TheVariants as opens
use Rattle.bus_top.specs.declared.starting.Outside.{Outside as Given}
use Rattle.bus_node.specs.declared.words.RelayWords.{RelayWords}
use Rattle.bus_node.specs.declared.words.BootstrapWords.{BootstrapWords}
use Rattle.bus_node.specs.declared.words.ConsumeWords.{ConsumeWords}
use Rattle.bus_node.specs.declared.words.NodeWords.{NodeWords}
use Rattle.bus_node.specs.declared.words.NodeWords.TheVariants.{Relay, Bootstrap, Consume}
use Rattle.bus_node.specs.declared.status.NodeStatus.{NodeStatus}
use Rattle.bus_node.specs.declared.status.NodeStatus.TheVariants.{Done, Usage, BadLine, ReadFault, WriteFault, NoMemory, TooLong, LinkFault, StoreFault, WrongWord, BadAnswer, BadReply, BadMark, Ahead, Hole}
use Rattle.bus_node.specs.Words.{node_words, is_plain}
use Rattle.relay_node.specs.Feeding.Ending.{BadAt, TooLongAt, WrongAt}
use Rattle.relay_node.specs.Node.{EndsAt, Relayed, RelayedSome, WritesFront}
use Rattle.bootstrap_node.specs.Rounds.{Outside, Stopped, IsBadlyAnswered, IsBadlyReplied}
use Rattle.bootstrap_node.specs.Ends.{IsOpenedRun, IsRun, IsUnopened, LeavesLink}
use Rattle.consume_node.specs.Runs.{Ended}

-- ---- what is seen of the outside

-- what the input has left, what was written, and what the link tells, where they tell it, and how often each has failed
pub record Seen (P : Type 0) : Type 0 where
  pub input : Option (List ℕ)
  pub text : Option (List ℕ)
  pub link : Option (Told P)
  pub read_faults : ℕ
  pub text_faults : ℕ
  pub link_faults : ℕ

module _ {S W L K P : Type 0} (left : S → Option (List ℕ)) (written : W → Option (List ℕ)) (told : L → Option (Told P)) (reads : S → ℕ) (writes : W → ℕ) (faults : L → ℕ) where
  -- of what a node is given or hands back
  abbrev pub seen_of : Given S W L K → Seen P
  seen_of o = record {
    input = left o.input;
    text = written o.out;
    link = told o.link;
    read_faults = reads o.input;
    text_faults = writes o.out;
    link_faults = faults o.link;
  }

-- nothing was written, and the link was not called
pub record Untouched {P : Type 0} (o o' : Seen P) : Type 0 where
  pub text : o'.text ≡ o.text
  pub link : o'.link ≡ o.link

-- as the bootstrap's node sees it
abbrev pub outside_of : {P : Type 0} → Seen P → Outside P
outside_of o = record { link = o.link; text = o.text; link_faults = o.link_faults; text_faults = o.text_faults }

abbrev pub room_of : RelayWords → Room
room_of w = record { bytes = w.bytes; windows = w.windows }

-- ---- each node, by its status

module _ {P : Type 0} (given left written : P → Option (List ℕ)) where
  abbrev pub RelayEnds : RelayWords → NodeStatus → Seen P → Seen P → Type 0
  RelayEnds w Done o o' = Relayed given left written (room_of w) w.port w.connections o.input o'.input o.link o'.link (Appends o.text o'.text)
  RelayEnds w (BadLine line) o o' = EndsAt (BadAt line) o.input o'.input × Untouched o o'
  RelayEnds w ReadFault o o' = Rose o.read_faults o'.read_faults × Untouched o o'
  RelayEnds w WriteFault o o' = Rose o.text_faults o'.text_faults
      × Relayed given left written (room_of w) w.port w.connections o.input o'.input o.link o'.link (WritesFront o.text o'.text)
  RelayEnds w NoMemory o o' = (o'.text ≡ o.text) × RelayedSome given left written (room_of w) w.port w.connections o.input o'.input o.link o'.link
  RelayEnds w (TooLong line) o o' = EndsAt (TooLongAt line) o.input o'.input × Untouched o o'
  RelayEnds w LinkFault o o' = Rose o.link_faults o'.link_faults × (o'.text ≡ o.text)
      × RelayedSome given left written (room_of w) w.port w.connections o.input o'.input o.link o'.link
  RelayEnds w (WrongWord line) o o' = EndsAt (WrongAt line) o.input o'.input × Untouched o o'
  RelayEnds w Usage o o' = ⊥
  RelayEnds w StoreFault o o' = ⊥
  RelayEnds w BadAnswer o o' = ⊥
  RelayEnds w (BadReply place) o o' = ⊥
  RelayEnds w BadMark o o' = ⊥
  RelayEnds w (Ahead applied high) o o' = ⊥
  RelayEnds w (Hole base floor) o o' = ⊥

  -- a consumer's faults come only where the count of what failed rose
  abbrev pub ConsumerFails : NodeStatus → Seen P → Seen P → KeeperState → KeeperState → Type 0
  ConsumerFails Done o o' k k' = Unit {0}
  ConsumerFails Usage o o' k k' = ⊥
  ConsumerFails (BadLine line) o o' k k' = ⊥
  ConsumerFails ReadFault o o' k k' = ⊥
  ConsumerFails WriteFault o o' k k' = Rose o.text_faults o'.text_faults
  ConsumerFails NoMemory o o' k k' = Unit {0}
  ConsumerFails (TooLong line) o o' k k' = ⊥
  ConsumerFails LinkFault o o' k k' = Rose o.link_faults o'.link_faults
  ConsumerFails StoreFault o o' k k' = Rose k.faults k'.faults
  ConsumerFails (WrongWord line) o o' k k' = ⊥
  ConsumerFails BadAnswer o o' k k' = Unit {0}
  ConsumerFails (BadReply place) o o' k k' = Unit {0}
  ConsumerFails BadMark o o' k k' = Unit {0}
  ConsumerFails (Ahead applied high) o o' k k' = ⊥
  ConsumerFails (Hole base floor) o o' k k' = ⊥

  pub record ConsumerEnds (w : ConsumeWords) (status : NodeStatus) (o o' : Seen P) (k k' : KeeperState) : Type 0 where
    pub ended : Ended given left written w status k k' o.link o'.link o.text o'.text
    pub fails : ConsumerFails status o o' k k'
    pub floor : FloorKept k k'

  module _ {G K : Type 0} (log : G → LogState) (keeper : K → KeeperState) where
    abbrev pub BootEnds : BootstrapWords → NodeStatus → Outside P → Outside P → G → G → K → K → Type 0
    BootEnds w Done o o' g g' k k' = IsOpenedRun log keeper (IsRun given left written log keeper w o o') g g' k k'
    BootEnds w BadAnswer o o' g g' k k' = IsOpenedRun log keeper (λ old new. Stopped given left written
        (IsBadlyAnswered given left written w.relay) w.relay w.rounds old new o o') g g' k k'
    BootEnds w (BadReply place) o o' g g' k k' = IsOpenedRun log keeper (λ old new. Stopped given left written
        (IsBadlyReplied given left written place w.relay) w.relay w.rounds old new o o') g g' k k'
    BootEnds w BadMark o o' g g' k k' = IsUnopened log keeper opens.BadMark g g' k k' o o'
    BootEnds w (Ahead applied high) o o' g g' k k' = IsUnopened log keeper (opens.Ahead applied high) g g' k k' o o'
    BootEnds w (Hole base floor) o o' g g' k k' = IsUnopened log keeper (opens.Hole base floor) g g' k k' o o'
    BootEnds w StoreFault o o' g g' k k' = Rose (log g).faults (log g').faults ⊎ Rose (keeper k).faults (keeper k').faults
    BootEnds w LinkFault o o' g g' k k' = Rose o.link_faults o'.link_faults
    BootEnds w WriteFault o o' g g' k k' = Rose o.text_faults o'.text_faults
    BootEnds w NoMemory o o' g g' k k' = Unit {0}
    BootEnds w Usage o o' g g' k k' = ⊥
    BootEnds w (BadLine line) o o' g g' k k' = ⊥
    BootEnds w ReadFault o o' g g' k k' = ⊥
    BootEnds w (TooLong line) o o' g g' k k' = ⊥
    BootEnds w (WrongWord line) o o' g g' k k' = ⊥

    -- with its connections handed back at every status
    pub record BootRuns (w : BootstrapWords) (status : NodeStatus) (o o' : Outside P) (g g' : G) (k k' : K) : Type 0 where
      pub ends : BootEnds w status o o' g g' k k'
      pub back : LeavesLink w o.link o'.link

    -- what words start: a relay that leaves the keeper as it is; a bootstrap over a new log; a consumer; or nothing, where they are
    -- no node's
    abbrev pub Starts : G → Option NodeWords → NodeStatus → Seen P → Seen P → K → K → Type 0
    Starts fresh None status o o' k k' = (status ≡ Usage) × (o' ≡ o) × (k' ≡ k)
    Starts fresh (Some (Relay w)) status o o' k k' = RelayEnds w status o o' × (k' ≡ k)
    Starts fresh (Some (Bootstrap w)) status o o' k k' = (last : G) × BootRuns w status (outside_of o) (outside_of o') fresh last k k'
    Starts fresh (Some (Consume w)) status o o' k k' = ConsumerEnds w status o o' (keeper k) (keeper k')

    -- or memory ran out before anything was done, as words of a node's plain form were read
    abbrev pub Runs : G → List (String Global) → NodeStatus → Seen P → Seen P → K → K → Type 0
    Runs fresh words status o o' k k' = Starts fresh (node_words (map string_bytes words)) status o o' k k'
        ⊎ ((status ≡ NoMemory) × (is_plain (map string_bytes words) ≡ true) × (o' ≡ o) × (k' ≡ k))
