-- For private functions alone: what a poll does, by its answer, and what polls have done together.
use Rattle.std.specs.Prelude.{◌≡◌, ℕ, ◌+◌, ◌≤◌, ◌⊎◌, List, length, take, Option, None, option_map, is_some, true, IfSome, String, string_bytes, Result, Ok, Err}
use Rattle.std.specs.Global.{Global}
use Rattle.std.specs.Io.KnownBytes.{Appends}
use Rattle.bus_types.specs.Window.{Span}
use Rattle.bus_types.specs.Timeline.{IsTimeline}
use Rattle.bus_link.specs.Links.{Told}
use Rattle.bus_stores.specs.Keeper.{KeeperState, SameStore}
use Rattle.bus_stores.specs.declared.keeper.StoreFault.{StoreFault}
use Rattle.bus_stores.specs.declared.keeper.StoreFault.TheVariants as stores
use Rattle.bus_wire.specs.declared.ask.Ask.{Ask}
use Rattle.partition_filter.specs.Selection.{test_of}
use Rattle.trace_script.specs.Printed.{reply_line}
use Rattle.consumer_lines.specs.Shown.{stage_of}
use Rattle.client_switch.specs.declared.client.Took.{Took}
use Rattle.client_switch.specs.declared.fault.ClientOpen.{ClientOpen}
use Rattle.client_switch.specs.declared.fault.ClientOpen.TheVariants as opens
use Rattle.client_switch.specs.Client.{Held, Keeps, asks, TakesIt, RefusesReply, Halts, HoldsGood, KeepsGood, AreTrueOf}
use Rattle.bus_node.specs.declared.exchanging.ExchangeFault.{ExchangeFault}
use Rattle.bus_node.specs.declared.exchanging.ExchangeFault.TheVariants as exchanges
use Rattle.bus_node.specs.Exchange.{with_exchange}
use Rattle.bus_node.specs.declared.status.NodeStatus.{NodeStatus}
use Rattle.bus_node.specs.declared.status.NodeStatus.TheVariants as statuses
use Rattle.consume_node.specs.declared.stop.Stop.{Stop}
use Rattle.consume_node.specs.declared.stop.Stop.TheVariants.{LinkFault, BadAnswer, BadReply, StoreFault as KeeperFault, BadMark, WriteFault, NoMemory}
use Rattle.consume_node.specs.Polls.{Poll, port_of, line_of, lines_of, with_polls, IsPoll, Polls, AreTrue}
use Rattle.consume_node.specs.Runs.{Unheard, Misled, Unlawful, Unstored, Starved}

-- ---- faults

abbrev pub exchange_stop : ExchangeFault → Stop
exchange_stop exchanges.LinkFault = LinkFault
exchange_stop exchanges.BadAnswer = BadAnswer
exchange_stop exchanges.NoMemory = NoMemory

abbrev pub open_stop : ClientOpen → Stop
open_stop opens.BadMark = BadMark
open_stop opens.StoreFault = KeeperFault
open_stop opens.NoMemory = NoMemory

abbrev pub store_stop : StoreFault → Stop
store_stop stores.Failed = KeeperFault
store_stop stores.NoMemory = NoMemory

abbrev pub stop_status : Stop → NodeStatus
stop_status LinkFault = statuses.LinkFault
stop_status BadAnswer = statuses.BadAnswer
stop_status (BadReply place) = statuses.BadReply place
stop_status KeeperFault = statuses.StoreFault
stop_status BadMark = statuses.BadMark
stop_status WriteFault = statuses.WriteFault
stop_status NoMemory = statuses.NoMemory

abbrev pub end_status : Result Unit Stop → NodeStatus
end_status (Ok u) = statuses.Done
end_status (Err stop) = stop_status stop

-- ---- replies

-- what a keeper tells after a call it told before
abbrev pub TellsFrom : KeeperState → KeeperState → Type 0
TellsFrom before after = IfSome after.content (λ c. is_some before.content ≡ true)

-- where these bytes as a reply are true of a timeline, rows and mark that are good for it stay good
abbrev pub KeepsTrue : ℕ → Held → Ask → List ℕ → KeeperState → KeeperState → Type 0
KeepsTrue most c ask bytes k k' = (ws : List Span) → IsTimeline ws → HoldsGood ws (test_of c.filter) c.mark k
    → AreTrueOf ws (test_of c.filter) (asks c most) ask bytes → KeepsGood ws (test_of c.filter) k'

-- a reply was taken, and its line was lost for want of memory
pub record Loses (c : Held) (ask : Ask) (bytes : List ℕ) (k k' : KeeperState) : Type 0 where
  pub took : Took
  pub client : Held
  pub taken : TakesIt took c client ask bytes k k' None None
  pub keeps : Keeps k c.mark → Keeps k' client.mark

-- why a reply wasn't taken, or gave no line
abbrev pub Untaken : Stop → Held → Ask → List ℕ → KeeperState → KeeperState → Type 0
Untaken (BadReply place) c ask bytes k k' = RefusesReply place c c ask bytes k k' None None
Untaken KeeperFault c ask bytes k k' = (c' : Held) × Halts c c' ask bytes k k' None None
Untaken NoMemory c ask bytes k k' = SameStore k k' ⊎ Loses c ask bytes k k'
Untaken LinkFault c ask bytes k k' = ⊥
Untaken BadAnswer c ask bytes k k' = ⊥
Untaken BadMark c ask bytes k k' = ⊥
Untaken WriteFault c ask bytes k k' = ⊥

-- it was, or not
abbrev pub Takes : Result Took Stop → Held → Held → Ask → List ℕ → KeeperState → KeeperState → Type 0
Takes (Ok took) c c' ask bytes k k' = TakesIt took c c' ask bytes k k' None None
Takes (Err stop) c c' ask bytes k k' = Untaken stop c ask bytes k k'

-- it was taken, and this is its line
pub record Prints (c c' : Held) (ask : Ask) (bytes : List ℕ) (k k' : KeeperState) (text : List ℕ) : Type 0 where
  pub took : Took
  pub taken : TakesIt took c c' ask bytes k k' None None
  pub is : text ≡ reply_line (stage_of c.mark) took.shape (length bytes)

abbrev pub Settles : Result (String Global) Stop → Held → Held → Ask → List ℕ → KeeperState → KeeperState → Type 0
Settles (Ok text) c c' ask bytes k k' = Prints c c' ask bytes k k' (string_bytes text)
Settles (Err stop) c c' ask bytes k k' = Untaken stop c ask bytes k k'

-- ---- polls

module _ {P : Type 0} (given left written : P → Option (List ℕ)) (relay bootstrap most : ℕ) where
  -- a poll was made, and this is its line
  pub record Gives (c : Held) (k : KeeperState) (told : Option (Told P)) (c' : Held) (k' : KeeperState) (told' : Option (Told P)) (text : List ℕ) : Type 0 where
    pub poll : Poll P
    pub is : IsPoll given left written most c k poll
    pub client : c' ≡ poll.client
    pub keeper : k' ≡ poll.keeper
    pub linked : told' ≡ option_map (with_exchange (port_of relay bootstrap poll.ask) poll.peer) told
    pub line : text ≡ line_of c.mark poll

  -- or not
  abbrev pub Misses : Stop → Held → KeeperState → Option (Told P) → KeeperState → Option (Told P) → Type 0
  Misses LinkFault c k told k' told' = Unheard given left written relay bootstrap most c k told k' told'
  Misses BadAnswer c k told k' told' = Misled given left written relay bootstrap most c k told k' told'
  Misses (BadReply place) c k told k' told' = Unlawful given left written relay bootstrap most place c k told k' told'
  Misses KeeperFault c k told k' told' = Unstored given left written relay bootstrap most c k told k' told'
  Misses BadMark c k told k' told' = ⊥
  Misses WriteFault c k told k' told' = ⊥
  Misses NoMemory c k told k' told' = Starved given left written relay bootstrap most c k told k' told'

  abbrev pub Polled : Result (String Global) Stop → Held → KeeperState → Option (Told P) → Held → KeeperState → Option (Told P) → Type 0
  Polled (Ok text) c k told c' k' told' = Gives c k told c' k' told' (string_bytes text)
  Polled (Err stop) c k told c' k' told' = Misses stop c k told k' told'

  -- a poll was made, and a front of its line was written
  pub record Cuts (c : Held) (k : KeeperState) (told : Option (Told P)) (out : Option (List ℕ)) (k' : KeeperState) (told' : Option (Told P)) (out' : Option (List ℕ)) : Type 0 where
    pub client : Held
    pub text : List ℕ
    pub gives : Gives c k told client k' told' text
    pub count : ℕ
    pub wrote : Appends out out' (take count text)

  -- how polls end before they are all made: no poll, or no line
  pub record Lacks (stop : Stop) (c : Held) (k : KeeperState) (told : Option (Told P)) (out : Option (List ℕ)) (k' : KeeperState) (told' : Option (Told P)) (out' : Option (List ℕ)) : Type 0 where
    pub misses : Misses stop c k told k' told'
    pub same : out' ≡ out

  abbrev pub Fails : Stop → Held → KeeperState → Option (Told P) → Option (List ℕ) → KeeperState → Option (Told P) → Option (List ℕ) → Type 0
  Fails WriteFault c k told out k' told' out' = Cuts c k told out k' told' out'
  Fails LinkFault c k told out k' told' out' = Lacks LinkFault c k told out k' told' out'
  Fails BadAnswer c k told out k' told' out' = Lacks BadAnswer c k told out k' told' out'
  Fails (BadReply place) c k told out k' told' out' = Lacks (BadReply place) c k told out k' told' out'
  Fails KeeperFault c k told out k' told' out' = Lacks KeeperFault c k told out k' told' out'
  Fails BadMark c k told out k' told' out' = ⊥
  Fails NoMemory c k told out k' told' out' = Lacks NoMemory c k told out k' told' out'

  -- a poll was made and its line was written
  pub record Turns (c : Held) (k : KeeperState) (told : Option (Told P)) (out : Option (List ℕ)) (c' : Held) (k' : KeeperState) (told' : Option (Told P)) (out' : Option (List ℕ)) : Type 0 where
    pub text : List ℕ
    pub gives : Gives c k told c' k' told' text
    pub wrote : Appends out out' text

  abbrev pub Turned : Result Unit Stop → Held → KeeperState → Option (Told P) → Option (List ℕ) → Held → KeeperState → Option (Told P) → Option (List ℕ) → Type 0
  Turned (Ok u) c k told out c' k' told' out' = Turns c k told out c' k' told' out'
  Turned (Err stop) c k told out c' k' told' out' = Fails stop c k told out k' told' out'

  -- so many polls were made from a client and a keeper on, and left them so
  pub record Came (c : Held) (k : KeeperState) (told : Option (Told P)) (count : ℕ) (c' : Held) (k' : KeeperState) (told' : Option (Told P)) : Type 0 where
    pub polls : List (Poll P)
    pub made : Polls given left written most c k polls c' k'
    pub counted : length polls ≡ count
    pub linked : told' ≡ option_map (with_polls relay bootstrap polls) told
    pub filter : c'.filter ≡ c.filter
    pub good : (ws : List Span) → IsTimeline ws → HoldsGood ws (test_of c.filter) c.mark k
        → AreTrue ws (test_of c.filter) most c polls → HoldsGood ws (test_of c.filter) c'.mark k'

  -- and their lines were written
  pub record Reached (c : Held) (k : KeeperState) (told : Option (Told P)) (out : Option (List ℕ)) (count : ℕ) (c' : Held) (k' : KeeperState) (told' : Option (Told P)) (out' : Option (List ℕ)) : Type 0 where
    pub came : Came c k told count c' k' told'
    pub wrote : Appends out out' (lines_of c.mark came.polls)

  -- and then they ended so
  pub record Halted (stop : Stop) (c : Held) (k : KeeperState) (told : Option (Told P)) (out : Option (List ℕ)) (count : ℕ) (k' : KeeperState) (told' : Option (Told P)) (out' : Option (List ℕ)) : Type 0 where
    pub client : Held
    pub keeper : KeeperState
    pub between : Option (Told P)
    pub so_far : Option (List ℕ)
    pub some : ℕ
    pub fewer : some + 1 ≤ count
    pub reached : Reached c k told out some client keeper between so_far
    pub fails : Fails stop client keeper between so_far k' told' out'

  abbrev pub Made : Result Unit Stop → Held → KeeperState → Option (Told P) → Option (List ℕ) → ℕ → Held → KeeperState → Option (Told P) → Option (List ℕ) → Type 0
  Made (Ok u) c k told out count c' k' told' out' = Reached c k told out count c' k' told' out'
  Made (Err stop) c k told out count c' k' told' out' = Halted stop c k told out count k' told' out'
