-- What a consumer has done when it ends, by its status.
use Rattle.std.specs.Prelude.{◌≡◌, ℕ, ◌+◌, ◌≤◌, ◌⊎◌, false, List, [], ◌++◌, length, take, Option, None, option_map, IfSome}
use Rattle.std.specs.Io.KnownBytes.{Appends}
use Rattle.bus_types.specs.Window.{Span}
use Rattle.bus_types.specs.Timeline.{IsTimeline}
use Rattle.bus_types.specs.Table.{RowList}
use Rattle.bus_link.specs.Links.{Told}
use Rattle.bus_stores.specs.Keeper.{KeeperState, SameStore}
use Rattle.bus_wire.specs.declared.ask.Ask.{Ask}
use Rattle.partition_filter.specs.Selection.{Selection, test_of}
use Rattle.checkpoint.specs.declared.mark.Mark.{Mark}
use Rattle.client_switch.specs.Moves.Wish.{NoWish}
use Rattle.client_switch.specs.Client.{Held, IsStored, Keeps, IsAskOf, asks, RefusesReply, Halts, HoldsGood, KeepsGood, AreTrueOf}
use Rattle.consumer_lines.specs.Shown.{shown_text}
use Rattle.bus_node.specs.Exchange.{with_exchange, Exchanged, HandedBack, IsAnswered, IsMisanswered}
use Rattle.bus_node.specs.declared.words.ConsumeWords.{ConsumeWords}
use Rattle.bus_node.specs.declared.status.NodeStatus.{NodeStatus}
use Rattle.bus_node.specs.declared.status.NodeStatus.TheVariants.{Done, Usage, BadLine, ReadFault, WriteFault, NoMemory, TooLong, LinkFault, StoreFault, WrongWord, BadAnswer, BadReply, BadMark, Ahead, Hole}
use Rattle.consume_node.specs.Polls.{Poll, port_of, lines_of, with_polls, IsPoll, Polls, AreTrue}

-- a client that was just opened
abbrev pub opened : Selection → Mark → Held
opened filter mark = record { filter = filter; mark = mark; wish = NoWish; halted = false }

-- what is shown at a mark: of who is online the rows that its keeper holds, where it tells them
pub record Shows (name : List ℕ) (mark : Mark) (keeper : KeeperState) (text : List ℕ) : Type 0 where
  pub rows : RowList
  pub read : IfSome keeper.content (λ c. rows ≡ c.rows)
  pub is : text ≡ shown_text name mark rows

-- ---- the poll that it ended in

-- at most one connection more was made, to the relay or to the bootstrap, and the link took it back
abbrev pub Tried : {P : Type 0} → ℕ → ℕ → Option (Told P) → Option (Told P) → Type 0
Tried {P} relay bootstrap before after = HandedBack P relay before after ⊎ HandedBack P bootstrap before after

-- each is a relation of the client, its keeper and what the link tells behind the polls before, and of keeper and link at the end
module _ {P : Type 0} (given left written : P → Option (List ℕ)) (relay bootstrap most : ℕ) where
  -- there was no answer
  pub record Unheard (c : Held) (k : KeeperState) (told : Option (Told P)) (k' : KeeperState) (told' : Option (Told P)) : Type 0 where
    pub tried : Tried relay bootstrap told told'
    pub same : k' ≡ k

  -- what the client asks was written to a connection, and what that gave is no answer
  pub record Misled (c : Held) (k : KeeperState) (told : Option (Told P)) (k' : KeeperState) (told' : Option (Told P)) : Type 0 where
    pub ask : Ask
    pub asked : IsAskOf c.filter (asks c most) ask
    pub exchanged : Exchanged P (IsMisanswered given left written ask) (port_of relay bootstrap ask) told told'
    pub same : k' ≡ k

  -- what the client asks was written to a connection, that gave an answer, and its body is no lawful reply: the place is that of
  -- its first item that can't stand
  pub record Unlawful (place : ℕ) (c : Held) (k : KeeperState) (told : Option (Told P)) (k' : KeeperState) (told' : Option (Told P)) : Type 0 where
    pub ask : Ask
    pub body : List ℕ
    pub asked : IsAskOf c.filter (asks c most) ask
    pub exchanged : Exchanged P (IsAnswered given left written ask body) (port_of relay bootstrap ask) told told'
    pub refused : RefusesReply place c c ask body k k' None None

  -- likewise, and its body is a lawful reply, whose commit failed: the keeper is as before it or as after it. Where the reply is true
  -- of a timeline, rows and mark that are good for the timeline stay so
  pub record Unstored (c : Held) (k : KeeperState) (told : Option (Told P)) (k' : KeeperState) (told' : Option (Told P)) : Type 0 where
    pub ask : Ask
    pub body : List ℕ
    pub asked : IsAskOf c.filter (asks c most) ask
    pub exchanged : Exchanged P (IsAnswered given left written ask body) (port_of relay bootstrap ask) told told'
    pub client : Held
    pub halts : Halts c client ask body k k' None None
    pub good : (ws : List Span) → IsTimeline ws → HoldsGood ws (test_of c.filter) c.mark k
        → AreTrueOf ws (test_of c.filter) (asks c most) ask body → KeepsGood ws (test_of c.filter) k'

  -- a poll was made
  pub record Makes (c : Held) (k : KeeperState) (told : Option (Told P)) (k' : KeeperState) (told' : Option (Told P)) : Type 0 where
    pub poll : Poll P
    pub is : IsPoll given left written most c k poll
    pub keeper : k' ≡ poll.keeper
    pub linked : told' ≡ option_map (with_exchange (port_of relay bootstrap poll.ask) poll.peer) told

  -- memory ran out before a reply was taken; or behind that, and its line was not written
  abbrev pub Starved : Held → KeeperState → Option (Told P) → KeeperState → Option (Told P) → Type 0
  Starved c k told k' told' = (Tried relay bootstrap told told' × SameStore k k') ⊎ Makes c k told k' told'

-- ---- the run

-- nothing was opened
pub record Unopened {P : Type 0} (before after : KeeperState) (told told' : Option (Told P)) (out out' : Option (List ℕ)) : Type 0 where
  pub keeper : SameStore before after
  pub link : told' ≡ told
  pub output : out' ≡ out

-- the stored text is no mark's, where the keeper tells it
abbrev pub HasNoMark : KeeperState → Type 0
HasNoMark keeper = IfSome keeper.content (λ c. (mark : Mark) → IsStored c.mark mark → ⊥)

module _ {P : Type 0} (given left written : P → Option (List ℕ)) (words : ConsumeWords) where
  -- its client was opened over its keeper, at this mark, and made these polls, which left client and keeper so. Where each reply
  -- is true of a timeline, rows and mark that are good for the timeline stay so
  pub record Ran (before : KeeperState) (told told' : Option (Told P)) (c : Held) (k : KeeperState) : Type 0 where
    pub mark : Mark
    pub start : KeeperState
    pub polls : List (Poll P)
    pub same : SameStore before start
    pub stored : Keeps start mark
    pub made : Polls given left written words.max (opened words.filter mark) start polls c k
    pub few : length polls ≤ words.polls
    pub linked : told' ≡ option_map (with_polls words.relay words.bootstrap polls) told
    pub good : (ws : List Span) → IsTimeline ws → KeepsGood ws (test_of words.filter) before
        → AreTrue ws (test_of words.filter) words.max (opened words.filter mark) polls → HoldsGood ws (test_of words.filter) c.mark k

  -- it made all its polls; the line of each was written, and then what the keeper holds was shown
  pub record IsDone (before after : KeeperState) (told told' : Option (Told P)) (out out' : Option (List ℕ)) : Type 0 where
    pub client : Held
    pub keeper : KeeperState
    pub ran : Ran before told told' client keeper
    pub all : length ran.polls ≡ words.polls
    pub same : SameStore keeper after
    pub text : List ℕ
    pub shown : Shows words.name client.mark after text
    pub wrote : Appends out out' (lines_of ran.mark ran.polls ++ text)

  -- it made these polls, and the line of each was written; then it ended so in the next one
  pub record Stopped (Last : Held → KeeperState → Option (Told P) → KeeperState → Option (Told P) → Type 0)
      (before after : KeeperState) (told told' : Option (Told P)) (out out' : Option (List ℕ)) : Type 0 where
    pub client : Held
    pub keeper : KeeperState
    pub between : Option (Told P)
    pub ran : Ran before told between client keeper
    pub fewer : length ran.polls + 1 ≤ words.polls
    pub wrote : Appends out out' (lines_of ran.mark ran.polls)
    pub last : Last client keeper between after told'

  -- it made all its polls, and the line of each was written; then it read the keeper, and showed nothing
  pub record Unshown (before after : KeeperState) (told told' : Option (Told P)) (out out' : Option (List ℕ)) : Type 0 where
    pub client : Held
    pub keeper : KeeperState
    pub ran : Ran before told told' client keeper
    pub all : length ran.polls ≡ words.polls
    pub same : SameStore keeper after
    pub wrote : Appends out out' (lines_of ran.mark ran.polls)

  -- it made these polls, and a front was written of their lines and, where they were all, of what was shown then
  pub record Broken (before after : KeeperState) (told told' : Option (Told P)) (out out' : Option (List ℕ)) : Type 0 where
    pub client : Held
    pub keeper : KeeperState
    pub ran : Ran before told told' client keeper
    pub same : SameStore keeper after
    pub text : List ℕ
    pub shown : (text ≡ []) ⊎ ((length ran.polls ≡ words.polls) × Shows words.name client.mark after text)
    pub count : ℕ
    pub wrote : Appends out out' (take count (lines_of ran.mark ran.polls ++ text))

  -- it ended so in a poll, before its client was opened, or behind all polls
  abbrev pub IsCutOff : (Held → KeeperState → Option (Told P) → KeeperState → Option (Told P) → Type 0) → KeeperState → KeeperState → Option (Told P) → Option (Told P) → Option (List ℕ) → Option (List ℕ) → Type 0
  IsCutOff Last before after told told' out out' = Unopened before after told told' out out' ⊎ (Stopped Last before after told told' out out' ⊎ Unshown before after told told' out out')

  -- what it has done when it ends with a status; no other status comes
  abbrev pub Ended : NodeStatus → KeeperState → KeeperState → Option (Told P) → Option (Told P) → Option (List ℕ) → Option (List ℕ) → Type 0
  Ended Done before after told told' out out' = IsDone before after told told' out out'
  Ended LinkFault before after told told' out out' = Stopped (Unheard given left written words.relay words.bootstrap words.max) before after told told' out out'
  Ended BadAnswer before after told told' out out' = Stopped (Misled given left written words.relay words.bootstrap words.max) before after told told' out out'
  Ended (BadReply place) before after told told' out out' = Stopped (Unlawful given left written words.relay words.bootstrap words.max place) before after told told' out out'
  Ended StoreFault before after told told' out out' = IsCutOff (Unstored given left written words.relay words.bootstrap words.max) before after told told' out out'
  Ended BadMark before after told told' out out' = Unopened before after told told' out out' × HasNoMark after
  Ended WriteFault before after told told' out out' = Broken before after told told' out out'
  Ended NoMemory before after told told' out out' = IsCutOff (Starved given left written words.relay words.bootstrap words.max) before after told told' out out'
  Ended Usage before after told told' out out' = ⊥
  Ended (BadLine line) before after told told' out out' = ⊥
  Ended ReadFault before after told told' out out' = ⊥
  Ended (TooLong line) before after told told' out out' = ⊥
  Ended (WrongWord line) before after told told' out out' = ⊥
  Ended (Ahead applied high) before after told told' out out' = ⊥
  Ended (Hole base floor) before after told told' out out' = ⊥
