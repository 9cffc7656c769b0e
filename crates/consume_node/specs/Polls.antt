-- The polls of a consumer, one after another.
use Rattle.std.specs.Prelude.{◌≡◌, ℕ, List, [], ◌∷◌, ◌++◌, length, map, Option, None}
use Rattle.bus_types.specs.Change.{Test}
use Rattle.bus_types.specs.Window.{Span}
use Rattle.bus_types.specs.Timeline.{IsTimeline}
use Rattle.bus_link.specs.Links.{Told}
use Rattle.bus_stores.specs.Keeper.{KeeperState}
use Rattle.bus_wire.specs.declared.ask.Ask.{Ask}
use Rattle.bus_wire.specs.declared.ask.Ask.TheVariants.{Stream, Start, Scan, Target, Catchup, Delta}
use Rattle.partition_filter.specs.Selection.{test_of}
use Rattle.checkpoint.specs.declared.mark.Mark.{Mark}
use Rattle.client_switch.specs.declared.client.Took.{Took}
use Rattle.client_switch.specs.Client.{Held, IsAskOf, asks, TakesIt, HoldsGood, AreTrueOf}
use Rattle.trace_script.specs.Printed.{reply_line}
use Rattle.consumer_lines.specs.Shown.{stage_of}
use Rattle.bus_node.specs.Exchange.{IsAnswered}

-- one poll: what was asked, the connection as the link took it back, the body of the answer, what the client took it for, and
-- the client and its keeper behind it
pub record Poll (P : Type 0) : Type 0 where
  pub ask : Ask
  pub peer : P
  pub body : List ℕ
  pub took : Took
  pub client : Held
  pub keeper : KeeperState

-- the port that an ask goes to: a relay's for a stream, and a bootstrap's for every other one
abbrev pub port_of : ℕ → ℕ → Ask → ℕ
port_of relay bootstrap (Stream scn filter max) = relay
port_of relay bootstrap (Start since fresh) = bootstrap
port_of relay bootstrap (Scan start cursor filter max) = bootstrap
port_of relay bootstrap (Target start atleast) = bootstrap
port_of relay bootstrap (Catchup at target filter max) = bootstrap
port_of relay bootstrap (Delta since target cursor filter max) = bootstrap

-- what is printed of a poll, by the mark before it
abbrev pub line_of : {P : Type 0} → Mark → Poll P → List ℕ
line_of mark p = reply_line (stage_of mark) p.took.shape (length p.body)

-- what is printed of polls from a mark on
abbrev pub lines_of : {P : Type 0} → Mark → List (Poll P) → List ℕ
lines_of mark [] = []
lines_of mark (p ∷ ps) = line_of mark p ++ lines_of p.client.mark ps

-- what a link tells behind polls: it connected to the port of each ask, and took each connection back
abbrev pub with_polls : {P : Type 0} → ℕ → ℕ → List (Poll P) → Told P → Told P
with_polls {P} relay bootstrap ps t = record t {
  ports = t.ports ++ map (λ (p : Poll P). port_of relay bootstrap p.ask) ps;
  hung_up = t.hung_up ++ map (λ (p : Poll P). p.peer) ps;
}

module _ {P : Type 0} (given left written : P → Option (List ℕ)) (most : ℕ) where
  -- a poll from this client and keeper on: what the client asks for at most so many bytes was written to a connection, it gave an
  -- answer with this body, and the client took that as a lawful reply. Where the reply is true of a timeline, rows and mark that
  -- are good for the timeline stay so
  pub record IsPoll (c : Held) (k : KeeperState) (p : Poll P) : Type 0 where
    pub asked : IsAskOf c.filter (asks c most) p.ask
    pub answered : IsAnswered given left written p.ask p.body p.peer
    pub taken : TakesIt p.took c p.client p.ask p.body k p.keeper None None
    pub good : (ws : List Span) → IsTimeline ws → HoldsGood ws (test_of c.filter) c.mark k
        → AreTrueOf ws (test_of c.filter) (asks c most) p.ask p.body → HoldsGood ws (test_of c.filter) p.client.mark p.keeper

  -- one poll after another, which leave client and keeper so
  abbrev pub Polls : Held → KeeperState → List (Poll P) → Held → KeeperState → Type 0
  Polls c k [] c' k' = (c' ≡ c) × (k' ≡ k)
  Polls c k (p ∷ ps) c' k' = IsPoll c k p × Polls p.client p.keeper ps c' k'

-- each reply of the polls of a client is true of a timeline
abbrev pub AreTrue : {P : Type 0} → List Span → Test → ℕ → Held → List (Poll P) → Type 0
AreTrue ws test most c [] = Unit {0}
AreTrue ws test most c (p ∷ ps) = AreTrueOf ws test (asks c most) p.ask p.body × AreTrue ws test most p.client ps
