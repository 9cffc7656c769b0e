-- What a keeper holds from call to call.
use Rattle.std.proofs.Common.{◌≡◌, ℕ, ◌≤◌, Bool, true, false, inl, inr, List, [], Option, Some, None, Result, Ok, Err, true≢false, refl, sym, ap, subst, ◌∙◌, arith}
use Rattle.std.specs.Prelude.{if◌then◌else◌, option_map, is_some, IfSome}
use Rattle.bus_types.specs.Change.{Test}
use Rattle.bus_types.specs.Window.{Span}
use Rattle.bus_types.specs.Table.{RowList}
use Rattle.checkpoint.specs.declared.mark.Mark.{Mark}
use Rattle.checkpoint.specs.Mark.{floor_of}
use Rattle.checkpoint.proofs.ReadBack.{one_mark}
use Rattle.bus_wire.specs.declared.ask.Ask.{Ask}
use Rattle.bus_stores.specs.declared.keeper.Stop.TheVariants.{Before, After}
use Rattle.bus_stores.specs.Keeper.{KeeperState, Content, Move, TellsOnly, SameStore, content_after}
use Rattle.bus_stores.proofs.Held.{told_on, tells_itself as tells_themselves}
use Rattle.dispatcher.specs.Callbacks.{Call}
use Rattle.client_switch.specs.declared.client.Took.{Took}
use Rattle.client_switch.specs.declared.fault.TakeFault.{TakeFault}
use Rattle.client_switch.specs.declared.fault.TakeFault.TheVariants.{Halted, BadReply, Refused, StoreFault, NoMemory}
use Rattle.client_switch.specs.Moves.{turn}
use Rattle.client_switch.specs.Good.{Good}
use Rattle.client_switch.specs.Client.{Held, IsStored, Keeps, move_of_turn, Made, Unmade, Takes, FloorKept, HoldsGood, KeepsGood}
use Rattle.consumer_lines.specs.Shown.{shown_text}
use Rattle.consume_node.specs.Runs.{Shows}
use Rattle.consume_node.specs.Failing.{TellsFrom}

pub same_itself : (state : KeeperState) → SameStore state state
same_itself state = record { content = tells_themselves state.content; stops = refl }

-- ---- what it tells it told before

told_same : (a b : Option Content) → TellsOnly a b → IfSome b (λ c. is_some a ≡ true)
told_same a None tells = tt
told_same a (Some c) tells = ap is_some tells

told_moved : (f : Content → Content) (a b : Option Content) → TellsOnly (option_map f a) b → IfSome b (λ c. is_some a ≡ true)
told_moved f a None tells = tt
told_moved f None (Some c) tells = absurd (cc)
told_moved f (Some x) (Some c) tells = refl

told_through : (a b c : Option Content) → IfSome b (λ x. is_some a ≡ true) → IfSome c (λ x. is_some b ≡ true) → IfSome c (λ x. is_some a ≡ true)
told_through a b None one two = tt
told_through a None (Some z) one two = absurd (true≢false (sym two))
told_through a (Some y) (Some z) one two = one

pub tells_same : (old new : KeeperState) → SameStore old new → TellsFrom old new
tells_same old new same = told_same old.content new.content same.content

pub tells_itself : (state : KeeperState) → TellsFrom state state
tells_itself state = told_itself state.content where
  told_itself : (o : Option Content) → IfSome o (λ c. is_some o ≡ true)
  told_itself None = tt
  told_itself (Some c) = refl

pub tells_on : (old mid new : KeeperState) → TellsFrom old mid → TellsFrom mid new → TellsFrom old new
tells_on old mid new one two = told_through old.content mid.content new.content one two

tells_made : (b : Bool) (m : Move) (old new : KeeperState) → Made (if b then Some m else None) old new → TellsFrom old new
tells_made true m old new made = told_moved (content_after None m) old.content new.content made.content
tells_made false m old new made = tells_same old new made

tells_unmade : (b : Bool) (m : Move) (old new : KeeperState) → Unmade (if b then Some m else None) old new → TellsFrom old new
tells_unmade true m old new (inl met) = told_moved (content_after (Some Before) m) old.content new.content met.content
tells_unmade true m old new (inr met) = told_moved (content_after (Some After) m) old.content new.content met.content
tells_unmade false m old new unmade = absurd unmade

-- whatever a client makes of a reply
pub tells_taken : (result : Result Took TakeFault) (old new : Held) (ask : Ask) (bytes : List ℕ) (kept keeps : KeeperState) (before after : Option (List Call)) → Takes result old new ask bytes kept keeps before after → TellsFrom kept keeps
tells_taken (Ok took) old new ask bytes kept keeps before after takes = tells_made (turn old.mark takes.reply).commits (move_of_turn (turn old.mark takes.reply)) kept keeps takes.made
tells_taken (Err Halted) old new ask bytes kept keeps before after takes = tells_same kept keeps takes.keeper
tells_taken (Err (BadReply place)) old new ask bytes kept keeps before after takes = tells_same kept keeps takes.nothing.keeper
tells_taken (Err (Refused scn)) old new ask bytes kept keeps before after takes = tells_same kept keeps takes.keeper
tells_taken (Err StoreFault) old new ask bytes kept keeps before after takes = tells_unmade (turn old.mark takes.reply).commits (move_of_turn (turn old.mark takes.reply)) kept keeps takes.unmade
tells_taken (Err NoMemory) old new ask bytes kept keeps before after takes = tells_same kept keeps takes.keeper

-- in want of memory it is as it was
pub short_same : (old new : Held) (ask : Ask) (bytes : List ℕ) (kept keeps : KeeperState) (before after : Option (List Call)) → Takes (Err NoMemory) old new ask bytes kept keeps before after → SameStore kept keeps
short_same old new ask bytes kept keeps before after takes = takes.keeper

-- ---- the floor of its mark

-- one text is that of one mark
one_stored : (text : Option (List ℕ)) (m n : Mark) → IsStored text m → IsStored text n → m ≡ n
one_stored None m n one two = one ∙ sym two
one_stored (Some text) m n one two = one_mark m n one.0 two.0 (sym one.1 ∙ two.1)

floor_in : (o : Option Content) (before after : Mark) → IfSome o (λ c. IsStored c.mark before) → IfSome o (λ c. IsStored c.mark after) → IfSome o (λ c. floor_of before ≤ floor_of after)
floor_in None before after one two = tt
floor_in (Some c) before after one two = omega (arith, ap floor_of (one_stored c.mark before after one two))

pub floor_same : (old new : KeeperState) → SameStore old new → FloorKept old new
floor_same old new same before after one two = floor_in new.content before after (told_on (λ c. IsStored c.mark before) old.content new.content same.content one) two

pub floor_itself : (state : KeeperState) → FloorKept state state
floor_itself state before after one two = floor_in state.content before after one two

floor_through : (a b : Option Content) (m n o : ℕ) → IfSome b (λ x. is_some a ≡ true) → IfSome a (λ x. m ≤ n) → IfSome b (λ x. n ≤ o) → IfSome b (λ x. m ≤ o)
floor_through a None m n o tells low high = tt
floor_through None (Some y) m n o tells low high = absurd (true≢false (sym tells))
floor_through (Some x) (Some y) m n o tells low high = omega (arith, low, high)

-- of one call behind another, where this mark is stored between them
pub floor_on : (old mid new : KeeperState) (mark : Mark) → FloorKept old mid → Keeps mid mark → FloorKept mid new → TellsFrom mid new → FloorKept old new
floor_on old mid new mark one stored two tells before after first last =
    floor_through mid.content new.content (floor_of before) (floor_of mark) (floor_of after) tells (one before mark first stored) (two mark after stored last)

-- ---- rows and mark together

module _ (ws : List Span) (test : Test) where
  good_at : (o : Option Content) (mark : Mark) → IfSome o (λ c. IsStored c.mark mark) → IfSome o (λ c. (m : Mark) × IsStored c.mark m × Good ws test m c.rows) → IfSome o (λ c. IsStored c.mark mark × Good ws test mark c.rows)
  good_at None mark stored good = tt
  good_at (Some c) mark stored good = (stored, subst (λ m. Good ws test m c.rows) (one_stored c.mark good.0 mark good.1 stored) good.2)

  -- by the mark that is stored
  pub good_stored : (state : KeeperState) (mark : Mark) → Keeps state mark → KeepsGood ws test state → HoldsGood ws test mark state
  good_stored state mark stored good = good_at state.content mark stored good

  pub good_same : (old new : KeeperState) → SameStore old new → KeepsGood ws test old → KeepsGood ws test new
  good_same old new same good = told_on (λ c. (m : Mark) × IsStored c.mark m × Good ws test m c.rows) old.content new.content same.content good

-- ---- what is shown

rows_in : Option Content → RowList
rows_in None = []
rows_in (Some c) = c.rows

read_in : (o : Option Content) → IfSome o (λ c. rows_in o ≡ c.rows)
unfolding rows_in
read_in None = tt
read_in (Some c) = refl

-- a text that is shown whatever the rows
pub shows_any : (name : List ℕ) (mark : Mark) (keeper : KeeperState) (text : List ℕ) → ((rows : RowList) → text ≡ shown_text name mark rows) → Shows name mark keeper text
shows_any name mark keeper text any = record { rows = rows_in keeper.content; read = read_in keeper.content; is = any (rows_in keeper.content) }
