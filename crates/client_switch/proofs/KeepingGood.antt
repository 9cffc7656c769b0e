-- A keeper's rows and mark stay good together.
use Rattle.std.proofs.Common.{ℕ, Bool, true, false, inl, inr, List, Option, Some, None, Result, Ok, Err, refl, subst}
use Rattle.std.specs.Prelude.{if◌then◌else◌, option_map, IfSome}
use Rattle.bus_types.specs.Change.{Test}
use Rattle.bus_types.specs.Window.{Span}
use Rattle.bus_types.specs.Timeline.{IsTimeline}
use Rattle.bus_types.specs.Table.{RowList}
use Rattle.event_codec.specs.declared.reply.Shape.{Shape}
use Rattle.checkpoint.specs.declared.mark.Mark.{Mark}
use Rattle.checkpoint.specs.Mark.{IsMark}
use Rattle.bus_wire.specs.declared.ask.Ask.{Ask}
use Rattle.bus_wire.specs.Lawful.{IsLawful}
use Rattle.bus_stores.specs.Keeper.{KeeperState, Content, TellsOnly, content_after}
use Rattle.bus_stores.proofs.Held.{told_on}
use Rattle.dispatcher.specs.Callbacks.{Call}
use Rattle.client_switch.specs.declared.client.Took.{Took}
use Rattle.client_switch.specs.declared.fault.TakeFault.{TakeFault}
use Rattle.client_switch.specs.declared.fault.TakeFault.TheVariants.{Halted, BadReply, Refused, StoreFault, NoMemory}
use Rattle.event_codec.specs.Questions.{Reply}
use Rattle.client_switch.specs.Moves.{Turn, turn, rows_left}
use Rattle.client_switch.specs.Good.{Good}
use Rattle.client_switch.specs.Client.{Held, IsStored, IsAskOf, asks, IsReply, move_of_turn, Made, Unmade, Takes, KeepsGood, HoldsGood, AreTrueOf}
use Rattle.client_switch.specs.Turning.{CanStand}
use Rattle.client_switch.proofs.Coming.{can_come}
use Rattle.client_switch.proofs.Turns.{lawful}
use Rattle.client_switch.proofs.Keeping.{floor_same, same_content, after_content}
use Rattle.client_switch.proofs.GoodTurn.{good_turn}

module _ (ws : List Span) (test : Test) where
  -- rows and a stored mark that are good
  abbrev IsGood : Content → Type 0
  IsGood c = (mark : Mark) × IsStored c.mark mark × Good ws test mark c.rows

  abbrev AreGood : Option Content → Type 0
  AreGood o = IfSome o IsGood

  abbrev AreGoodAt : Mark → Option Content → Type 0
  AreGoodAt mark o = IfSome o (λ c. IsStored c.mark mark × Good ws test mark c.rows)

  -- where a turn leads, good rows are good
  abbrev LeavesGood : Mark → Turn → Type 0
  LeavesGood mark t = (rows : RowList) → Good ws test mark rows → Good ws test t.mark (rows_left rows t)

  good_in : (o : Option Content) (mark : Mark) → AreGoodAt mark o → AreGood o
  good_in None mark good = tt
  good_in (Some c) mark good = (mark, good.0, good.1)

  good_after : (o : Option Content) (mark : Mark) (t : Turn) → IsMark t.mark → LeavesGood mark t → AreGoodAt mark o → AreGood (option_map (content_after None (move_of_turn t)) o)
  good_after None mark t is leaves good = tt
  good_after (Some c) mark t is leaves good = (t.mark, (is, refl), leaves c.rows good.1)

  good_still : (mark : Mark) (old new : KeeperState) → TellsOnly old.content new.content → HoldsGood ws test mark old → KeepsGood ws test new
  good_still mark old new same good = told_on IsGood old.content new.content same (good_in old.content mark good)

  pub good_same : (mark : Mark) (state : KeeperState) → HoldsGood ws test mark state → KeepsGood ws test state
  good_same mark state good = good_in state.content mark good

  good_moved : (mark : Mark) (t : Turn) (old new : KeeperState) → IsMark t.mark → LeavesGood mark t → TellsOnly (option_map (content_after None (move_of_turn t)) old.content) new.content → HoldsGood ws test mark old → KeepsGood ws test new
  good_moved mark t old new is leaves moves good = told_on IsGood (option_map (content_after None (move_of_turn t)) old.content) new.content moves (good_after old.content mark t is leaves good)

  -- a commit that was made, or not
  good_made : (b : Bool) (mark : Mark) (t : Turn) (old new : KeeperState) → IsMark t.mark → LeavesGood mark t → Made (if b then Some (move_of_turn t) else None) old new → HoldsGood ws test mark old → KeepsGood ws test new
  good_made true mark t old new is leaves made good = good_moved mark t old new is leaves made.content good
  good_made false mark t old new is leaves made good = good_still mark old new made.content good

  good_unmade : (b : Bool) (mark : Mark) (t : Turn) (old new : KeeperState) → IsMark t.mark → LeavesGood mark t → Unmade (if b then Some (move_of_turn t) else None) old new → HoldsGood ws test mark old → KeepsGood ws test new
  good_unmade true mark t old new is leaves (inl meets) good = good_still mark old new (subst (λ o. TellsOnly o new.content) (same_content old.content (move_of_turn t)) meets.content) good
  good_unmade true mark t old new is leaves (inr meets) good = good_moved mark t old new is leaves (subst (λ o. TellsOnly o new.content) (after_content old.content (move_of_turn t)) meets.content) good
  good_unmade false mark t old new is leaves unmade good = absurd unmade

  module _ (old new : Held) (ask : Ask) (bytes : List ℕ) (kept keeps : KeeperState) (before after : Option (List Call)) (most : ℕ) (stands : CanStand old.mark old.wish) (asked : IsAskOf old.filter (asks old most) ask) (timeline : IsTimeline ws) (true_of : AreTrueOf ws test (asks old most) ask bytes) (good : HoldsGood ws test old.mark kept) where
    -- the turn of the reply leaves a lawful mark and good rows
    new_mark : (shape : Shape) (r : Reply) → IsLawful ask bytes shape → IsReply shape bytes r → IsMark (turn old.mark r).mark
    new_mark shape r law is = lawful old.mark r stands.lawful (can_come old.mark old.wish old.filter most ask bytes shape r asked law is)

    leaves_good : (shape : Shape) (r : Reply) → IsLawful ask bytes shape → IsReply shape bytes r → LeavesGood old.mark (turn old.mark r)
    leaves_good shape r law is rows right = (good_turn ws test old.mark old.wish most rows r timeline stands.lawful stands.wished right (true_of shape r law is)).good

    -- whatever is answered
    pub good_taken : (result : Result Took TakeFault) → Takes result old new ask bytes kept keeps before after → KeepsGood ws test keeps
    good_taken (Ok took) takes =
        let r = takes.reply in
        good_made (turn old.mark r).commits old.mark (turn old.mark r) kept keeps (new_mark took.shape r takes.lawful takes.is) (leaves_good took.shape r takes.lawful takes.is) takes.made good
    good_taken (Err Halted) takes = good_still old.mark kept keeps takes.keeper.content good
    good_taken (Err (BadReply place)) takes = good_still old.mark kept keeps takes.nothing.keeper.content good
    good_taken (Err (Refused scn)) takes = good_still old.mark kept keeps takes.keeper.content good
    good_taken (Err StoreFault) takes =
        let r = takes.reply in
        good_unmade (turn old.mark r).commits old.mark (turn old.mark r) kept keeps (new_mark takes.shape r takes.lawful takes.is) (leaves_good takes.shape r takes.lawful takes.is) takes.unmade good
    good_taken (Err NoMemory) takes = good_still old.mark kept keeps takes.keeper.content good

-- where nothing was committed
pub ruleset unchanged = (floor_same, good_same)
