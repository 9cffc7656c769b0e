-- A client against its keeper, its consumer and the replies that it takes.
use Rattle.std.specs.Prelude.{◌≡◌, ℕ, ◌≤◌, Bool, true, if◌then◌else◌, List, [], ◌∷◌, ◌++◌, map, Option, Some, None, IfSome, Result, Ok, Err}
use Rattle.bus_types.specs.Causes.{Rose}
use Rattle.bus_types.specs.Change.{Test}
use Rattle.bus_types.specs.Window.{Span}
use Rattle.event_codec.specs.declared.reply.Shape.{Shape}
use Rattle.event_codec.specs.ReplyViews.{Spells}
use Rattle.partition_filter.specs.Selection.{Selection}
use Rattle.checkpoint.specs.declared.mark.Mark.{Mark}
use Rattle.checkpoint.specs.declared.mark.Mark.TheVariants.{Online}
use Rattle.checkpoint.specs.Mark.{IsMark, mark_text, floor_of}
use Rattle.bus_wire.specs.declared.ask.Ask.{Ask}
use Rattle.bus_wire.specs.Asks.{ask_of}
use Rattle.bus_wire.specs.Lawful.{IsLawful, IsFaultAt}
use Rattle.bus_stores.specs.Keeper.{KeeperState, BothTold, Move, SameStore, Meets, Stopped, move_of}
use Rattle.bus_stores.specs.Taking.{MayFail}
use Rattle.dispatcher.specs.Callbacks.{Call, Callback, taken, with_calls, Describes, StopsAt}
use Rattle.dispatcher.specs.Callbacks.Callback.{OnRollback, OnCheckpoint}
use Rattle.client_switch.specs.declared.client.Took.{Took}
use Rattle.client_switch.specs.declared.fault.TakeFault.{TakeFault}
use Rattle.client_switch.specs.declared.fault.TakeFault.TheVariants.{Halted, BadReply, Refused, StoreFault, NoMemory}
use Rattle.event_codec.specs.Questions.{Question, Reply}
use Rattle.client_switch.specs.Moves.{Wish, Turn, question, turn}
use Rattle.client_switch.specs.Good.{Good}
use Rattle.bus_wire.specs.True.{IsTrueOf}

-- a client: the filter of its rows, the mark that its keeper holds, what it wants beside it, and whether it has met a fault of
-- its keeper
pub record Held : Type 0 where
  pub filter : Selection
  pub mark : Mark
  pub wish : Wish
  pub halted : Bool

-- the mark that a stored text is; without one a consumer is online at 0
abbrev pub IsStored : Option (List ℕ) → Mark → Type 0
IsStored None mark = mark ≡ Online 0
IsStored (Some text) mark = IsMark mark × (text ≡ mark_text mark)

-- the keeper holds this mark, where it tells its content
abbrev pub Keeps : KeeperState → Mark → Type 0
Keeps keeper mark = IfSome keeper.content (λ c. IsStored c.mark mark)

-- ---- asks

-- an ask is this question of who follows the rows of a filter
abbrev pub IsAskOf : Selection → Question → Ask → Type 0
IsAskOf filter q ask = ask ≡ ask_of filter q

-- what the client asks now, in at most so many bytes
abbrev pub asks : Held → ℕ → Question
asks c most = question c.mark c.wish most

-- ---- replies

-- the bytes of a reply of this shape are this reply
abbrev pub IsReply : Shape → List ℕ → Reply → Type 0
IsReply shape bytes reply = Spells shape bytes reply

-- ---- what is committed

abbrev pub move_of_turn : Turn → Move
move_of_turn t = move_of t.clear t.batch (mark_text t.mark)

-- the one commit of a turn, or none
abbrev pub commit_of : Turn → Option Move
commit_of t = if t.commits then Some (move_of_turn t) else None

-- it was made, or there is none
abbrev pub Made : Option Move → KeeperState → KeeperState → Type 0
Made None old new = SameStore old new
Made (Some m) old new = Meets None m old new

-- it met a stop: the keeper is as before it, or as after it
abbrev pub Unmade : Option Move → KeeperState → KeeperState → Type 0
Unmade None old new = ⊥
Unmade (Some m) old new = Stopped m old new

-- ---- what a client does with a reply

-- the calls behind the callbacks of a reply: the checkpoint, where there was a commit
abbrev pub checkpoint_calls : Turn → List Call
checkpoint_calls t = if t.commits then taken (OnCheckpoint (mark_text t.mark)) ∷ [] else []

-- the callbacks of a reply were called in order, and then these calls were made
abbrev pub CallsAll : Shape → List ℕ → List Call → Option (List Call) → Option (List Call) → Type 0
CallsAll shape bytes behind before after = (callbacks : List Callback) → Describes shape bytes callbacks
    → after ≡ with_calls (map taken callbacks ++ behind) before

-- one callback of a reply was refused, and then the consumer was told to go back
abbrev pub CallsSome : ℕ → Shape → List ℕ → ℕ → Option (List Call) → Option (List Call) → Type 0
CallsSome scn shape bytes floor before after = (callbacks : List Callback) → Describes shape bytes callbacks
    → StopsAt scn callbacks (taken (OnRollback floor) ∷ []) before after

-- a lawful reply was taken
pub record TakesIt (took : Took) (old new : Held) (ask : Ask) (bytes : List ℕ) (kept keeps : KeeperState)
    (before after : Option (List Call)) : Type 0 where
  pub reply : Reply
  pub lawful : IsLawful ask bytes took.shape
  pub is : IsReply took.shape bytes reply
  pub committed : took.committed ≡ (turn old.mark reply).commits
  pub client : new ≡ record old { mark = (turn old.mark reply).mark; wish = (turn old.mark reply).wish }
  pub made : Made (commit_of (turn old.mark reply)) kept keeps
  pub calls : CallsAll took.shape bytes (checkpoint_calls (turn old.mark reply)) before after

-- nothing changed, and nobody was told
pub record Refuses (old new : Held) (kept keeps : KeeperState) (before after : Option (List Call)) : Type 0 where
  pub client : new ≡ old
  pub keeper : SameStore kept keeps
  pub calls : after ≡ before

-- the reply isn't lawful: its first item that can't stand is at this place
pub record RefusesReply (found : ℕ) (old new : Held) (ask : Ask) (bytes : List ℕ) (kept keeps : KeeperState)
    (before after : Option (List Call)) : Type 0 where
  pub nothing : Refuses old new kept keeps before after
  pub place : IsFaultAt ask bytes found
  pub unlawful : (shape : Shape) → IsLawful ask bytes shape → ⊥

-- the consumer refused a callback with this SCN: client and keeper are as before
pub record IsRefused (scn : ℕ) (old new : Held) (ask : Ask) (bytes : List ℕ) (kept keeps : KeeperState)
    (before after : Option (List Call)) : Type 0 where
  pub shape : Shape
  pub lawful : IsLawful ask bytes shape
  pub client : new ≡ old
  pub keeper : SameStore kept keeps
  pub calls : CallsSome scn shape bytes (floor_of old.mark) before after

-- the commit failed: the keeper is as before it or as after it, and the client asks and takes nothing from then on
pub record Halts (old new : Held) (ask : Ask) (bytes : List ℕ) (kept keeps : KeeperState) (before after : Option (List Call)) : Type 0 where
  pub shape : Shape
  pub reply : Reply
  pub lawful : IsLawful ask bytes shape
  pub is : IsReply shape bytes reply
  pub client : new ≡ record old { halted = true }
  pub unmade : Unmade (commit_of (turn old.mark reply)) kept keeps
  pub rose : Rose kept.faults keeps.faults
  pub may : MayFail kept
  pub calls : CallsAll shape bytes [] before after

-- memory ran out: the consumer was told of the whole reply and then to go back
pub record RunsOut (old new : Held) (ask : Ask) (bytes : List ℕ) (kept keeps : KeeperState) (before after : Option (List Call)) : Type 0 where
  pub client : new ≡ old
  pub keeper : SameStore kept keeps
  pub calls : (shape : Shape) × IsLawful ask bytes shape × CallsAll shape bytes (taken (OnRollback (floor_of old.mark)) ∷ []) before after

-- what a call of `take` does, by its answer
abbrev pub Takes : Result Took TakeFault → Held → Held → Ask → List ℕ → KeeperState → KeeperState → Option (List Call) → Option (List Call) → Type 0
Takes (Ok took) old new ask bytes kept keeps before after = TakesIt took old new ask bytes kept keeps before after
Takes (Err Halted) old new ask bytes kept keeps before after = Refuses old new kept keeps before after
Takes (Err (BadReply found)) old new ask bytes kept keeps before after = RefusesReply found old new ask bytes kept keeps before after
Takes (Err (Refused scn)) old new ask bytes kept keeps before after = IsRefused scn old new ask bytes kept keeps before after
Takes (Err StoreFault) old new ask bytes kept keeps before after = Halts old new ask bytes kept keeps before after
Takes (Err NoMemory) old new ask bytes kept keeps before after = RunsOut old new ask bytes kept keeps before after

-- ---- counts

-- the counts of a keeper haven't fallen
pub record CountsKept (old new : KeeperState) : Type 0 where
  pub calls : BothTold (λ a b. a ≤ b) old.calls new.calls
  pub faults : old.faults ≤ new.faults

-- where a call answers `Refused`
abbrev pub OnRefused : Result Took TakeFault → Type 0 → Type 0
OnRefused (Ok took) P = Unit {0}
OnRefused (Err Halted) P = Unit {0}
OnRefused (Err (BadReply place)) P = Unit {0}
OnRefused (Err (Refused scn)) P = P
OnRefused (Err StoreFault) P = Unit {0}
OnRefused (Err NoMemory) P = Unit {0}

-- the count of a consumer's refusals hasn't fallen, and `Refused` comes only where it rose
pub record HasRefusal (old new : ℕ) (result : Result Took TakeFault) : Type 0 where
  pub later : old ≤ new
  pub refused : OnRefused result (Rose old new)

-- ---- rows and mark together

-- the keeper's rows and mark are good for a timeline, where it tells its content
abbrev pub KeepsGood : List Span → Test → KeeperState → Type 0
KeepsGood ws test keeper = IfSome keeper.content (λ c. (mark : Mark) × IsStored c.mark mark × Good ws test mark c.rows)

-- so, and the mark is this one
abbrev pub HoldsGood : List Span → Test → Mark → KeeperState → Type 0
HoldsGood ws test mark keeper = IfSome keeper.content (λ c. IsStored c.mark mark × Good ws test mark c.rows)

-- every reply to an ask that the bytes are is true of the timeline, for the question asked
abbrev pub AreTrueOf : List Span → Test → Question → Ask → List ℕ → Type 0
AreTrueOf ws test q ask bytes = (shape : Shape) (reply : Reply) → IsLawful ask bytes shape → IsReply shape bytes reply → IsTrueOf ws test q reply

-- the floor of what the keeper stores hasn't fallen, where it still tells its content
abbrev pub FloorKept : KeeperState → KeeperState → Type 0
FloorKept old new = (before after : Mark) → Keeps old before → Keeps new after → IfSome new.content (λ c. floor_of before ≤ floor_of after)
