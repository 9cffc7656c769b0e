-- What the code makes of a reply, step by step.
use Rattle.std.specs.Prelude.{◌≡◌, ℕ, ◌<◌, ◌≤◌, max, Bool, true, if◌then◌else◌, List, [], ◌∷◌, length, Option, Some, None, Result, Ok, Err}
use Rattle.bus_types.specs.declared.change.Change.{Change}
use Rattle.bus_types.specs.declared.limits.TheConstants.{MAX_SCN}
use Rattle.bus_types.specs.Causes.{Rose}
use Rattle.bus_types.specs.Change.{AreChanges}
use Rattle.bus_types.specs.Window.{Span}
use Rattle.bus_types.specs.Timeline.{end_of}
use Rattle.event_codec.specs.declared.answer.Answer.{Answer}
use Rattle.event_codec.specs.declared.answer.Answer.TheVariants.{NotFound, Empty, TooSmall, Behind, LogGone, StartDelta, StartSnapshot, Target}
use Rattle.event_codec.specs.declared.reply.Shape.{Shape}
use Rattle.event_codec.specs.declared.reply.Shape.TheVariants as shapes
use Rattle.checkpoint.specs.declared.mark.Mark.{Mark}
use Rattle.checkpoint.specs.declared.mark.Mark.TheVariants.{Online, Delta, Snapshot, Scanned, Catchup}
use Rattle.checkpoint.specs.Mark.{IsMark, mark_text, floor_of}
use Rattle.bus_stores.specs.Keeper.{KeeperState, SameStore}
use Rattle.bus_stores.specs.Taking.{MayFail}
use Rattle.dispatcher.specs.Callbacks.{Call, taken, with_calls}
use Rattle.dispatcher.specs.Callbacks.Callback.{OnRollback, OnCheckpoint}
use Rattle.client_switch.specs.declared.client.Took.{Took}
use Rattle.client_switch.specs.declared.fault.TakeFault.{TakeFault}
use Rattle.client_switch.specs.declared.fault.TakeFault.TheVariants.{Halted, BadReply, Refused, StoreFault, NoMemory}
use Rattle.client_switch.specs.declared.turn.Turn.{Turn as TurnMade}
use Rattle.client_switch.specs.declared.wish.Wish.{Wish as Wanted}
use Rattle.client_switch.specs.declared.wish.Wish.TheVariants as wishes
use Rattle.event_codec.specs.Questions.{Reply}
use Rattle.event_codec.specs.Questions.Reply.{Windows, Rows, Changes, Only}
use Rattle.event_codec.specs.Chunks.{cursor_after}
use Rattle.event_codec.specs.ReplyViews.{Spells}
use Rattle.client_switch.specs.Moves.{Wish, IsWished, Turn, changes_of, replayed, turn}
use Rattle.client_switch.specs.Moves.Wish.{NoWish, StartWish, FreshWish}
use Rattle.client_switch.specs.Client.{Held, IsReply, Made, Unmade, commit_of, checkpoint_calls}

-- ---- what it keeps

abbrev pub wish_of : Wanted → Wish
wish_of wishes.Nothing = NoWish
wish_of wishes.Start = StartWish
wish_of wishes.Fresh = FreshWish

abbrev pub turn_in : TurnMade → Turn
turn_in t = record { mark = t.mark; commits = t.commits; clear = t.clear; batch = t.batch.items; wish = wish_of t.wish }

-- the text that a turn sets
abbrev pub text_of : Turn → Option (List ℕ)
text_of t = if t.commits then Some (mark_text t.mark) else None

-- the call that tells of a text that was set
abbrev pub checkpoint_call : Option (List ℕ) → List Call
checkpoint_call None = []
checkpoint_call (Some text) = taken (OnCheckpoint text) ∷ []

-- a mark that keeps the rule of its kind, and a wish that who stands there can have
pub record CanStand (mark : Mark) (wish : Wish) : Type 0 where
  pub lawful : IsMark mark
  pub wished : IsWished mark wish

-- ---- replies that can come

-- a target of a scan, not below what was asked
abbrev pub CanEnd : Mark → ℕ → Type 0
CanEnd (Online scn) t = ⊥
CanEnd (Delta since target cursor) t = ⊥
CanEnd (Snapshot since start top cursor) t = ⊥
CanEnd (Scanned since start top) t = (start ≤ t) × (since ≤ t) × (t ≤ MAX_SCN)
CanEnd (Catchup since start target at) t = ⊥

-- a lawful answer to who stands at this mark
abbrev pub CanAnswer : Mark → Answer → Type 0
CanAnswer mark (NotFound floor) = IsWished mark StartWish
CanAnswer mark (Empty end) = Unit {0}
CanAnswer mark (TooSmall need) = Unit {0}
CanAnswer mark (Behind high) = Unit {0}
CanAnswer mark (LogGone base) = Unit {0}
CanAnswer mark (StartDelta high) = (floor_of mark < high) × (high ≤ MAX_SCN)
CanAnswer mark (StartSnapshot applied) = applied ≤ MAX_SCN
CanAnswer mark (Target t) = CanEnd mark t

-- windows that follow an SCN, up to a top
pub record Follow (scn top : ℕ) (ws : List Span) : Type 0 where
  pub some : 0 < length ws
  pub above : scn < end_of ws
  pub bound : end_of ws ≤ top

-- windows come to who is online, and in a replay
abbrev pub CanFollow : Mark → List Span → Type 0
CanFollow (Online scn) ws = Follow scn MAX_SCN ws
CanFollow (Delta since target cursor) ws = ⊥
CanFollow (Snapshot since start top cursor) ws = ⊥
CanFollow (Scanned since start top) ws = ⊥
CanFollow (Catchup since start target at) ws = Follow at target ws

-- rows come in a scan
abbrev pub CanHold : Mark → List Change → ℕ → Type 0
CanHold (Online s) cs scn = ⊥
CanHold (Delta since target cursor) cs scn = ⊥
CanHold (Snapshot since start top cursor) cs scn = AreChanges cs × (scn ≤ MAX_SCN)
CanHold (Scanned since start top) cs scn = ⊥
CanHold (Catchup since start target at) cs scn = ⊥

-- changes come in a delta
abbrev pub CanChange : Mark → List Change → Type 0
CanChange (Online s) cs = ⊥
CanChange (Delta since target cursor) cs = AreChanges cs
CanChange (Snapshot since start top cursor) cs = ⊥
CanChange (Scanned since start top) cs = ⊥
CanChange (Catchup since start target at) cs = ⊥

-- a lawful reply to who stands at this mark
abbrev pub CanCome : Mark → Reply → Type 0
CanCome mark (Windows ws) = CanFollow mark ws
CanCome mark (Rows cs scn more) = CanHold mark cs scn
CanCome mark (Changes cs scn more) = CanChange mark cs
CanCome mark (Only answer) = CanAnswer mark answer

-- the bytes of that shape are a reply, and one that can come
pub record HoldsComing (mark : Mark) (shape : Shape) (bytes : List ℕ) : Type 0 where
  pub reply : Reply
  pub spells : Spells shape bytes reply
  pub can : (r : Reply) → Spells shape bytes r → CanCome mark r

-- ---- what it makes

-- the changes of a reply
abbrev pub items_of : Reply → List Change
items_of (Windows ws) = changes_of ws
items_of (Rows cs scn more) = cs
items_of (Changes cs scn more) = cs
items_of (Only answer) = []

-- the mark behind windows up to an SCN
abbrev pub mark_after_windows : Mark → ℕ → Mark
mark_after_windows (Online scn) last = Online last
mark_after_windows (Delta since target cursor) last = Delta since target cursor
mark_after_windows (Snapshot since start top cursor) last = Snapshot since start top cursor
mark_after_windows (Scanned since start top) last = Scanned since start top
mark_after_windows (Catchup since start target at) last = replayed since start target last

-- the mark behind rows at an SCN
abbrev pub mark_after_rows : Mark → List Change → ℕ → Bool → Mark
mark_after_rows (Online s) cs scn more = Online s
mark_after_rows (Delta since target cursor) cs scn more = Delta since target cursor
mark_after_rows (Snapshot since start top cursor) cs scn more =
    if more then Snapshot since start (max top scn) (cursor_after cursor cs) else Scanned since start (max top scn)
mark_after_rows (Scanned since start top) cs scn more = Scanned since start top
mark_after_rows (Catchup since start target at) cs scn more = Catchup since start target at

-- the mark behind changes
abbrev pub mark_after_changes : Mark → List Change → Bool → Mark
mark_after_changes (Online s) cs more = Online s
mark_after_changes (Delta since target cursor) cs more = if more then Delta since target (cursor_after cursor cs) else Online target
mark_after_changes (Snapshot since start top cursor) cs more = Snapshot since start top cursor
mark_after_changes (Scanned since start top) cs more = Scanned since start top
mark_after_changes (Catchup since start target at) cs more = Catchup since start target at

-- the mark behind a reply of this shape with these changes
abbrev pub mark_after : Mark → Shape → List Change → Mark
mark_after mark (shapes.Windows count last) cs = mark_after_windows mark last
mark_after mark (shapes.Rows count scn more) cs = mark_after_rows mark cs scn more
mark_after mark (shapes.Changes count more) cs = mark_after_changes mark cs more
mark_after mark (shapes.Only answer) cs = mark

-- ---- behind the callbacks of a reply

-- its turn was made
pub record Settled (took : Took) (old new : Held) (shape : Shape) (reply : Reply) (kept keeps : KeeperState)
    (before after : Option (List Call)) : Type 0 where
  pub same : took.shape ≡ shape
  pub committed : took.committed ≡ (turn old.mark reply).commits
  pub client : new ≡ record old { mark = (turn old.mark reply).mark; wish = (turn old.mark reply).wish }
  pub made : Made (commit_of (turn old.mark reply)) kept keeps
  pub calls : after ≡ with_calls (checkpoint_calls (turn old.mark reply)) before

-- its commit failed
pub record Stops (old new : Held) (reply : Reply) (kept keeps : KeeperState) (before after : Option (List Call)) : Type 0 where
  pub client : new ≡ record old { halted = true }
  pub unmade : Unmade (commit_of (turn old.mark reply)) kept keeps
  pub rose : Rose kept.faults keeps.faults
  pub may : MayFail kept
  pub calls : after ≡ before

-- memory ran out
pub record GoesBack (old new : Held) (kept keeps : KeeperState) (before after : Option (List Call)) : Type 0 where
  pub client : new ≡ old
  pub keeper : SameStore kept keeps
  pub calls : after ≡ with_calls (taken (OnRollback (floor_of old.mark)) ∷ []) before

-- what a reply whose callbacks were taken makes, by the answer of `take`
abbrev pub Settles : Result Took TakeFault → Held → Held → Shape → List ℕ → KeeperState → KeeperState → Option (List Call)
    → Option (List Call) → Type 0
Settles (Ok took) old new shape bytes kept keeps before after = (r : Reply) → IsReply shape bytes r
    → Settled took old new shape r kept keeps before after
Settles (Err Halted) old new shape bytes kept keeps before after = ⊥
Settles (Err (BadReply place)) old new shape bytes kept keeps before after = ⊥
Settles (Err (Refused scn)) old new shape bytes kept keeps before after = ⊥
Settles (Err StoreFault) old new shape bytes kept keeps before after = (r : Reply) → IsReply shape bytes r → Stops old new r kept keeps before after
Settles (Err NoMemory) old new shape bytes kept keeps before after = GoesBack old new kept keeps before after
