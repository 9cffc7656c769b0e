-- For private functions alone: the parts of a round.
use Rattle.std.specs.Prelude.{◌≡◌, ℕ, ◌≤◌, ◌⊎◌, Bool, ◌||◌, List, Option, Result, Err}
use Rattle.std.specs.Io.KnownBytes.{Appends}
use Rattle.bus_types.specs.Causes.{Rose}
use Rattle.bus_types.specs.Window.{Span}
use Rattle.bus_types.specs.Timeline.{IsTimeline}
use Rattle.bus_link.specs.Links.{Told}
use Rattle.bus_wire.specs.declared.ask.Ask.{Ask}
use Rattle.bus_stores.specs.Log.{IsLog}
use Rattle.bootstrap_core.specs.declared.fault.TakeLog.{TakeLog}
use Rattle.bootstrap_core.specs.declared.fault.TakeLog.TheVariants as takes
use Rattle.bootstrap_core.specs.Boot.{BootState, Stands}
use Rattle.bootstrap_core.specs.Opening.{Stores}
use Rattle.bootstrap_core.specs.Logging.{TakesLog}
use Rattle.bootstrap_core.specs.Moving.{AppliesNext, TellsWindows}
use Rattle.bus_node.specs.Exchange.{Exchanged, IsMisanswered}
use Rattle.bootstrap_node.specs.declared.stop.Stop.{Stop}
use Rattle.bootstrap_node.specs.declared.stop.Stop.TheVariants.{BadAnswer, BadReply, LinkFault, StoreFault, WriteFault, NoMemory}
use Rattle.bootstrap_node.specs.Rounds.{IsTaken, most_logged, note, is_gap, is_filled}

-- why an ask got no answer
abbrev pub AsksNot : {P : Type 0} → (P → Option (List ℕ)) → (P → Option (List ℕ)) → (P → Option (List ℕ)) → Stop → Ask → ℕ → Option (Told P) → Option (Told P) → ℕ → ℕ → Type 0
AsksNot {P} given left written BadAnswer ask port old new faults faults' = Exchanged P (IsMisanswered given left written ask) port old new
AsksNot given left written (BadReply place) ask port old new faults faults' = ⊥
AsksNot given left written LinkFault ask port old new faults faults' = Rose faults faults'
AsksNot given left written StoreFault ask port old new faults faults' = ⊥
AsksNot given left written WriteFault ask port old new faults faults' = ⊥
AsksNot given left written NoMemory ask port old new faults faults' = Unit {0}

-- the next logged windows were applied
pub record Moves (old new : BootState) : Type 0 where
  pub applies : AppliesNext new.mark.applied most_logged old new
  pub log : IsLog new.log
  pub stored : Stores old.keeper old.mark → Stores new.keeper new.mark
  pub stands : (ws : List Span) → IsTimeline ws → Stands ws old → TellsWindows old.log → Stands ws new

-- why they weren't
abbrev pub MovesNot : Stop → BootState → BootState → Type 0
MovesNot BadAnswer old new = ⊥
MovesNot (BadReply place) old new = ⊥
MovesNot LinkFault old new = ⊥
MovesNot StoreFault old new = Rose old.log.faults new.log.faults ⊎ Rose old.keeper.faults new.keeper.faults
MovesNot WriteFault old new = ⊥
MovesNot NoMemory old new = Unit {0}

-- a reply was taken, and what the log took of it was printed, where it was to be
pub record TakesReply (gap full gap' full' : Bool) (body : List ℕ) (old new : BootState) (text text' : Option (List ℕ)) : Type 0 where
  pub took : Result ℕ TakeLog
  pub logged : BootState
  pub is : IsTaken old body took logged new
  pub printed : Appends text text' (note gap full took)
  pub gap_noted : gap' ≡ (gap || is_gap took)
  pub full_noted : full' ≡ (full || is_filled took)

-- why it wasn't
abbrev pub TakesNot : Stop → List ℕ → BootState → BootState → Option (List ℕ) → Option (List ℕ) → ℕ → ℕ → Type 0
TakesNot BadAnswer body old new text text' faults faults' = ⊥
TakesNot (BadReply place) body old new text text' faults faults' = TakesLog (Err (takes.BadReply place)) most_logged body old new × (text' ≡ text)
TakesNot LinkFault body old new text text' faults faults' = ⊥
TakesNot StoreFault body old new text text' faults faults' = Rose old.log.faults new.log.faults ⊎ Rose old.keeper.faults new.keeper.faults
TakesNot WriteFault body old new text text' faults faults' = Rose faults faults'
TakesNot NoMemory body old new text text' faults faults' = Unit {0}

-- no count of faults is less
pub record LaterBoot (old new : BootState) (faults faults' : ℕ) : Type 0 where
  pub log : old.log.faults ≤ new.log.faults
  pub keeper : old.keeper.faults ≤ new.keeper.faults
  pub text : faults ≤ faults'
