-- The rounds of a bootstrap: in each it asks its relay once, logs what it can of the reply, and moves its table.
use Rattle.std.specs.Prelude.{◌≡◌, ℕ, ◌<◌, ◌≤◌, ◌⊎◌, Bool, true, false, ◌||◌, if◌then◌else◌, List, [], ◌∷◌, ◌++◌, length, map, codes, Option, option_map, Result, Ok, Err}
use Rattle.std.specs.Io.KnownBytes.{Appends}
use Rattle.bus_types.specs.Causes.{Rose}
use Rattle.bus_types.specs.Window.{Span}
use Rattle.bus_types.specs.Timeline.{IsTimeline}
use Rattle.bus_link.specs.Links.{Told}
use Rattle.trace_script.specs.Printed.{line_with, gap_line}
use Rattle.bus_stores.specs.Log.{IsLog}
use Rattle.bootstrap_core.specs.declared.fault.TakeLog.{TakeLog}
use Rattle.bootstrap_core.specs.declared.fault.TakeLog.TheVariants.{BadReply, Gap, Full, LogFailed, Halted, NoMemory}
use Rattle.bootstrap_core.specs.Boot.{BootState, Stands}
use Rattle.bootstrap_core.specs.Opening.{Stores}
use Rattle.bootstrap_core.specs.Logging.{log_ask, TakesLog, IsRelayReply}
use Rattle.bootstrap_core.specs.Moving.{AppliesNext, TellsWindows}
use Rattle.bus_node.specs.Exchange.{with_exchange, Exchanged, HandedBack, IsAnswered, IsMisanswered}
use Rattle.bootstrap_node.specs.declared.stop.Stop.{Stop}
use Rattle.bootstrap_node.specs.declared.stop.Stop.TheVariants as stops

-- the most windows that a round logs, and the most that it applies
abbrev pub most_logged : ℕ
most_logged = 32

-- ---- what is printed of rounds

abbrev pub is_gap : Result ℕ TakeLog → Bool
is_gap (Ok scn) = false
is_gap (Err (BadReply place)) = false
is_gap (Err (Gap floor)) = true
is_gap (Err (Full need)) = false
is_gap (Err LogFailed) = false
is_gap (Err Halted) = false
is_gap (Err NoMemory) = false

abbrev pub is_filled : Result ℕ TakeLog → Bool
is_filled (Ok scn) = false
is_filled (Err (BadReply place)) = false
is_filled (Err (Gap floor)) = false
is_filled (Err (Full need)) = true
is_filled (Err LogFailed) = false
is_filled (Err Halted) = false
is_filled (Err NoMemory) = false

-- the line of a log that has no room for a window of so many bytes
abbrev pub full_line : ℕ → List ℕ
full_line need = line_with (codes "full") need

-- the line of what a log took of a reply, by whether a gap and a full log were printed before
abbrev pub note : Bool → Bool → Result ℕ TakeLog → List ℕ
note gap full (Ok scn) = []
note gap full (Err (BadReply place)) = []
note gap full (Err (Gap floor)) = if gap then [] else gap_line floor
note gap full (Err (Full need)) = if full then [] else full_line need
note gap full (Err LogFailed) = []
note gap full (Err Halted) = []
note gap full (Err NoMemory) = []

-- the lines of several: the first gap and the first full log are printed, each once
abbrev pub notes : Bool → Bool → List (Result ℕ TakeLog) → List ℕ
notes gap full [] = []
notes gap full (took ∷ more) = note gap full took ++ notes (gap || is_gap took) (full || is_filled took) more

-- a gap and a full log end no rounds
abbrev pub GoesOn : Result ℕ TakeLog → Type 0
GoesOn (Ok scn) = Unit {0}
GoesOn (Err (BadReply place)) = ⊥
GoesOn (Err (Gap floor)) = Unit {0}
GoesOn (Err (Full need)) = Unit {0}
GoesOn (Err LogFailed) = ⊥
GoesOn (Err Halted) = ⊥
GoesOn (Err NoMemory) = ⊥

-- ---- what the link and the output tell

-- what they tell, and how often each has failed
pub record Outside (P : Type 0) : Type 0 where
  pub link : Option (Told P)
  pub text : Option (List ℕ)
  pub link_faults : ℕ
  pub text_faults : ℕ

-- exchanges with a port, one after another
abbrev pub after_dials : {P : Type 0} → ℕ → List P → Told P → Told P
after_dials port [] t = t
after_dials port (peer ∷ peers) t = after_dials port peers (with_exchange port peer t)

-- no count of faults is less
pub record Later {P : Type 0} (o o' : Outside P) (old new : BootState) : Type 0 where
  pub link : o.link_faults ≤ o'.link_faults
  pub text : o.text_faults ≤ o'.text_faults
  pub log : old.log.faults ≤ new.log.faults
  pub keeper : old.keeper.faults ≤ new.keeper.faults

-- ---- rounds

-- one round: its connection as it was handed back, the body of the answer, what the log took of it, and the bootstrap after that
-- and after its table moved
pub record Round (P : Type 0) : Type 0 where
  pub peer : P
  pub body : List ℕ
  pub took : Result ℕ TakeLog
  pub logged : BootState
  pub boot : BootState

-- up to 32 windows of a reply were logged, and up to 32 logged ones applied; the log is one still, and the stored mark is the boot
-- mark still. One that stands for a timeline still does after a reply that is true of it.
pub record IsTaken (old : BootState) (body : List ℕ) (took : Result ℕ TakeLog) (logged new : BootState) : Type 0 where
  pub takes : TakesLog took most_logged body old logged
  pub goes_on : GoesOn took
  pub applies : AppliesNext new.mark.applied most_logged logged new
  pub log : IsLog new.log
  pub stored : Stores old.keeper old.mark → Stores new.keeper new.mark
  pub tells : TellsWindows old.log → TellsWindows new.log
  pub stands : (ws : List Span) → IsTimeline ws → Stands ws old → TellsWindows old.log → IsRelayReply ws old.log.high body → Stands ws new

module _ {P : Type 0} (given left written : P → Option (List ℕ)) where
  -- the windows behind the log's newest one were asked for, and the answer was taken
  pub record IsRound (old : BootState) (r : Round P) : Type 0 where
    pub asked : IsAnswered given left written (log_ask old.log.high) r.body r.peer
    pub small : length r.body ≤ 16777216
    pub taken : IsTaken old r.body r.took r.logged r.boot

  -- one round after another
  abbrev pub Rounds : BootState → List (Round P) → BootState → Type 0
  Rounds old [] new = new ≡ old
  Rounds old (r ∷ rs) new = IsRound old r × Rounds r.boot rs new

  -- these rounds were made, and nothing else
  pub record Made (relay : ℕ) (gap full : Bool) (old new : BootState) (o o' : Outside P) (rounds : List (Round P)) : Type 0 where
    pub are : Rounds old rounds new
    pub link : o'.link ≡ option_map (after_dials relay (map (λ r. r.peer) rounds)) o.link
    pub text : Appends o.text o'.text (notes gap full (map (λ r. r.took) rounds))
    pub later : Later o o' old new

  -- the relay's answer was no lawful reply, or its windows didn't follow the log
  pub record IsBadlyReplied (place relay : ℕ) (old new : BootState) (o o' : Outside P) : Type 0 where
    pub peer : P
    pub body : List ℕ
    pub asked : IsAnswered given left written (log_ask old.log.high) body peer
    pub link : o'.link ≡ option_map (with_exchange relay peer) o.link
    pub takes : TakesLog (Err (BadReply place)) most_logged body old new
    pub text : o'.text ≡ o.text

  -- what the relay wrote was no answer
  pub record IsBadlyAnswered (relay : ℕ) (old new : BootState) (o o' : Outside P) : Type 0 where
    pub exchange : Exchanged P (IsMisanswered given left written (log_ask old.log.high)) relay o.link o'.link
    pub same : new ≡ old
    pub text : o'.text ≡ o.text

  -- rounds were made, fewer than were to be, and then one was the last, for this reason
  pub record Stopped (Stops : BootState → BootState → Outside P → Outside P → Type 0) (relay count : ℕ) (old new : BootState) (o o' : Outside P) : Type 0 where
    pub rounds : List (Round P)
    pub few : length rounds < count
    pub boot : BootState
    pub outside : Outside P
    pub made : Made relay false false old boot o outside rounds
    pub stops : Stops boot new outside o'
    pub back : HandedBack P relay outside.link o'.link
    pub later : Later outside o' boot new

  -- each reply is true of a timeline
  abbrev pub AreTrue : List Span → BootState → List (Round P) → Type 0
  AreTrue ws old [] = Unit {0}
  AreTrue ws old (r ∷ rs) = IsRelayReply ws old.log.high r.body × AreTrue ws r.boot rs

  -- ---- for private functions: one round of several, and why it was the last one

  abbrev pub StopsRound : Stop → ℕ → BootState → BootState → Outside P → Outside P → Type 0
  StopsRound stops.BadAnswer relay old new o o' = IsBadlyAnswered relay old new o o'
  StopsRound (stops.BadReply place) relay old new o o' = IsBadlyReplied place relay old new o o'
  StopsRound stops.LinkFault relay old new o o' = Rose o.link_faults o'.link_faults
  StopsRound stops.StoreFault relay old new o o' = Rose old.log.faults new.log.faults ⊎ Rose old.keeper.faults new.keeper.faults
  StopsRound stops.WriteFault relay old new o o' = Rose o.text_faults o'.text_faults
  StopsRound stops.NoMemory relay old new o o' = Unit {0}

  pub record MakesRound (relay : ℕ) (gap full gap' full' : Bool) (old new : BootState) (o o' : Outside P) : Type 0 where
    pub round : Round P
    pub is : IsRound old round
    pub boot : new ≡ round.boot
    pub link : o'.link ≡ option_map (with_exchange relay round.peer) o.link
    pub text : Appends o.text o'.text (note gap full round.took)
    pub gap_noted : gap' ≡ (gap || is_gap round.took)
    pub full_noted : full' ≡ (full || is_filled round.took)
    pub later : Later o o' old new

  pub record BreaksRound (stop : Stop) (relay : ℕ) (old new : BootState) (o o' : Outside P) : Type 0 where
    pub stops : StopsRound stop relay old new o o'
    pub back : HandedBack P relay o.link o'.link
    pub later : Later o o' old new
