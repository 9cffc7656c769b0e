-- For private functions alone: an input that comes in pieces, against its meaning.
use Rattle.std.specs.Prelude.{◌≡◌, ℕ, ◌+◌, ◌≤◌, List, [], ◌∷◌, ◌++◌, length, Option, Some, None, IfSome, Result, Ok, Err}
use Rattle.bus_types.specs.Window.{Span}
use Rattle.bus_types.specs.Timeline.{end_of}
use Rattle.trace_script.specs.Input.{RawLine, lines_of, longest_input}
use Rattle.trace_script.specs.Cutting.{Cut}
use Rattle.trace_script.specs.declared.fault.CutFault.{CutFault}
use Rattle.trace_script.specs.declared.fault.CutFault.TheVariants as cuts
use Rattle.range_ring.specs.Belonging.{RingIs, FeederIs}
use Rattle.relay_node.specs.declared.line.LineStop.{LineStop}
use Rattle.relay_node.specs.declared.line.LineStop.TheVariants as lines
use Rattle.relay_node.specs.declared.feed.Stop.{Stop}
use Rattle.relay_node.specs.declared.feed.Stop.TheVariants.{BadLine, TooLong, WrongWord, ReadFault, NoMemory}
use Rattle.relay_node.specs.Feeding.{Given, Ending, Fed, text_gives, fed_from}
use Rattle.relay_node.specs.Feeding.Given.{Windows, Bad, Wrong}
use Rattle.relay_node.specs.Feeding.Ending.{BadAt, TooLongAt, WrongAt}

-- ---- what was published

-- the windows that were published on a ring
pub record Sent : Type 0 where
  pub home : RingIs
  pub windows : List Span

abbrev pub new_sent : RingIs → Sent
new_sent home = record { home = home; windows = [] }

abbrev pub sent_after : Sent → List Span → Sent
sent_after s ws = record s { windows = s.windows ++ ws }

-- what publishes them: its feeder has published as many, the last of which has this SCN
pub record IsPublishing (home : RingIs) (feeder : FeederIs) (tail : ℕ) (windows : List Span) : Type 0 where
  pub same : feeder.home ≡ home
  pub count : feeder.published ≡ length windows
  pub end : tail ≡ end_of windows
  pub few : length windows ≤ tail

-- windows that a snapshot of those before and the last one are
abbrev pub list_after : Option (List Span) → Option Span → List Span
list_after None last = []
list_after (Some before) None = before
list_after (Some before) (Some last) = before ++ last ∷ []

-- where windows are told, they begin with these
abbrev pub BeginWith : Option (List Span) → List Span → Type 0
BeginWith told front = IfSome told (λ windows. (rest : List Span) × (windows ≡ front ++ rest))

-- ---- one line

-- what a text gives as the next line
abbrev pub next_gives : Sent → List ℕ → Given
next_gives s text = text_gives (end_of s.windows) (length s.windows) text

-- where windows are told, those that a line gives stand behind those that were published
abbrev pub StandNext : Option (List Span) → Sent → Given → Type 0
StandNext told s (Windows ws) = BeginWith told (s.windows ++ ws)
StandNext told s Bad = Unit {0}
StandNext told s Wrong = Unit {0}

-- the windows that a line gives were published
pub record Publishes (given : Given) (s s' : Sent) : Type 0 where
  pub windows : List Span
  pub is : given ≡ Windows windows
  pub sent : s' ≡ sent_after s windows

-- a line was taken, or is at fault
abbrev pub Takes : Result Unit LineStop → Given → Sent → Sent → Type 0
Takes (Ok u) given s s' = Publishes given s s'
Takes (Err lines.BadLine) given s s' = given ≡ Bad
Takes (Err lines.WrongWord) given s s' = given ≡ Wrong
Takes (Err lines.NoMemory) given s s' = Unit {0}

-- the line of this number, likewise
abbrev pub TakesLine : Result Unit Stop → ℕ → Given → Sent → Sent → Type 0
TakesLine (Ok u) number given s s' = Publishes given s s'
TakesLine (Err (BadLine line)) number given s s' = (line ≡ number) × (given ≡ Bad)
TakesLine (Err (TooLong line)) number given s s' = ⊥
TakesLine (Err (WrongWord line)) number given s s' = (line ≡ number) × (given ≡ Wrong)
TakesLine (Err ReadFault) number given s s' = ⊥
TakesLine (Err NoMemory) number given s s' = Unit {0}

abbrev pub cut_stop : CutFault → Stop
cut_stop (cuts.TooLong line) = TooLong line
cut_stop cuts.NoMemory = NoMemory

-- ---- pieces

-- how far an input was taken: the windows that were published, and what has come of the next line
pub record At : Type 0 where
  pub sent : Sent
  pub lines : Cut

-- the windows that were published at an ending
pub record Final : Type 0 where
  pub sent : Sent
  pub ending : Ending

abbrev pub final : Sent → Fed → Final
final s f = record { sent = sent_after s f.windows; ending = f.ending }

-- where lines lead that come next, and no others behind them
abbrev pub runs_lines : At → List RawLine → Final
runs_lines a lines = final a.sent (fed_from (end_of a.sent.windows) (length a.sent.windows) a.lines.count a.lines.used lines)

-- where bytes do
abbrev pub runs : At → List ℕ → Final
runs a bytes = runs_lines a (lines_of (a.lines.come ++ bytes))

-- where windows are told, these bytes lead to them, with some behind them
abbrev pub LeadsTo : Option (List Span) → At → List ℕ → Type 0
LeadsTo told a bytes = IfSome told (λ windows. (more : List ℕ) × ((runs a (bytes ++ more)).sent.windows ≡ windows))

-- bytes at one place lead where others do at another, whatever follows
abbrev pub SameRun : At → List ℕ → At → List ℕ → Type 0
SameRun a bytes b others = (more : List ℕ) → runs b (others ++ more) ≡ runs a (bytes ++ more)

-- bytes lead to this ending, whatever follows
abbrev pub EndsIn : At → List ℕ → Ending → Type 0
EndsIn a bytes ending = (more : List ℕ) → (runs a (bytes ++ more)).ending ≡ ending

-- what holds of the ending that a line makes which stops an input
abbrev pub StopsAt : Stop → (Ending → Type 0) → Type 0
StopsAt (BadLine line) Holds = Holds (BadAt line)
StopsAt (TooLong line) Holds = Holds (TooLongAt line)
StopsAt (WrongWord line) Holds = Holds (WrongAt line)
StopsAt ReadFault Holds = ⊥
StopsAt NoMemory Holds = Unit {0}

-- what came is within the limits of an input
abbrev pub IsWithin : At → Type 0
IsWithin a = a.lines.used + length a.lines.come ≤ longest_input

-- of a piece some lines were taken, and this is the rest
pub record TakesPart (a : At) (piece : List ℕ) (b : At) (rest : List ℕ) : Type 0 where
  pub within : IsWithin b
  pub size : b.lines.used + length b.lines.come + length rest ≡ a.lines.used + length a.lines.come + length piece
  pub same : SameRun a piece b rest
