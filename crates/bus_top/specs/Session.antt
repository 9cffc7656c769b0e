-- For private functions alone: a script that comes in pieces, against its meaning.
use Rattle.std.specs.Prelude.{◌≡◌, ℕ, ◌+◌, ◌≤◌, List, [], ◌∷◌, ◌++◌, length, take, Option, Some, None, Result, Ok, Err}
use Rattle.std.specs.Io.{StartsWith}
use Rattle.std.specs.Io.KnownBytes.{Appends, Consumes}
use Rattle.trace_script.specs.Input.{IsPart, IsWhole, lines_of, longest_input}
use Rattle.trace_script.specs.Cutting.{Cut, Holds}
use Rattle.trace_script.specs.declared.fault.CutFault.{CutFault}
use Rattle.trace_script.specs.declared.fault.CutFault.TheVariants.{TooLong as LongLine, NoMemory as NoRoomForLine}
use Rattle.history_core.specs.Script.{State}
use Rattle.history_core.specs.Run.{Played, before, ended, played, script}
use Rattle.history_core.specs.Run.Ending.{Finished, BadAt, TooLongAt}
use Rattle.history_core.specs.declared.fault.StepFault.{StepFault}
use Rattle.history_core.specs.declared.fault.StepFault.TheVariants.{BadLine as BadStep, WriteFault as NoWrite, NoMemory as NoRoom}
use Rattle.history_core.specs.Steps.{Step}
use Rattle.history_core.specs.Bus.{Parts, state_of, IsSound, TookLine}
use Rattle.bus_top.specs.declared.session.Session.{Session}
use Rattle.bus_top.specs.declared.session.Stop.{Stop}
use Rattle.bus_top.specs.declared.session.Stop.TheVariants.{BadLine, TooLong, WriteFault, NoMemory}

-- an input that isn't cut into lines any further stops its script
abbrev pub cut_stop : CutFault → Stop
cut_stop (LongLine n) = TooLong n
cut_stop NoRoomForLine = NoMemory

-- one text and what follows it, and another, are the same run whatever comes
abbrev pub SameRun : {X : Type 0} → List ℕ → (X → Played) → List ℕ → (X → Played) → Type 0
SameRun {X} old plays new after = (x : X) → before new (after x) ≡ before old (plays x)

-- how a run ends that a line stops, whatever comes, in the state of this bus, which is sound; a line that finds no memory printed
-- nothing, and no line meets a fault of the output
abbrev pub Stops : {X : Type 0} → Stop → List ℕ → List ℕ → Parts → (X → Played) → Type 0
Stops {X} (BadLine n) text text' b plays = IsSound b × ((x : X) → plays x ≡ record { text = text'; ending = BadAt n; state = state_of b })
Stops {X} (TooLong n) text text' b plays = IsSound b × ((x : X) → plays x ≡ record { text = text'; ending = TooLongAt n; state = state_of b })
Stops {X} WriteFault text text' b plays = ⊥
Stops {X} NoMemory text text' b plays = text' ≡ text

-- what bytes do to a bus from a place in an input on
abbrev pub run_bytes : Parts → Cut → List ℕ → Played
run_bytes b c bytes = played (state_of b) c.count c.used (lines_of bytes)

-- ---- one line and its text

-- a line by its answer: where it was taken, its text was appended, and else none was
abbrev pub Prints : Result Unit StepFault → Step → Parts → Parts → List ℕ → List ℕ → Type 0
Prints (Ok done) defined old new text text' = TookLine defined new (Some text) (Some text')
Prints (Err BadStep) defined old new text text' = (defined ≡ None) × (new ≡ old) × (text' ≡ text)
Prints (Err (NoWrite count)) defined old new text text' = text' ≡ text
Prints (Err NoRoom) defined old new text text' = text' ≡ text

-- the line of this number, likewise
abbrev pub TakesLine : Result Unit Stop → ℕ → Step → Parts → Parts → List ℕ → List ℕ → Type 0
TakesLine (Ok done) number defined old new text text' = TookLine defined new (Some text) (Some text')
TakesLine (Err (BadLine n)) number defined old new text text' = (n ≡ number) × (defined ≡ None) × (new ≡ old) × (text' ≡ text)
TakesLine (Err (TooLong n)) number defined old new text text' = ⊥
TakesLine (Err WriteFault) number defined old new text text' = ⊥
TakesLine (Err NoMemory) number defined old new text text' = text' ≡ text

-- ---- sessions

-- a session between two pieces: the bus is sound, and what has come of the next line has no LF and is within the input's limit
pub record IsSession (s : Session) : Type 0 where
  pub sound : IsSound s.bus
  pub part : IsPart s.lines.come
  pub within : s.lines.used + length s.lines.come ≤ longest_input

-- the first line of a piece was taken, whose end is in it; this is the rest
pub record TakesNext (s : Session) (piece : List ℕ) (s' : Session) (rest text text' : List ℕ) : Type 0 where
  pub end : List ℕ
  pub parts : piece ≡ end ++ 10 ∷ rest
  pub session : IsSession s'
  pub none : s'.lines.come ≡ []
  pub used : s'.lines.used ≡ s.lines.used + length (s.lines.come ++ end) + 1
  pub same : SameRun text (λ more. run_bytes s.bus s.lines ((s.lines.come ++ end) ++ 10 ∷ more)) text' (run_bytes s'.bus s'.lines)

-- a piece that ends no line was held
pub record HoldsPiece (s : Session) (piece : List ℕ) (s' : Session) : Type 0 where
  pub session : IsSession s'
  pub bus : s'.bus ≡ s.bus
  pub held : Holds s.lines piece s'.lines

-- of what had come, whole lines were taken, and the rest has come of the next line, or is to be taken still
pub record TookSome (come rest : List ℕ) (s : Session) (text : List ℕ) (s' : Session) (text' : List ℕ) : Type 0 where
  pub whole : List ℕ
  pub parts : come ≡ whole ++ (s'.lines.come ++ rest)
  pub lines : IsWhole whole
  pub session : IsSession s'
  pub size : s'.lines.used + length s'.lines.come + length rest ≡ s.lines.used + length come
  pub same : SameRun text (λ more. run_bytes s.bus s.lines (whole ++ more)) text' (run_bytes s'.bus s'.lines)

-- of what had come, whole lines were taken, which lead to this state; this is the text before them and theirs
pub record TookLines (come : List ℕ) (s : Session) (text text' : List ℕ) : Type 0 where
  pub whole : List ℕ
  pub rest : List ℕ
  pub parts : come ≡ whole ++ rest
  pub lines : IsWhole whole
  pub state : State
  pub count : ℕ
  pub used : ℕ
  pub same : SameRun text (λ more. run_bytes s.bus s.lines (whole ++ more)) text' (λ more. played state count used (lines_of more))

-- how a run ends that stops in what had come, whatever follows it, in the state of this bus, which is sound; where the output
-- failed its text begins so, and where memory ran out whole lines of it were taken
abbrev pub StopsIn : Stop → List ℕ → Session → List ℕ → Parts → Type 0
StopsIn (BadLine n) come s text b =
    IsSound b × ((rest : List ℕ) →
    run_bytes s.bus s.lines (come ++ rest) ≡ record { text = text; ending = BadAt n; state = state_of b })
StopsIn (TooLong n) come s text b =
    IsSound b × ((rest : List ℕ) →
    run_bytes s.bus s.lines (come ++ rest) ≡ record { text = text; ending = TooLongAt n; state = state_of b })
StopsIn WriteFault come s text b = (rest : List ℕ) → StartsWith (run_bytes s.bus s.lines (come ++ rest)).text text
StopsIn NoMemory come s text b = TookLines come s [] text

-- a piece was taken, where so much had come by its end, or the run stops in it; this is what the lines in it print
abbrev pub Takes : Result Unit Stop → List ℕ → Session → Session → List ℕ → Type 0
Takes (Ok u) come s s' text = TookSome come [] s [] s' text
Takes (Err stop) come s s' text = StopsIn stop come s text s'.bus

-- a piece was taken likewise; what its lines print was written in part, and the rest is gathered
pub record Feeds (result : Result Unit Stop) (come : List ℕ) (s s' : Session) (written written' : Option (List ℕ)) (gathered : List ℕ) : Type 0 where
  pub sent : List ℕ
  pub wrote : Appends written written' sent
  pub takes : Takes result come s s' (sent ++ gathered)

-- the last line was taken, where there is one, and the run is at its end, in the state of this bus, which is sound; or it stops
-- the run
abbrev pub Finishes : Result Unit Stop → Session → List ℕ → Parts → List ℕ → Type 0
Finishes (Ok u) s text b text' = IsSound b × (before text (run_bytes s.bus s.lines s.lines.come) ≡ before text' (ended Finished (state_of b)))
Finishes (Err stop) s text b text' = Stops {X = Unit {0}} stop text text' b (λ u. before text (run_bytes s.bus s.lines s.lines.come))

-- how far a script has come of which this much of the input is left and this much was written, from where they were:
-- the whole lines that came, and the text that they printed
pub record Reached (input left output written : Option (List ℕ)) (s : Session) : Type 0 where
  pub whole : List ℕ
  pub text : List ℕ
  pub read : Consumes input left (whole ++ s.lines.come)
  pub lines : IsWhole whole
  pub wrote : Appends output written text
  pub session : IsSession s
  pub same : (more : List ℕ) → before text (run_bytes s.bus s.lines more) ≡ script (whole ++ more)

-- ---- what is gathered

-- of what was gathered some was written, and the rest is gathered still
abbrev pub Sends : Option (List ℕ) → Option (List ℕ) → List ℕ → List ℕ → Type 0
Sends written written' text text' = (sent : List ℕ) × Appends written written' sent × (text ≡ sent ++ text')

-- a front of what was gathered was written
abbrev pub SendsFront : Option (List ℕ) → Option (List ℕ) → List ℕ → Type 0
SendsFront written written' text = (n : ℕ) × Appends written written' (take n text)
