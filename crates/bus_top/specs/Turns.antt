-- For private functions alone: what a turn of a run reads and writes, and how it ends.
use Rattle.std.specs.Prelude.{◌≡◌, ℕ, List, [], take, Option, Some, None}
use Rattle.std.specs.Io.KnownBytes.{Appends, IsAtEnd}
use Rattle.history_core.specs.Run.{Ending}
use Rattle.history_core.specs.Run.Ending.{Finished, BadAt, TooLongAt}
use Rattle.history_core.specs.Bus.{Parts, state_of, IsSound}
use Rattle.bus_top.specs.declared.session.Session.{Session}
use Rattle.bus_top.specs.declared.status.Status.{Status}
use Rattle.bus_top.specs.declared.status.Status.TheVariants.{Done, Usage, BadLine, ReadFault, WriteFault, NoMemory, TooLong}
use Rattle.bus_top.specs.declared.session.Stop.{Stop}
use Rattle.bus_top.specs.declared.session.Stop.TheVariants as Stopping
use Rattle.bus_top.specs.Trace.{EndsAt, StopsReading, StopsWriting, StopsShort, HandsBack}
use Rattle.bus_top.specs.Session.{Reached, run_bytes}

-- what a run that ended with a status has read and written
abbrev pub Ended : Status → Option (List ℕ) → Option (List ℕ) → Option (List ℕ) → Option (List ℕ) → Type 0
Ended Done input left output written = EndsAt Finished input output written × IsAtEnd left
Ended Usage input left output written = ⊥
Ended (BadLine line) input left output written = EndsAt (BadAt line) input output written
Ended ReadFault input left output written = StopsReading input left output written
Ended WriteFault input left output written = StopsWriting input output written
Ended NoMemory input left output written = StopsShort input output written
Ended (TooLong line) input left output written = EndsAt (TooLongAt line) input output written

-- the bus of a session, where its end hands it back
abbrev pub kept_by : Status → Parts → Option Parts
kept_by Done b = Some b
kept_by Usage b = None
kept_by (BadLine line) b = Some b
kept_by ReadFault b = Some b
kept_by WriteFault b = None
kept_by NoMemory b = None
kept_by (TooLong line) b = Some b

-- ---- turns

-- a run ended, and what its status keeps of this bus may be handed back
pub record EndedWith (status : Status) (input left output written : Option (List ℕ)) (b : Parts) : Type 0 where
  pub ended : Ended status input left output written
  pub back : HandsBack status input left (kept_by status b)

-- a turn goes on or ends the run
abbrev pub Turned : Option Status → Option (List ℕ) → Option (List ℕ) → Option (List ℕ) → Option (List ℕ) → Session → Type 0
Turned None input left output written s = Reached input left output written s
Turned (Some status) input left output written s = EndedWith status input left output written s.bus

-- the last line ends the run so, its text was written, and it leaves the bus so
pub record EndsWith (ending : Ending) (written written' : Option (List ℕ)) (s : Session) (b : Parts) : Type 0 where
  pub ends : (run_bytes s.bus s.lines s.lines.come).ending ≡ ending
  pub wrote : Appends written written' (run_bytes s.bus s.lines s.lines.come).text
  pub sound : IsSound b
  pub state : (run_bytes s.bus s.lines s.lines.come).state ≡ state_of b

-- a front of its text was written
abbrev pub BreaksOff : Option (List ℕ) → Option (List ℕ) → Session → Type 0
BreaksOff written written' s = (n : ℕ) × Appends written written' (take n (run_bytes s.bus s.lines s.lines.come).text)

abbrev pub stop_status : Stop → Status
stop_status (Stopping.BadLine line) = BadLine line
stop_status (Stopping.TooLong line) = TooLong line
stop_status Stopping.WriteFault = WriteFault
stop_status Stopping.NoMemory = NoMemory

-- what the end of a run writes, from a session of which everything has come, and the bus that it leaves
abbrev pub Ends : Status → Option (List ℕ) → Option (List ℕ) → Session → Parts → Type 0
Ends Done written written' s b = EndsWith Finished written written' s b
Ends Usage written written' s b = ⊥
Ends (BadLine line) written written' s b = EndsWith (BadAt line) written written' s b
Ends ReadFault written written' s b = ⊥
Ends WriteFault written written' s b = BreaksOff written written' s
Ends NoMemory written written' s b = Appends written written' []
Ends (TooLong line) written written' s b = EndsWith (TooLongAt line) written written' s b
