-- What a script means: the text that it prints, how it ends, and the state that it leaves.
use Rattle.std.specs.Prelude.{◌≡◌, ◌≤◌, ℕ, ◌+◌, Bool, true, false, if◌then◌else◌, List, [], ◌∷◌, ◌++◌, Some, None, option_and_then}
use Rattle.checkpoint.specs.declared.mark.Mark.{Mark}
use Rattle.checkpoint.specs.declared.mark.Mark.TheVariants.{Online, Delta, Snapshot, Scanned, Catchup}
use Rattle.checkpoint.specs.Mark.{floor_of}
use Rattle.bus_stores.specs.Memory.{stop_at}
use Rattle.partition_filter.specs.Selection.{test_of}
use Rattle.trace_script.specs.declared.line.Line.{Line}
use Rattle.trace_script.specs.declared.line.Line.TheVariants.{Blank, Relay, Consumer, Commit, Gen, Feed, Log, Apply, Trim, RestartBoot, Poll, Crash, Stop, Show, Sum, Stream}
use Rattle.trace_script.specs.Lines.{line_of}
use Rattle.trace_script.specs.Spelling.{is_in_range}
use Rattle.trace_script.specs.Input.{RawLine, lines_of, is_too_long}
use Rattle.history_core.specs.Script.{Follower, State, start}
use Rattle.history_core.specs.Steps.{Step, begin, relay_step, consumer_step, commit_step, gen_step, feed_step, stream_step, log_step, apply_step, trim_step, restart_step, poll_step, crash_step, stop_step, show_step, sum_step}

-- whether a line is blank
abbrev pub is_blank : Line → Bool
is_blank Blank = true
is_blank (Relay bytes windows) = false
is_blank (Consumer name filter) = false
is_blank (Commit scn changes) = false
is_blank (Gen seed count) = false
is_blank (Feed count) = false
is_blank (Log count) = false
is_blank (Apply count) = false
is_blank (Trim scn) = false
is_blank RestartBoot = false
is_blank (Poll name max) = false
is_blank (Crash name) = false
is_blank (Stop name after) = false
is_blank (Show name) = false
is_blank (Sum name) = false
is_blank (Stream scn filter max) = false

-- what each line does of its own; a blank one does nothing
abbrev pub effect : State → Line → Step
effect s Blank = Some (s, [])
effect s (Relay bytes windows) = relay_step s bytes windows
effect s (Consumer name filter) = consumer_step s name filter
effect s (Commit scn changes) = commit_step s scn changes
effect s (Gen seed count) = gen_step s seed count
effect s (Feed count) = feed_step s count
effect s (Log count) = log_step s count
effect s (Apply count) = apply_step s count
effect s (Trim scn) = trim_step s scn
effect s RestartBoot = restart_step s
effect s (Poll name max) = poll_step s name max
effect s (Crash name) = crash_step s name
effect s (Stop name after) = stop_step s name (stop_at after)
effect s (Show name) = show_step s name
effect s (Sum name) = sum_step s name
effect s (Stream scn filter max) = stream_step s scn (test_of filter) max

-- what a line does whose numbers are in their ranges: a blank one nothing, and any other begins the script
abbrev pub act : State → Line → Step
act s line = if is_blank line then Some (s, []) else begin (effect s line)

-- what a line does: nothing where a number is outside the ranges of the grammar
abbrev pub line_step : State → Line → Step
line_step s line = if is_in_range line then act s line else None

-- what a text does as a line: nothing where it is outside the grammar or against a rule
unfoldable pub text_step : State → List ℕ → Step
text_step s text = option_and_then (line_step s) (line_of text)

-- ---- runs

-- how a script ends: all its lines were taken, or the line of this number, counted from 1, is bad or is too long
pub data Ending : Type 0 where
  Finished : Ending
  BadAt : ℕ → Ending
  TooLongAt : ℕ → Ending

-- the text that a script prints up to its end, the ending, and the state that the lines before it leave
pub record Played : Type 0 where
  pub text : List ℕ
  pub ending : Ending
  pub state : State

abbrev pub before : List ℕ → Played → Played
before text p = record p { text = text ++ p.text }

abbrev pub ended : Ending → State → Played
ended ending s = record { text = []; ending = ending; state = s }

-- what a line at this number does in a state, and then the rest
abbrev pub play_on : Step → State → ℕ → (State → Played) → Played
play_on None s line rest = ended (BadAt line) s
play_on (Some r) s line rest = before r.1 (rest r.0)

-- what these lines do from this state on, where so many lines of so many bytes came before them
unfoldable pub played : State → ℕ → ℕ → List RawLine → Played
played s count used [] = ended Finished s
played s count used (line ∷ lines) =
    if is_too_long count used line then ended (TooLongAt (count + 1)) s
    else play_on (text_step s line.text) s (count + 1) (λ next. played next (count + 1) (used + line.size) lines)

-- what an input means as a script
abbrev pub script : List ℕ → Played
script bytes = played start 0 0 (lines_of bytes)

-- what it prints, and how it ends
abbrev pub outcome : List ℕ → List ℕ × Ending
outcome bytes = let p = script bytes in (p.text, p.ending)

-- ---- consumers over a run

-- a mark that leads forward: what a delta or a replay goes to isn't below where its consumer stood
abbrev pub IsForward : Mark → Type 0
IsForward (Online scn) = Unit {0}
IsForward (Delta since target cursor) = since ≤ target
IsForward (Snapshot since begins top cursor) = Unit {0}
IsForward (Scanned since begins top) = Unit {0}
IsForward (Catchup since begins target at) = since ≤ target

abbrev pub AreForward : List Follower → Type 0
AreForward [] = Unit {0}
AreForward (c ∷ cs) = IsForward c.mark × AreForward cs

-- the consumers of a later state: each is there still, under its name and with its filter, and the SCN at which it stands, or
-- stood before it began to move, is the same or a greater one
abbrev pub GoOn : List Follower → List Follower → Type 0
GoOn [] later = Unit {0}
GoOn (c ∷ cs) [] = ⊥
GoOn (c ∷ cs) (d ∷ ds) = (d.name ≡ c.name) × (d.filter ≡ c.filter) × (floor_of c.mark ≤ floor_of d.mark) × GoOn cs ds
