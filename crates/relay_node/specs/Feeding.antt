-- What the input of a relay means: the windows that its lines give, and how it ends.
use Rattle.std.specs.Prelude.{ℕ, ◌+◌, if◌then◌else◌, nat_lt, nat_le, List, [], ◌∷◌, ◌++◌, length, Option, Some, None, option_map, is_some}
use Rattle.bus_types.specs.declared.change.Change.{Change}
use Rattle.bus_types.specs.Window.{Span, window_fault}
use Rattle.bus_types.specs.Timeline.{end_from}
use Rattle.bus_types.specs.Relay.{Relay, published}
use Rattle.generated_windows.specs.Generated.{generated}
use Rattle.trace_script.specs.declared.line.Line.{Line}
use Rattle.trace_script.specs.declared.line.Line.TheVariants.{Blank, Commit, Gen}
use Rattle.trace_script.specs.Lines.{line_of}
use Rattle.trace_script.specs.Input.{RawLine, lines_of, is_too_long}

-- ---- one line

-- the most windows of an input
abbrev pub most_windows : ℕ
most_windows = 1000000

-- behind this SCN there is room for the windows of a line
abbrev pub last_generated : ℕ
last_generated = 9223372036854475807

-- what a line gives: windows; or it is bad, outside the grammar or against a rule; or it is of scripts and not of a relay's input
pub data Given : Type 0 where
  Windows : List Span → Given
  Bad : Given
  Wrong : Given

-- a commit behind so many windows, the last of which has this SCN: one window in full
abbrev pub commit_gives : ℕ → ℕ → ℕ → List Change → Given
commit_gives last count scn changes =
    let w : Span = record { scn = scn; prev = last; changes = changes } in
    if is_some (window_fault w) then Bad
    else if nat_le most_windows count then Bad
    else Windows (w ∷ [])

-- windows that are made: not where an SCN or the number of windows could come to be too great
abbrev pub gen_gives : ℕ → ℕ → ℕ → ℕ → Given
gen_gives last count seed more =
    if nat_lt last_generated last then Bad
    else if nat_lt most_windows (count + more) then Bad
    else Windows (generated more seed last)

-- blank lines, commits and made windows are lines of a relay's input, and no others
abbrev pub line_gives : ℕ → ℕ → Line → Given
line_gives last count Blank = Windows []
line_gives last count (Commit scn changes) = commit_gives last count scn changes
line_gives last count (Gen seed more) = gen_gives last count seed more
line_gives last count line = Wrong

abbrev pub read_gives : ℕ → ℕ → Option Line → Given
read_gives last count None = Bad
read_gives last count (Some line) = line_gives last count line

-- what a text gives as a line
unfoldable pub text_gives : ℕ → ℕ → List ℕ → Given
text_gives last count text = read_gives last count (line_of text)

-- ---- inputs

-- how an input ends: all its lines were taken; or the line of this number, counted from 1, is the first one that is bad, too long,
-- or of scripts alone
pub data Ending : Type 0 where
  Finished : Ending
  BadAt : ℕ → Ending
  TooLongAt : ℕ → Ending
  WrongAt : ℕ → Ending

-- the windows that an input gives up to its end, and the ending
pub record Fed : Type 0 where
  pub windows : List Span
  pub ending : Ending

abbrev pub ended : Ending → Fed
ended ending = record { windows = []; ending = ending }

-- windows before those of the rest
abbrev pub before : List Span → Fed → Fed
before ws f = record f { windows = ws ++ f.windows }

-- what a line of this number gives, and then the rest
abbrev pub feed_on : Given → ℕ → (List Span → Fed) → Fed
feed_on (Windows ws) line rest = before ws (rest ws)
feed_on Bad line rest = ended (BadAt line)
feed_on Wrong line rest = ended (WrongAt line)

-- what these lines give behind so many windows, the last of which has this SCN, where so many lines of so many bytes came before
unfoldable pub fed_from : ℕ → ℕ → ℕ → ℕ → List RawLine → Fed
fed_from last windows count used [] = ended Finished
fed_from last windows count used (line ∷ lines) =
    if is_too_long count used line then ended (TooLongAt (count + 1))
    else feed_on (text_gives last windows line.text) (count + 1)
    (λ ws. fed_from (end_from last ws) (windows + length ws) (count + 1) (used + line.size) lines)

-- what an input means
abbrev pub fed : List ℕ → Fed
fed bytes = fed_from 0 0 0 0 (lines_of bytes)

-- the windows of an input, where it is told
abbrev pub windows_of : Option (List ℕ) → Option (List Span)
windows_of input = option_map (λ bytes. (fed bytes).windows) input

-- ---- the relay

-- a relay that published windows, one after another
abbrev pub relay_after : Relay → List Span → Relay
relay_after r [] = r
relay_after r (w ∷ ws) = relay_after (published r w) ws
