-- The line that a text spells, by its words.
use Rattle.std.specs.Prelude.{ℕ, Bool, true, false, if◌then◌else◌, ◌==◌, List, [], ◌∷◌, codes, bytes_eq, Option, Some, None}
use Rattle.std.specs.List.{list_any}
use Rattle.trace_script.specs.declared.line.Line.{Line}
use Rattle.trace_script.specs.declared.line.Line.TheVariants.{Blank, Relay, Consumer, Commit, Gen, Feed, Poll, Show, Sum, Crash, Stop, Stream, Log, Apply, Trim, RestartBoot}
use Rattle.bus_types.specs.declared.change.Change.{Change}
use Rattle.bus_types.specs.declared.limits.TheConstants.{MAX_SCN}
use Rattle.bus_types.specs.Text.{◌>>=◌, number_of, max_u64}
use Rattle.trace_script.specs.Words.{words_of, number_in, name_of, selection_of, changes_of}

-- `relay BYTES COUNT`
unfoldable pub relay_of : List (List ℕ) → Option Line
relay_of (bytes ∷ count ∷ []) = do
  room ← number_in 1048576 268435456 bytes
  windows ← number_in 1 65536 count
  Some (Relay room windows)
relay_of [] = None
relay_of (bytes ∷ []) = None
relay_of (bytes ∷ count ∷ more ∷ words) = None

-- `consumer NAME FILTER`
unfoldable pub consumer_of : List (List ℕ) → Option Line
consumer_of (name ∷ filter ∷ []) = do
  known ← name_of name
  rows ← selection_of filter
  Some (Consumer known rows)
consumer_of [] = None
consumer_of (name ∷ []) = None
consumer_of (name ∷ filter ∷ more ∷ words) = None

-- a commit, of what was read of its SCN and its changes
abbrev pub commit_by : Option ℕ → Option (List Change) → Option Line
commit_by scn changes = do
  number ← scn
  made ← changes
  Some (Commit number made)

-- `commit SCN CHANGE ..`, with at least one change
unfoldable pub commit_of : List (List ℕ) → Option Line
commit_of (scn ∷ change ∷ words) = commit_by (number_of max_u64 scn) (changes_of (change ∷ words))
commit_of [] = None
commit_of (scn ∷ []) = None

-- `gen SEED COUNT`
unfoldable pub gen_of : List (List ℕ) → Option Line
gen_of (seed ∷ count ∷ []) = do
  number ← number_of 2147483647 seed
  windows ← number_in 1 100000 count
  Some (Gen number windows)
gen_of [] = None
gen_of (seed ∷ []) = None
gen_of (seed ∷ count ∷ more ∷ words) = None

-- `feed N`
unfoldable pub feed_of : List (List ℕ) → Option Line
feed_of (count ∷ []) = do
  number ← number_in 1 1000000 count
  Some (Feed number)
feed_of [] = None
feed_of (count ∷ more ∷ words) = None

-- `poll NAME MAX`
unfoldable pub poll_of : List (List ℕ) → Option Line
poll_of (name ∷ max ∷ []) = do
  known ← name_of name
  number ← number_in 1 16777216 max
  Some (Poll known number)
poll_of [] = None
poll_of (name ∷ []) = None
poll_of (name ∷ max ∷ more ∷ words) = None

-- `show NAME`
unfoldable pub show_of : List (List ℕ) → Option Line
show_of (name ∷ []) = do
  known ← name_of name
  Some (Show known)
show_of [] = None
show_of (name ∷ more ∷ words) = None

-- `sum NAME`
unfoldable pub sum_of : List (List ℕ) → Option Line
sum_of (name ∷ []) = do
  known ← name_of name
  Some (Sum known)
sum_of [] = None
sum_of (name ∷ more ∷ words) = None

-- `crash NAME`
unfoldable pub crash_of : List (List ℕ) → Option Line
crash_of (name ∷ []) = do
  known ← name_of name
  Some (Crash known)
crash_of [] = None
crash_of (name ∷ more ∷ words) = None

-- `before` or `after`: whether it is after
unfoldable pub when_of : List ℕ → Option Bool
when_of word = if bytes_eq word (codes "before") then Some false else if bytes_eq word (codes "after") then Some true else None

-- `stop NAME before` or `stop NAME after`
unfoldable pub stop_of : List (List ℕ) → Option Line
stop_of (name ∷ when ∷ []) = do
  known ← name_of name
  after ← when_of when
  Some (Stop known after)
stop_of [] = None
stop_of (name ∷ []) = None
stop_of (name ∷ when ∷ more ∷ words) = None

-- `stream SCN FILTER MAX`
unfoldable pub stream_of : List (List ℕ) → Option Line
stream_of (scn ∷ filter ∷ max ∷ []) = do
  number ← number_of MAX_SCN scn
  most ← number_in 1 16777216 max
  rows ← selection_of filter
  Some (Stream number rows most)
stream_of [] = None
stream_of (scn ∷ []) = None
stream_of (scn ∷ filter ∷ []) = None
stream_of (scn ∷ filter ∷ max ∷ more ∷ words) = None

-- `log N`
unfoldable pub log_of : List (List ℕ) → Option Line
log_of (count ∷ []) = do
  number ← number_in 1 1000000 count
  Some (Log number)
log_of [] = None
log_of (count ∷ more ∷ words) = None

-- `apply N`
unfoldable pub apply_of : List (List ℕ) → Option Line
apply_of (count ∷ []) = do
  number ← number_in 1 1000000 count
  Some (Apply number)
apply_of [] = None
apply_of (count ∷ more ∷ words) = None

-- `trim SCN`
unfoldable pub trim_of : List (List ℕ) → Option Line
trim_of (scn ∷ []) = do
  number ← number_of MAX_SCN scn
  Some (Trim number)
trim_of [] = None
trim_of (scn ∷ more ∷ words) = None

-- `restart boot`
unfoldable pub restart_of : List (List ℕ) → Option Line
restart_of (word ∷ []) = if bytes_eq word (codes "boot") then Some RestartBoot else None
restart_of [] = None
restart_of (word ∷ more ∷ words) = None

-- the first word says which line it is
unfoldable pub words_line : List (List ℕ) → Option Line
words_line [] = None
words_line (word ∷ words) =
    if bytes_eq word (codes "commit") then commit_of words
    else if bytes_eq word (codes "consumer") then consumer_of words
    else if bytes_eq word (codes "stream") then stream_of words
    else if bytes_eq word (codes "feed") then feed_of words
    else if bytes_eq word (codes "gen") then gen_of words
    else if bytes_eq word (codes "poll") then poll_of words
    else if bytes_eq word (codes "show") then show_of words
    else if bytes_eq word (codes "sum") then sum_of words
    else if bytes_eq word (codes "crash") then crash_of words
    else if bytes_eq word (codes "stop") then stop_of words
    else if bytes_eq word (codes "log") then log_of words
    else if bytes_eq word (codes "apply") then apply_of words
    else if bytes_eq word (codes "trim") then trim_of words
    else if bytes_eq word (codes "restart") then restart_of words
    else if bytes_eq word (codes "relay") then relay_of words
    else None

-- whether the text is empty or begins with `#`
abbrev pub is_blank : List ℕ → Bool
is_blank [] = true
is_blank (b ∷ bs) = b == 35

-- the line of a text without its LF; a text with a CR is none
unfoldable pub line_of : List ℕ → Option Line
line_of text = if list_any (λ b. b == 13) text then None else if is_blank text then Some Blank else words_line (words_of text)
