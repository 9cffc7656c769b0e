-- A stream of windows of which some has come, and what a feed does to it.
use Rattle.std.specs.Prelude.{◌≡◌, ℕ, ◌+◌, false, List, [], ◌++◌, length, Option, Some, None, Result, Ok, Err}
use Rattle.bus_types.specs.Window.{Span}
use Rattle.event_codec.specs.Bytes.{changes_bytes}
use Rattle.event_codec.specs.Items.{Since}
use Rattle.event_codec.specs.Items.Front.{Unfinished, Refused}
use Rattle.event_codec.specs.Streams.{Come, after_windows, windows_bytes, Behind}
use Rattle.window_stream.specs.declared.splitter.SplitFault.{SplitFault}
use Rattle.window_stream.specs.declared.splitter.SplitFault.TheVariants.{Bad, NoMemory}

-- a stream of which some has come: what the next window follows, how many bytes the windows that were given take, the bytes
-- behind them, and the place of the head that can't stand, where there is one
pub record Split : Type 0 where
  pub since : Since
  pub given : ℕ
  pub rest : List ℕ
  pub bad : Option ℕ

-- what the first window of a stream above this SCN follows
abbrev pub above : ℕ → Since
above floor = record { floor = floor; started = false }

abbrev pub new_split : ℕ → Split
new_split floor = record { since = above floor; given = 0; rest = []; bad = None }

-- the windows that became whole, and what is behind them
pub record Gives (old : Split) (piece : List ℕ) (rest : List ℕ) (before after : List Span) : Type 0 where
  pub windows : List Span
  pub given : after ≡ before ++ windows
  pub bytes : old.rest ++ piece ≡ windows_bytes windows ++ rest
  pub come : Come old.since windows

-- all of a piece was taken
pub record TakesAll (old : Split) (piece : List ℕ) (new : Split) (before after : List Span) : Type 0 where
  pub gives : Gives old piece new.rest before after
  pub since : new.since ≡ after_windows old.since gives.windows
  pub count : new.given ≡ old.given + length (windows_bytes gives.windows)
  pub behind : Behind new.since new.rest Unfinished
  pub good : new.bad ≡ None

-- a complete head in a piece, or begun before it, can't stand: the windows before it were given
pub record FindsBad (old : Split) (piece : List ℕ) (found : ℕ) (new : Split) (before after : List Span) : Type 0 where
  pub rest : List ℕ
  pub gives : Gives old piece rest before after
  pub behind : Behind (after_windows old.since gives.windows) rest Refused
  pub place : found ≡ old.given + length (windows_bytes gives.windows) + length (changes_bytes behind.scn behind.changes)
  pub bad : new.bad ≡ Some found

abbrev pub FeedsGood : Result Unit SplitFault → Split → List ℕ → Split → List Span → List Span → Type 0
FeedsGood (Ok u) old piece new before after = TakesAll old piece new before after
FeedsGood (Err (Bad place)) old piece new before after = FindsBad old piece place new before after
FeedsGood (Err NoMemory) old piece new before after = (new ≡ old) × (after ≡ before)

-- what a feed does: a stream that is bad stays so and gives nothing
abbrev pub FeedsFrom : Option ℕ → Result Unit SplitFault → Split → List ℕ → Split → List Span → List Span → Type 0
FeedsFrom None result old piece new before after = FeedsGood result old piece new before after
FeedsFrom (Some place) result old piece new before after = (result ≡ Err (Bad place)) × (new ≡ old) × (after ≡ before)

abbrev pub Feeds : Result Unit SplitFault → Split → List ℕ → Split → List Span → List Span → Type 0
Feeds result old piece new before after = FeedsFrom old.bad result old piece new before after

-- ---- the whole stream, in however many pieces it came

-- behind windows of that size something is left that isn't whole yet, and the splitter keeps it
pub record Waits (from : Since) (size : ℕ) (left : List ℕ) (split : Split) : Type 0 where
  pub since : split.since ≡ from
  pub given : split.given ≡ size
  pub rest : split.rest ≡ left
  pub behind : Behind from left Unfinished

-- behind windows of that size a complete head can't stand, and that is its place
pub record Breaks (from : Since) (size : ℕ) (left : List ℕ) (found : ℕ) : Type 0 where
  pub behind : Behind from left Refused
  pub place : found ≡ size + length (changes_bytes behind.scn behind.changes)

abbrev pub StopsAs : Option ℕ → Since → ℕ → List ℕ → Split → Type 0
StopsAs None from size left split = Waits from size left split
StopsAs (Some found) from size left split = Breaks from size left found

-- a stream above this SCN reads as these windows, and as what the splitter knows of the rest
pub record ReadsAs (floor : ℕ) (stream : List ℕ) (windows : List Span) (split : Split) : Type 0 where
  pub rest : List ℕ
  pub parts : stream ≡ windows_bytes windows ++ rest
  pub come : Come (above floor) windows
  pub stops : StopsAs split.bad (after_windows (above floor) windows) (length (windows_bytes windows)) rest split

-- the windows that were appended are those with which the stream goes on
pub record GoesOn (floor : ℕ) (stream : List ℕ) (windows before after : List Span) (split : Split) : Type 0 where
  pub others : List Span
  pub given : after ≡ before ++ others
  pub reads : ReadsAs floor stream (windows ++ others) split

-- a piece behind a stream that reads as these windows: the stream and the piece read as these and the appended ones, and
-- are bad at a place exactly where that is answered. After want of memory the stream is as before
abbrev pub Carries : Result Unit SplitFault → ℕ → List ℕ → List ℕ → List Span → List Span → List Span → Split → Type 0
Carries (Ok u) floor stream piece windows before after split = GoesOn floor (stream ++ piece) windows before after split × (split.bad ≡ None)
Carries (Err (Bad place)) floor stream piece windows before after split = GoesOn floor (stream ++ piece) windows before after split
    × (split.bad ≡ Some place)
Carries (Err NoMemory) floor stream piece windows before after split = ReadsAs floor stream windows split × (after ≡ before)
