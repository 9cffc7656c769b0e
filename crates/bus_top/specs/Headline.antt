-- The headline: what the program promises of every script, in three parts.
use Rattle.std.specs.Prelude.{◌≡◌, ℕ, ◌<◌, ◌≤◌, List, [], ◌∷◌, length, take, slice_get, Option, Some, IfSome}
use Rattle.std.specs.List.{AllByRecursion}
use Rattle.bus_types.specs.Change.{Test}
use Rattle.bus_types.specs.Window.{Span, span_size}
use Rattle.bus_types.specs.Timeline.{windows_between}
use Rattle.bus_types.specs.View.{view}
use Rattle.bus_types.specs.Cut.{cuts}
use Rattle.bus_types.specs.Relay.{Served, most_windows, IsLongestRun}
use Rattle.bus_types.specs.Relay.Served.{NotFound, Empty, TooSmall, Windows}
use Rattle.partition_filter.specs.Selection.{test_of}
use Rattle.checkpoint.specs.declared.mark.Mark.TheVariants.{Online}
use Rattle.bus_stores.specs.Memory.{last_mark}
use Rattle.bus_wire.specs.True.{reply_of}
use Rattle.client_switch.specs.Moves.Wish.{NoWish}
use Rattle.client_switch.specs.Client.{IsStored}
use Rattle.trace_script.specs.declared.line.Line.{Line}
use Rattle.trace_script.specs.declared.line.Line.TheVariants.{Poll, Stream}
use Rattle.trace_script.specs.Input.{lines_of}
use Rattle.history_core.specs.Script.{Follower, State, start, floor, stream_line}
use Rattle.history_core.specs.Steps.{place_of, after_reply}
use Rattle.history_core.specs.Run.{played, line_step, GoOn}
use Rattle.history_core.specs.Bus.{MemberState, Parts}

-- the state that the first so many lines of an input lead to, as far as they are taken
abbrev pub state_after : ℕ → List ℕ → State
state_after n bytes = (played start 0 0 (take n (lines_of bytes))).state

-- ---- what consumers hold

-- where a consumer's keeper stores the mark online at an SCN, or no mark and the SCN is 0, it holds exactly the table after these
-- windows up to the SCN, as the consumer's filter shows it
abbrev pub HoldsTable : List Span → MemberState → Type 0
HoldsTable windows m = (scn : ℕ) → IsStored (last_mark m.store.marks) (Online scn) → m.store.rows ≡ view (test_of m.client.filter) windows scn

-- ---- what the relay answers

-- the windows after an SCN that the relay has evicted, and those that it has published
abbrev pub evicted_after : State → ℕ → List Span
evicted_after s scn = windows_between scn (floor s) s.windows

abbrev pub published_after : State → ℕ → List Span
published_after s scn = windows_between scn s.end s.windows

-- the relay's answer to who asks for the windows after an SCN, as a filter cuts them, in at most so many bytes. Not found, exactly
-- where a window after the SCN was evicted. Else the next whole windows that fit; or why none do: there is none, or the next one
-- needs more bytes
abbrev pub IsAnswer : State → ℕ → Test → ℕ → Served → Type 0
IsAnswer s scn test max (NotFound n) = (0 < length (evicted_after s scn)) × (n ≡ floor s)
IsAnswer s scn test max (Empty n) = (evicted_after s scn ≡ []) × (published_after s scn ≡ []) × (n ≡ s.end)
IsAnswer s scn test max (TooSmall n) = (evicted_after s scn ≡ [])
    × ((next : Span) × (rest : List Span) × (cuts test (published_after s scn) ≡ next ∷ rest) × (n ≡ span_size next) × (max < n))
IsAnswer s scn test max (Windows ws) = (evicted_after s scn ≡ []) × (0 < length ws)
    × IsLongestRun most_windows max (cuts test (published_after s scn)) ws

-- who asked the relay by this line, which prints this text, was answered so: a `stream` line, and a poll of a consumer that is
-- online and doesn't want to begin again
abbrev pub IsAnswered : State → Line → List ℕ → Type 0
IsAnswered s (Stream scn filter max) text = (answer : Served) × IsAnswer s scn (test_of filter) max answer × (text ≡ stream_line answer)
IsAnswered s (Poll name max) text =
    (i scn : ℕ) (c : Follower) → place_of name s.consumers ≡ Some i → slice_get s.consumers i ≡ Some c → c.mark ≡ Online scn → c.wish ≡ NoWish →
    (answer : Served) × IsAnswer s scn (test_of c.filter) max answer × (text ≡ (after_reply c (reply_of answer)).1)
IsAnswered s line text = Unit {0}

-- ---- the promise

-- for the script in an input, where it is told, and the bus that is handed back, where one is
pub record Headline (input : Option (List ℕ)) (kept : Option Parts) : Type 0 where
  -- each consumer that is online holds exactly the filtered table of what the source has committed
  pub tables : IfSome kept (λ bus. AllByRecursion (HoldsTable bus.source) bus.members)
  -- from the state after some lines to that after more of them no consumer is lost, and the SCN of no stored mark falls
  pub onward : IfSome input (λ bytes. (n m : ℕ) → n ≤ m → GoOn (state_after n bytes).consumers (state_after m bytes).consumers)
  -- whatever line is taken after some lines, who asks the relay is answered by what it has evicted and published
  pub answers : IfSome input (λ bytes. (n : ℕ) (line : Line) (next : State) (text : List ℕ)
      → line_step (state_after n bytes) line ≡ Some (next, text) → IsAnswered (state_after n bytes) line text)
