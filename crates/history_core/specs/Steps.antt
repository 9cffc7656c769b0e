-- What each line of a script does to the bus.
use Rattle.std.specs.Prelude.{ℕ, ◌+◌, min, true, if◌then◌else◌, ◌||◌, nat_lt, nat_le, List, [], ◌∷◌, ◌++◌, length, take, bytes_eq, Option, Some, None, option_map, option_and_then, is_some, slice_get, slice_set}
use Rattle.bus_types.specs.declared.change.Change.{Change}
use Rattle.bus_types.specs.Change.{Test}
use Rattle.bus_types.specs.Window.{Span, window_fault}
use Rattle.bus_types.specs.Timeline.{end_of, end_from, windows_between}
use Rattle.bus_types.specs.Relay.{stream}
use Rattle.partition_filter.specs.Selection.{Selection, test_of}
use Rattle.bus_stores.specs.declared.keeper.Stop.{Stop}
use Rattle.bus_stores.specs.declared.keeper.Stop.TheVariants.{Before, After}
use Rattle.bus_types.specs.Counting.{next_count}
use Rattle.checkpoint.specs.declared.mark.Mark.{Mark}
use Rattle.checkpoint.specs.declared.mark.Mark.TheVariants.{Online}
use Rattle.checkpoint.specs.Mark.{mark_text}
use Rattle.event_codec.specs.Questions.{Question, Reply}
use Rattle.client_switch.specs.Moves.{Turn, question, turn}
use Rattle.client_switch.specs.Moves.Wish.{NoWish}
use Rattle.event_codec.specs.Questions.Question.{Stream, Start, Scan, Target, Catchup, Delta}
use Rattle.bus_wire.specs.True.{Boot, reply_of, boot_reply}
use Rattle.history_core.specs.Script.{Follower, State, floor, numbers_line, stream_line, reply_text, stopped_line, shown, summed}
use Rattle.generated_windows.specs.Generated.{generated}
use Rattle.trace_script.specs.Printed.{relay_line, gap_line}

-- what a line leaves: the state after it and the text that it prints, or nothing where it is against a rule
abbrev pub Step : Type 0
Step = Option (State × List ℕ)

-- a line that isn't blank has come
abbrev pub begin : Step → Step
begin step = option_map (λ r. (record r.0 { begun = true }, r.1)) step

-- ---- consumers

-- where the consumer of this name stands among these, the first of which stands at a place
abbrev pub place_from : ℕ → List ℕ → List Follower → Option ℕ
place_from i name [] = None
place_from i name (c ∷ cs) = if bytes_eq c.name name then Some i else place_from (i + 1) name cs

abbrev pub place_of : List ℕ → List Follower → Option ℕ
place_of name consumers = place_from 0 name consumers

-- what a line does that names a consumer, by its place; nothing where the name is unknown
abbrev pub at_name : State → List ℕ → (ℕ → Follower → State × List ℕ) → Step
at_name s name act = option_and_then (λ i. option_map (act i) (slice_get s.consumers i)) (place_of name s.consumers)

-- the consumer at a place is another
abbrev pub with_consumer : State → ℕ → Follower → State
with_consumer s i c = record s { consumers = slice_set s.consumers i c }

-- ---- the source and the relay

abbrev pub most_consumers : ℕ
most_consumers = 64

abbrev pub most_commits : ℕ
most_commits = 1000000

-- the room of the relay is said in the first line that isn't blank, or not at all
unfoldable pub relay_step : State → ℕ → ℕ → Step
relay_step s bytes windows = if s.begun then None else Some (record s { room = record { bytes = bytes; windows = windows } }, [])

-- a consumer that follows the rows of a filter from before the first window, without a row and a stored mark
abbrev pub new_follower : List ℕ → Selection → Follower
new_follower name filter = record { name = name; filter = filter; mark = Online 0; wish = NoWish; armed = None; marks = []; shows = 0 }

unfoldable pub consumer_step : State → List ℕ → Selection → Step
consumer_step s name filter =
    if is_some (place_of name s.consumers) || nat_le most_consumers (length s.consumers) then None
    else Some (record s { consumers = s.consumers ++ new_follower name filter ∷ [] }, [])

abbrev pub next_window : State → ℕ → List Change → Span
next_window s scn changes = record { scn = scn; prev = end_of s.windows; changes = changes }

-- a commit appends its window
unfoldable pub commit_step : State → ℕ → List Change → Step
commit_step s scn changes =
    let w = next_window s scn changes in
    if is_some (window_fault w) then None
    else if nat_le most_commits (length s.windows) then None
    else Some (record s { windows = s.windows ++ w ∷ [] }, [])

-- behind this SCN there is room for the windows of a line
abbrev pub last_generated : ℕ
last_generated = 9223372036854475807

-- windows are made and committed: not where an SCN or the number of windows could come to be too great
unfoldable pub gen_step : State → ℕ → ℕ → Step
gen_step s seed count =
    if nat_lt last_generated (end_of s.windows) then None
    else if nat_lt most_commits (length s.windows + count) then None
    else Some (record s { windows = s.windows ++ generated count seed (end_of s.windows) }, [])

-- the SCN of the last of the first so many windows behind an SCN up to another, or the SCN
abbrev pub end_after : List Span → ℕ → ℕ → ℕ → ℕ
end_after ws scn end count = end_from scn (take count (windows_between scn end ws))

-- the newest published SCN after the relay published so many more commits, or those there are
abbrev pub fed : State → ℕ → ℕ
fed s count = end_after s.windows s.end (end_of s.windows) count

unfoldable pub feed_step : State → ℕ → Step
feed_step s count = let next = record s { end = fed s count } in Some (next, relay_line (floor next) next.end)

-- what the relay is asked by no consumer
unfoldable pub stream_step : State → ℕ → Test → ℕ → Step
stream_step s scn test max = Some (s, stream_line (stream s.windows (floor s) s.end scn test max))

-- ---- the bootstrap

-- the bootstrap has other numbers, which are printed
abbrev pub booted : State → Boot → State × List ℕ
booted s b = (record s { boot = b }, numbers_line b)

-- the SCN of the newest logged window after so many more of the windows that the relay published were logged, or those there are
abbrev pub logged : State → ℕ → ℕ
logged s count = end_after s.windows s.boot.high s.end count

-- where the relay has evicted windows that weren't logged, it says so
unfoldable pub log_step : State → ℕ → Step
log_step s count = Some (if nat_lt s.boot.high (floor s) then (s, gap_line (floor s)) else booted s (record s.boot { high = logged s count }))

-- the SCN up to which windows are applied after so many more of the logged ones were, or those there are
abbrev pub applied : State → ℕ → ℕ
applied s count = end_after s.windows s.boot.applied s.boot.high count

unfoldable pub apply_step : State → ℕ → Step
apply_step s count = Some (booted s (record s.boot { applied = applied s count }))

-- the SCN of the newest window that is neither above the one asked nor above applied, where it is above base, else base
abbrev pub trimmed : State → ℕ → ℕ
trimmed s scn = end_from s.boot.base (windows_between s.boot.base (min scn s.boot.applied) s.windows)

unfoldable pub trim_step : State → ℕ → Step
trim_step s scn = Some (booted s (record s.boot { base = trimmed s scn }))

-- a bootstrap that is opened again from its log and its keeper has the same numbers
unfoldable pub restart_step : State → Step
restart_step s = Some (booted s s.boot)

-- ---- polls

-- the reply to who asks for the rows of a test, of a relay that evicted the windows up to floor and published those up to end,
-- and of a bootstrap with these numbers: the relay's to who asks for windows, else the bootstrap's
abbrev pub replied : List Span → ℕ → ℕ → Boot → Test → Question → Reply
replied ws floor end boot test (Stream scn most) = reply_of (stream ws floor end scn test most)
replied ws floor end boot test (Start since fresh) = boot_reply ws test boot (Start since fresh)
replied ws floor end boot test (Scan begins cursor most) = boot_reply ws test boot (Scan begins cursor most)
replied ws floor end boot test (Target begins least) = boot_reply ws test boot (Target begins least)
replied ws floor end boot test (Catchup at target most) = boot_reply ws test boot (Catchup at target most)
replied ws floor end boot test (Delta since target cursor most) = boot_reply ws test boot (Delta since target cursor most)

-- a commit counts: the mark is set
abbrev pub marked : Follower → Turn → Follower
marked c t = record c { mark = t.mark; marks = c.marks ++ mark_text t.mark ∷ []; wish = t.wish }

-- a client that is opened again from its keeper, whose stop was met, wants nothing
abbrev pub reopened : Follower → Follower
reopened c = record c { wish = NoWish; armed = None }

-- a consumer whose commit met this stop, or none, and what is printed of it: the one before it counts leaves the mark as it is
abbrev pub committed : Option Stop → Follower → Turn → List ℕ → Follower × List ℕ
committed None c t text = (marked c t, text)
committed (Some Before) c t text = (reopened c, stopped_line Before)
committed (Some After) c t text = (reopened (marked c t), stopped_line After)

-- a consumer after a turn, and what is printed of it
abbrev pub turned : Follower → Turn → List ℕ → Follower × List ℕ
turned c t text = if t.commits then committed c.armed c t text else (record c { wish = t.wish }, text)

-- a consumer that took a reply, and what is printed of it
abbrev pub after_reply : Follower → Reply → Follower × List ℕ
after_reply c reply = turned c (turn c.mark reply) (reply_text c.mark reply)

-- one ask of a consumer, and its reply
abbrev pub asked : State → Follower → ℕ → Follower × List ℕ
asked s c max = after_reply c (replied s.windows (floor s) s.end s.boot (test_of c.filter) (question c.mark c.wish max))

unfoldable pub poll_step : State → List ℕ → ℕ → Step
poll_step s name max = at_name s name (λ i c. (with_consumer s i (asked s c max).0, (asked s c max).1))

-- ---- crashes, stops and tables

-- a client that is opened again from its keeper wants nothing
unfoldable pub crash_step : State → List ℕ → Step
crash_step s name = at_name s name (λ i c. (with_consumer s i (record c { wish = NoWish }), []))

-- the next commit meets this stop
unfoldable pub stop_step : State → List ℕ → Stop → Step
stop_step s name stop = at_name s name (λ i c. (with_consumer s i (record c { armed = Some stop }), []))

-- a consumer whose rows were shown, where it is online
abbrev pub looked_at : Mark → Follower → Follower
looked_at (Online scn) c = record c { shows = next_count c.shows }
looked_at mark c = c

unfoldable pub show_step : State → List ℕ → Step
show_step s name = at_name s name (λ i c. (with_consumer s i (looked_at c.mark c), shown s.windows c c.mark))

unfoldable pub sum_step : State → List ℕ → Step
sum_step s name = at_name s name (λ i c. (with_consumer s i (looked_at c.mark c), summed s.windows c c.mark))
