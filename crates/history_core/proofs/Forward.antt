-- Consumers over the lines of a script.
use Rattle.std.proofs.Common.{◌≡◌, ℕ, zero, suc, ◌+◌, ◌-◌, ◌<◌, ◌≤◌, max, Bool, true, false, cond, ◌==◌, ◌&&◌, ◌||◌, nat_lt, nat_le, List, [], ◌∷◌, ◌++◌, length, Option, Some, None, option_map, refl, sym, ap, ◌∙◌, subst, arith}
use Rattle.std.specs.Option.{option_and_then}
use Rattle.std.specs.List.{slice_get, slice_set, AllByRecursion}
use Rattle.std.proofs.lemmas.Option.{some_pair_parts}
use Rattle.std.proofs.lemmas.Bool.{ltb-true, ltb-false, leb-false}
use Rattle.bus_types.specs.declared.change.Change.{Change}
use Rattle.bus_types.specs.declared.row.Cursor.{Cursor}
use Rattle.bus_types.specs.Change.{Test, change_size}
use Rattle.bus_types.specs.Window.{Span, span_size}
use Rattle.bus_types.specs.Timeline.{end_from, windows_between}
use Rattle.bus_types.specs.Rows.{rest_of}
use Rattle.bus_types.specs.View.{view}
use Rattle.bus_types.specs.Cut.{cuts}
use Rattle.bus_types.specs.Relay.{Served, longest_run, most_windows, fitting, stream}
use Rattle.bus_types.specs.Relay.Served.{NotFound as NoWindow, Empty as NothingNew, TooSmall as TooLarge, Windows as SomeWindows}
use Rattle.event_codec.specs.declared.answer.Answer.TheVariants.{TooSmall, Behind, LogGone, StartDelta, StartSnapshot, Target as GoTo}
use Rattle.partition_filter.specs.Selection.{test_of}
use Rattle.bus_stores.specs.declared.keeper.Stop.{Stop}
use Rattle.bus_stores.specs.declared.keeper.Stop.TheVariants.{Before, After}
use Rattle.bus_stores.specs.Memory.{stop_at}
use Rattle.checkpoint.specs.declared.mark.Mark.{Mark}
use Rattle.checkpoint.specs.declared.mark.Mark.TheVariants.{Online, Delta, Snapshot, Scanned, Catchup}
use Rattle.checkpoint.specs.Mark.{floor_of}
use Rattle.event_codec.specs.Questions.{Reply}
use Rattle.client_switch.specs.Moves.{Wish, Turn, question, turn, replayed}
use Rattle.client_switch.specs.Moves.Wish.{NoWish, StartWish, FreshWish}
use Rattle.event_codec.specs.Questions.Question.{Start}
use Rattle.event_codec.specs.Questions.Reply.{Rows, Changes, Only}
use Rattle.bus_types.specs.Latest.{last_changes, changes_after}
use Rattle.event_codec.specs.Chunks.{items_within, frame_size, chunk_of, puts_of}
use Rattle.bus_wire.specs.True.{Boot, reply_of, replay_of, boot_reply}
use Rattle.trace_script.specs.declared.line.Line.{Line}
use Rattle.trace_script.specs.declared.line.Line.TheVariants.{Blank, Relay, Consumer, Commit, Gen, Feed, Log, Apply, Trim, RestartBoot, Poll, Crash, Stop as StopLine, Show, Sum, Stream}
use Rattle.trace_script.specs.Lines.{line_of}
use Rattle.trace_script.specs.Spelling.{is_in_range}
use Rattle.trace_script.specs.Input.{RawLine, is_too_long}
use Rattle.history_core.specs.Script.{Follower, State, floor, reply_text, shown, summed}
use Rattle.trace_script.specs.Printed.{gap_line}
use Rattle.history_core.specs.Steps.{Step, begin, place_of, at_name, with_consumer, booted, logged, replied, committed, turned, asked, looked_at, relay_step, consumer_step, commit_step, gen_step, feed_step, log_step, apply_step, trim_step, restart_step, poll_step, crash_step, stop_step, show_step, sum_step, stream_step}
use Rattle.history_core.specs.Run.{act, line_step, text_step, TooLongAt, Played, ended, play_on, played, IsForward, AreForward, GoOn}

-- what holds of both values holds of the choice
either : {A : Type 0} (P : A → Type 0) (b : Bool) (x y : A) → P x → P y → P (cond b x y)
either P true x y p q = p
either P false x y p q = q

-- what holds of each value under its own test
either_by : {A : Type 0} (P : A → Type 0) (b : Bool) (x y : A) → (b ≡ true → P x) → (b ≡ false → P y) → P (cond b x y)
either_by P true x y p q = p refl
either_by P false x y p q = q refl

-- ---- consumers

-- the consumers go on, and their marks lead forward
abbrev pub Ahead : List Follower → List Follower → Type 0
Ahead cs ds = GoOn cs ds × AreForward ds

go_on_same : (cs : List Follower) → GoOn cs cs
go_on_same [] = tt
go_on_same (c ∷ cs) = (refl, refl, omega arith, go_on_same cs)

go_on_push : (cs more : List Follower) → GoOn cs (cs ++ more)
go_on_push [] more = tt
go_on_push (c ∷ cs) more = (refl, refl, omega arith, go_on_push cs more)

go_on_set : (cs : List Follower) (i : ℕ) (c d : Follower) → slice_get cs i ≡ Some c → d.name ≡ c.name → d.filter ≡ c.filter → floor_of c.mark ≤ floor_of d.mark → GoOn cs (slice_set cs i d)
go_on_set [] i c d at name filter later = tt
go_on_set (b ∷ cs) zero c d at name filter later =
    let same : b ≡ c = cc in
    (name ∙ sym (ap (λ (x : Follower). x.name) same), filter ∙ sym (ap (λ (x : Follower). x.filter) same), subst (λ (x : Follower). floor_of x.mark ≤ floor_of d.mark) (sym same) later, go_on_same cs)
go_on_set (b ∷ cs) (suc i) c d at name filter later = (refl, refl, omega arith, go_on_set cs i c d at name filter later)

go_on_trans : (first mid last : List Follower) → GoOn first mid → GoOn mid last → GoOn first last
go_on_trans [] mid last p q = tt
go_on_trans (a ∷ first) [] last p q = absurd p
go_on_trans (a ∷ first) (b ∷ mid) [] p q = absurd q
go_on_trans (a ∷ first) (b ∷ mid) (c ∷ last) p q =
    let one = p.2 in
    let two = q.2 in
    (q.0 ∙ p.0, q.1 ∙ p.1, omega arith, go_on_trans first mid last p.3 q.3)

forward_push : (cs : List Follower) (c : Follower) → AreForward cs → IsForward c.mark → AreForward (cs ++ c ∷ [])
forward_push [] c h f = (f, tt)
forward_push (b ∷ cs) c h f = (h.0, forward_push cs c h.1 f)

forward_set : (cs : List Follower) (i : ℕ) (c : Follower) → AreForward cs → IsForward c.mark → AreForward (slice_set cs i c)
forward_set [] i c h f = tt
forward_set (b ∷ cs) zero c h f = (f, h.1)
forward_set (b ∷ cs) (suc i) c h f = (h.0, forward_set cs i c h.1 f)

forward_at : (cs : List Follower) (i : ℕ) (c : Follower) → slice_get cs i ≡ Some c → AreForward cs → IsForward c.mark
forward_at [] i c at h = absurd cc
forward_at (b ∷ cs) zero c at h = subst (λ (x : Follower). IsForward x.mark) (let same : b ≡ c = cc in same) h.0
forward_at (b ∷ cs) (suc i) c at h = forward_at cs i c at h.1

-- ---- windows

-- windows above an SCN
abbrev AreAbove : ℕ → List Span → Type 0
AreAbove scn ws = AllByRecursion (λ (w : Span). scn < w.scn) ws

between_above : (low high : ℕ) (ws : List Span) → AreAbove low (windows_between low high ws)
between_above low high [] = tt
between_above low high (w ∷ ws) = kept (nat_lt low w.scn) (nat_le w.scn high) (ltb-true low w.scn) (between_above low high ws)
  where
    kept : (b c : Bool) → (b ≡ true → low < w.scn) → AreAbove low (windows_between low high ws) → AreAbove low (cond (b && c) (w ∷ windows_between low high ws) (windows_between low high ws))
    kept true true h rest = (h refl, rest)
    kept true false h rest = rest
    kept false true h rest = rest
    kept false false h rest = rest

cuts_above : (scn : ℕ) (test : Test) (ws : List Span) → AreAbove scn ws → AreAbove scn (cuts test ws)
cuts_above scn test [] h = tt
cuts_above scn test (w ∷ ws) h = (h.0, cuts_above scn test ws h.1)

run_above : (scn count most : ℕ) (ws : List Span) → AreAbove scn ws → AreAbove scn (longest_run count most ws)
run_above scn count most [] h = tt
run_above scn count most (w ∷ ws) h =
    either (AreAbove scn) (nat_lt 0 count && nat_le (span_size w) most) (w ∷ longest_run (count - 1) (most - span_size w) ws) [] (h.0, run_above scn (count - 1) (most - span_size w) ws h.1) tt

-- windows above an SCN end at or above it
end_above : (scn from : ℕ) (ws : List Span) → scn ≤ from → AreAbove scn ws → scn ≤ end_from from ws
end_above scn from [] le h = le
end_above scn from (w ∷ ws) le h =
    let above = h.0 in
    end_above scn w.scn ws (omega arith) h.1

-- ---- marks

-- a mark after another: the SCN at which it stands isn't below, and it leads forward
abbrev Passes : Mark → Mark → Type 0
Passes m n = (floor_of m ≤ floor_of n) × IsForward n

-- a reply sets such a mark
abbrev Keeps : Mark → Reply → Type 0
Keeps mark reply = Passes mark (turn mark reply).mark

passes_same : (mark : Mark) → IsForward mark → Passes mark mark
passes_same mark h = (omega arith, h)

fitting_passes : (scn most : ℕ) (ws : List Span) → AreAbove scn ws → Keeps (Online scn) (reply_of (fitting most ws))
fitting_passes scn most [] h = (omega arith, tt)
fitting_passes scn most (w ∷ ws) h =
    either (λ (a : Served). Keeps (Online scn) (reply_of a)) (nat_lt most (span_size w)) (TooLarge (span_size w)) (SomeWindows (longest_run most_windows most (w ∷ ws)))
    (omega arith, tt) (end_above scn scn (longest_run most_windows most (w ∷ ws)) (omega arith) (run_above scn most_windows most (w ∷ ws) h), tt)

stream_passes : (ws : List Span) (floor end scn : ℕ) (test : Test) (most : ℕ) → Keeps (Online scn) (reply_of (stream ws floor end scn test most))
stream_passes ws floor end scn test most =
    let P : Served → Type 0 = λ a. Keeps (Online scn) (reply_of a) in
    let rest : Served = fitting most (cuts test (windows_between scn end ws)) in
    either P (nat_lt scn floor) (NoWindow floor) (cond (nat_le end scn) (NothingNew end) rest) (omega arith, tt)
    (either P (nat_le end scn) (NothingNew end) rest (omega arith, tt) (fitting_passes scn most _ (cuts_above scn test _ (between_above scn end ws))))

-- what holds of a chunk
chunk_holds : (P : Reply → Type 0) (make : List Change → Bool → Reply) (most : ℕ) (cs : List Change) → ((need : ℕ) → P (Only (TooSmall need))) → ((run : List Change) (more : Bool) → P (make run more)) → P (chunk_of make most cs)
chunk_holds P make most [] small made = either P (nat_lt most frame_size) (Only (TooSmall frame_size)) (make [] false) (small frame_size) (made [] false)
chunk_holds P make most (c ∷ cs) small made =
    let run : List Change = items_within (most - frame_size) (c ∷ cs) in
    let more : Bool = nat_lt (length run) (length (c ∷ cs)) in
    either P (nat_lt most (change_size c + frame_size)) (Only (TooSmall (change_size c + frame_size))) (make run more) (small (change_size c + frame_size)) (made run more)

-- ---- replies of a bootstrap

-- a replay ends at its target, or goes on
replayed_passes : (since begins target at next : ℕ) → since ≤ target → Passes (Catchup since begins target at) (replayed since begins target next)
replayed_passes since begins target at next h = either (λ (m : Mark). Passes (Catchup since begins target at) m) (next == target) (Online target) (Catchup since begins target next) (h, tt) (omega arith, h)

replay_passes : (since begins target at high most : ℕ) (ws : List Span) → since ≤ target → Keeps (Catchup since begins target at) (replay_of high most ws)
replay_passes since begins target at high most [] h = (omega arith, h)
replay_passes since begins target at high most (w ∷ ws) h =
    let run : List Span = longest_run most_windows most (w ∷ ws) in
    either (λ (a : Served). Keeps (Catchup since begins target at) (reply_of a)) (nat_lt most (span_size w)) (TooLarge (span_size w)) (SomeWindows run) (omega arith, h) (replayed_passes since begins target at (end_from at run) h)

delta_passes : (since target : ℕ) (cursor : Cursor) → since ≤ target → (run : List Change) (more : Bool) → Keeps (Delta since target cursor) (Changes run target more)
delta_passes since target cursor h run true = (omega arith, h)
delta_passes since target cursor h run false = (h, tt)

scan_passes : (since begins top applied : ℕ) (cursor : Cursor) (run : List Change) (more : Bool) → Keeps (Snapshot since begins top cursor) (Rows run applied more)
scan_passes since begins top applied cursor run true = (omega arith, tt)
scan_passes since begins top applied cursor run false = (omega arith, tt)

target_passes : (since begins top target : ℕ) → max since top ≤ target → Keeps (Scanned since begins top) (Only (GoTo target))
target_passes since begins top target h =
    either (λ (m : Mark). Passes (Scanned since begins top) m) (target == begins) (Online target) (Catchup since begins target begins) (omega arith, tt) (omega arith, omega arith)

start_passes : (ws : List Span) (boot : Boot) (test : Test) (mark : Mark) (fresh : Bool) → IsForward mark → Keeps mark (boot_reply ws test boot (Start (floor_of mark) fresh))
start_passes ws boot test mark false h =
    let delta : Reply = Only (StartDelta boot.high) in
    let snapshot : Reply = Only (StartSnapshot boot.applied) in
    either_by (Keeps mark) (nat_le boot.high (floor_of mark)) (Only (Behind boot.high)) (cond (nat_le boot.base (floor_of mark)) delta snapshot)
    (λ e. (omega arith, h))
    (λ e. (let below = leb-false boot.high (floor_of mark) e in either (Keeps mark) (nat_le boot.base (floor_of mark)) delta snapshot (omega arith, omega arith) (omega arith, tt)))
start_passes ws boot test mark true h =
    either (Keeps mark) (nat_lt boot.high (floor_of mark)) (Only (Behind boot.high)) (Only (StartSnapshot boot.applied)) (omega arith, h) (omega arith, tt)

second_fails : (a b : Bool) → (a || b) ≡ false → b ≡ false
second_fails true b e = absurd cc
second_fails false b e = e

-- what a mark asks next
next_passes : (ws : List Span) (floor end : ℕ) (boot : Boot) (test : Test) (mark : Mark) (most : ℕ) → IsForward mark → Keeps mark (replied ws floor end boot test (question mark NoWish most))
next_passes ws floor end boot test (Online scn) most h = stream_passes ws floor end scn test most
next_passes ws floor end boot test (Delta since target cursor) most h =
    let P : Reply → Type 0 = Keeps (Delta since target cursor) in
    let chunk : Reply = chunk_of (λ cs more. Changes cs target more) most (changes_after cursor (last_changes ws test since target)) in
    either P (nat_lt since boot.base) (Only (LogGone boot.base)) (cond (nat_lt boot.high target) (Only (Behind boot.high)) chunk) (omega arith, h)
    (either P (nat_lt boot.high target) (Only (Behind boot.high)) chunk (omega arith, h)
    (chunk_holds P (λ cs more. Changes cs target more) most (changes_after cursor (last_changes ws test since target)) (λ need. (omega arith, h)) (delta_passes since target cursor h)))
next_passes ws floor end boot test (Snapshot since begins top cursor) most h =
    let P : Reply → Type 0 = Keeps (Snapshot since begins top cursor) in
    let chunk : Reply = chunk_of (λ cs more. Rows cs boot.applied more) most (puts_of (rest_of cursor (view test ws boot.applied))) in
    either P (nat_lt begins boot.base) (Only (LogGone boot.base)) (cond (nat_lt boot.applied begins) (Only (Behind boot.applied)) chunk) (omega arith, tt)
    (either P (nat_lt boot.applied begins) (Only (Behind boot.applied)) chunk (omega arith, tt)
    (chunk_holds P (λ cs more. Rows cs boot.applied more) most (puts_of (rest_of cursor (view test ws boot.applied))) (λ need. (omega arith, tt)) (scan_passes since begins top boot.applied cursor)))
next_passes ws floor end boot test (Scanned since begins top) most h =
    let P : Reply → Type 0 = Keeps (Scanned since begins top) in
    let behind : Bool = nat_lt boot.high begins || nat_lt boot.high (max since top) in
    let found : Reply = Only (GoTo boot.high) in
    either P (nat_lt begins boot.base) (Only (LogGone boot.base)) (cond behind (Only (Behind boot.high)) found) (omega arith, tt)
    (either_by P behind (Only (Behind boot.high)) found (λ e. (omega arith, tt)) (λ e. target_passes since begins top boot.high (ltb-false boot.high (max since top) (second_fails (nat_lt boot.high begins) (nat_lt boot.high (max since top)) e))))
next_passes ws floor end boot test (Catchup since begins target at) most h =
    let P : Reply → Type 0 = Keeps (Catchup since begins target at) in
    let replay : Reply = replay_of boot.high most (cuts test (windows_between at target ws)) in
    either P (nat_lt at boot.base) (Only (LogGone boot.base)) (cond (nat_lt boot.high target) (Only (Behind boot.high)) replay) (omega arith, h)
    (either P (nat_lt boot.high target) (Only (Behind boot.high)) replay (omega arith, h) (replay_passes since begins target at boot.high most (cuts test (windows_between at target ws)) h))

-- one ask and its reply
turn_passes : (ws : List Span) (floor end : ℕ) (boot : Boot) (test : Test) (mark : Mark) (wish : Wish) (most : ℕ) → IsForward mark → Keeps mark (replied ws floor end boot test (question mark wish most))
turn_passes ws floor end boot test mark NoWish most h = next_passes ws floor end boot test mark most h
turn_passes ws floor end boot test mark StartWish most h = start_passes ws boot test mark false h
turn_passes ws floor end boot test mark FreshWish most h = start_passes ws boot test mark true h

-- a consumer after another: the same one, whose mark passes
abbrev Follows : Follower → Follower → Type 0
Follows c d = (d.name ≡ c.name) × (d.filter ≡ c.filter) × Passes c.mark d.mark

committed_follows : (stop : Option Stop) (c : Follower) (t : Turn) (text : List ℕ) → IsForward c.mark → Passes c.mark t.mark → Follows c (committed stop c t text).0
committed_follows None c t text h p = (refl, refl, p)
committed_follows (Some Before) c t text h p = (refl, refl, passes_same c.mark h)
committed_follows (Some After) c t text h p = (refl, refl, p)

turned_follows : (c : Follower) (t : Turn) (text : List ℕ) → IsForward c.mark → Passes c.mark t.mark → Follows c (turned c t text).0
turned_follows c t text h p =
    either (λ (a : Follower × List ℕ). Follows c a.0) t.commits (committed c.armed c t text) (record c { wish = t.wish }, text) (committed_follows c.armed c t text h p) (refl, refl, passes_same c.mark h)

asked_follows : (s : State) (c : Follower) (most : ℕ) → IsForward c.mark → Follows c (asked s c most).0
asked_follows s c most h =
    let reply : Reply = replied s.windows (floor s) s.end s.boot (test_of c.filter) (question c.mark c.wish most) in
    turned_follows c (turn c.mark reply) (reply_text c.mark reply) h (turn_passes s.windows (floor s) s.end s.boot (test_of c.filter) c.mark c.wish most h)

looked_follows : (mark : Mark) (c : Follower) → IsForward c.mark → Follows c (looked_at mark c)
looked_follows (Online scn) c h = (refl, refl, passes_same c.mark h)
looked_follows (Delta since target cursor) c h = (refl, refl, passes_same c.mark h)
looked_follows (Snapshot since begins top cursor) c h = (refl, refl, passes_same c.mark h)
looked_follows (Scanned since begins top) c h = (refl, refl, passes_same c.mark h)
looked_follows (Catchup since begins target at) c h = (refl, refl, passes_same c.mark h)

-- ---- lines

-- a step and where it leads
abbrev Leads : State → Step → Type 0
Leads s step = (next : State) (text : List ℕ) → step ≡ Some (next, text) → Ahead s.consumers next.consumers

leads_none : (s : State) → Leads s None
leads_none s next text e = absurd cc

leads_some : (s next : State) (text : List ℕ) → Ahead s.consumers next.consumers → Leads s (Some (next, text))
leads_some s next text g later other e = subst (λ (x : State). Ahead s.consumers x.consumers) (some_pair_parts next later text other e).0 g

-- a line that isn't blank marks its step, which changes no consumer
leads_begin : (s : State) (step : Step) → Leads s step → Leads s (begin step)
leads_begin s None h = leads_none s
leads_begin s (Some r) h = leads_some s (record r.0 { begun = true }) r.1 (h r.0 r.1 refl)

-- what a line does that names a consumer
leads_named : (s : State) (name : List ℕ) (step : Follower → Follower × List ℕ) → AreForward s.consumers → ((c : Follower) → IsForward c.mark → Follows c (step c).0) → Leads s (at_name s name (λ i c. (with_consumer s i (step c).0, (step c).1)))
leads_named s name step h f = found (place_of name s.consumers)
  where
    done : (i : ℕ) (o : Option Follower) → slice_get s.consumers i ≡ o → Leads s (option_map (λ (c : Follower). (with_consumer s i (step c).0, (step c).1)) o)
    done i None at = leads_none s
    done i (Some c) at =
        let next = f c (forward_at s.consumers i c at h) in
        leads_some s (with_consumer s i (step c).0) (step c).1 (go_on_set s.consumers i c (step c).0 at next.0 next.1 next.2.0, forward_set s.consumers i (step c).0 h next.2.1)

    found : (o : Option ℕ) → Leads s (option_and_then (λ i. option_map (λ (c : Follower). (with_consumer s i (step c).0, (step c).1)) (slice_get s.consumers i)) o)
    found None = leads_none s
    found (Some i) = done i (slice_get s.consumers i) refl

leads_act : (s : State) (line : Line) → AreForward s.consumers → Leads s (act s line)
unfolding relay_step consumer_step commit_step gen_step feed_step log_step apply_step trim_step restart_step poll_step crash_step stop_step show_step sum_step stream_step
leads_act s Blank h = leads_some s s [] (go_on_same s.consumers, h)
leads_act s (Relay bytes windows) h = leads_begin s (relay_step s bytes windows) (either (Leads s) _ _ _ (leads_none s) (leads_some s _ _ (go_on_same s.consumers, h)))
leads_act s (Consumer name filter) h = leads_begin s (consumer_step s name filter) (either (Leads s) _ _ _ (leads_none s) (leads_some s _ _ (go_on_push s.consumers _, forward_push s.consumers _ h tt)))
leads_act s (Commit scn changes) h = leads_begin s (commit_step s scn changes) (either (Leads s) _ _ _ (leads_none s) (either (Leads s) _ _ _ (leads_none s) (leads_some s _ _ (go_on_same s.consumers, h))))
leads_act s (Gen seed count) h = leads_begin s (gen_step s seed count) (either (Leads s) _ _ _ (leads_none s) (either (Leads s) _ _ _ (leads_none s) (leads_some s _ _ (go_on_same s.consumers, h))))
leads_act s (Feed count) h = leads_begin s (feed_step s count) (leads_some s _ _ (go_on_same s.consumers, h))
leads_act s (Log count) h =
    leads_begin s (log_step s count)
    (either (λ (r : State × List ℕ). Leads s (Some r)) (nat_lt s.boot.high (floor s)) (s, gap_line (floor s)) (booted s (record s.boot { high = logged s count })) (leads_some s s _ (go_on_same s.consumers, h)) (leads_some s _ _ (go_on_same s.consumers, h)))
leads_act s (Apply count) h = leads_begin s (apply_step s count) (leads_some s _ _ (go_on_same s.consumers, h))
leads_act s (Trim scn) h = leads_begin s (trim_step s scn) (leads_some s _ _ (go_on_same s.consumers, h))
leads_act s RestartBoot h = leads_begin s (restart_step s) (leads_some s _ _ (go_on_same s.consumers, h))
leads_act s (Poll name most) h = leads_begin s (poll_step s name most) (leads_named s name (λ c. asked s c most) h (λ c f. asked_follows s c most f))
leads_act s (Crash name) h = leads_begin s (crash_step s name) (leads_named s name (λ c. (record c { wish = NoWish }, [])) h (λ c f. (refl, refl, passes_same c.mark f)))
leads_act s (StopLine name after) h = leads_begin s (stop_step s name (stop_at after)) (leads_named s name (λ c. (record c { armed = Some (stop_at after) }, [])) h (λ c f. (refl, refl, passes_same c.mark f)))
leads_act s (Show name) h = leads_begin s (show_step s name) (leads_named s name (λ c. (looked_at c.mark c, shown s.windows c c.mark)) h (λ c f. looked_follows c.mark c f))
leads_act s (Sum name) h = leads_begin s (sum_step s name) (leads_named s name (λ c. (looked_at c.mark c, summed s.windows c c.mark)) h (λ c f. looked_follows c.mark c f))
leads_act s (Stream scn filter most) h = leads_begin s (stream_step s scn (test_of filter) most) (leads_some s _ _ (go_on_same s.consumers, h))

leads_line : (s : State) (line : Line) → AreForward s.consumers → Leads s (line_step s line)
leads_line s line h = either (Leads s) (is_in_range line) (act s line) None (leads_act s line h) (leads_none s)

leads_text : (s : State) (text : List ℕ) → AreForward s.consumers → Leads s (text_step s text)
unfolding text_step
leads_text s text h = read (line_of text)
  where
    read : (o : Option Line) → Leads s (option_and_then (line_step s) o)
    read None = leads_none s
    read (Some line) = leads_line s line h

-- ---- runs

-- a line, and then the rest
then_on : (s : State) (line : ℕ) (step : Step) (rest : State → Played) → AreForward s.consumers → Leads s step → ((next : State) → AreForward next.consumers → Ahead next.consumers (rest next).state.consumers) → Ahead s.consumers (play_on step s line rest).state.consumers
then_on s line None rest h leads more = (go_on_same s.consumers, h)
then_on s line (Some r) rest h leads more =
    let one = leads r.0 r.1 refl in
    let two = more r.0 one.1 in
    (go_on_trans s.consumers r.0.consumers (rest r.0).state.consumers one.0 two.0, two.1)

-- whatever lines come, no consumer goes back
pub go_on : (s : State) (count used : ℕ) (lines : List RawLine) → AreForward s.consumers → Ahead s.consumers (played s count used lines).state.consumers
unfolding played
go_on s count used [] h = (go_on_same s.consumers, h)
go_on s count used (line ∷ lines) h =
    let rest : State → Played = λ next. played next (count + 1) (used + line.size) lines in
    either (λ (p : Played). Ahead s.consumers p.state.consumers) (is_too_long count used line) (ended (TooLongAt (count + 1)) s) (play_on (text_step s line.text) s (count + 1) rest)
    (go_on_same s.consumers, h)
    (then_on s (count + 1) (text_step s line.text) rest h (leads_text s line.text h) (λ next f. go_on next (count + 1) (used + line.size) lines f))

-- the same first line, and then other ones
then_both : (s : State) (line : ℕ) (step : Step) (first second : State → Played) → AreForward s.consumers → Leads s step → ((next : State) → AreForward next.consumers → Ahead (first next).state.consumers (second next).state.consumers) → Ahead (play_on step s line first).state.consumers (play_on step s line second).state.consumers
then_both s line None first second h leads more = (go_on_same s.consumers, h)
then_both s line (Some r) first second h leads more = more r.0 (leads r.0 r.1 refl).1

both : (b : Bool) (p first second : Played) → Ahead p.state.consumers p.state.consumers → Ahead first.state.consumers second.state.consumers → Ahead (cond b p first).state.consumers (cond b p second).state.consumers
both true p first second h rest = h
both false p first second h rest = rest

-- whatever lines come behind others, no consumer goes back
pub go_on_behind : (s : State) (count used : ℕ) (front back : List RawLine) → AreForward s.consumers → Ahead (played s count used front).state.consumers (played s count used (front ++ back)).state.consumers
unfolding played
go_on_behind s count used [] back h = go_on s count used back h
go_on_behind s count used (line ∷ front) back h =
    both (is_too_long count used line) (ended (TooLongAt (count + 1)) s) (play_on (text_step s line.text) s (count + 1) (λ next. played next (count + 1) (used + line.size) front)) (play_on (text_step s line.text) s (count + 1) (λ next. played next (count + 1) (used + line.size) (front ++ back)))
    (go_on_same s.consumers, h)
    (then_both s (count + 1) (text_step s line.text) (λ next. played next (count + 1) (used + line.size) front) (λ next. played next (count + 1) (used + line.size) (front ++ back)) h (leads_text s line.text h) (λ next f. go_on_behind next (count + 1) (used + line.size) front back f))
