-- The relay's end stands at a window of the source, whatever lines come.
use Rattle.std.proofs.Common.{◌≡◌, ℕ, zero, suc, ◌+◌, inl, inr, Bool, true, false, cond, ◌==◌, ◌||◌, nat_lt, List, [], ◌∷◌, ◌++◌, take, map, Option, Some, None, option_map, refl, sym, ap, ◌∙◌, subst, append_assoc}
use Rattle.std.specs.Option.{option_and_then}
use Rattle.std.specs.List.{list_any, slice_get}
use Rattle.std.proofs.lemmas.Bool.{or_cases, or_left, or_right, eqb-true, eq-eqb}
use Rattle.std.proofs.lemmas.Option.{some_pair_parts}
use Rattle.bus_types.specs.Window.{Span}
use Rattle.bus_types.specs.Timeline.{end_from, end_of, windows_between}
use Rattle.bus_types.specs.Relay.{is_place}
use Rattle.bus_types.proofs.Stretches.{between_cases}
use Rattle.bus_types.proofs.Floors.{parted_at, end_is_place}
use Rattle.partition_filter.specs.Selection.{test_of}
use Rattle.bus_stores.specs.Memory.{stop_at}
use Rattle.client_switch.specs.Moves.Wish.{NoWish}
use Rattle.trace_script.specs.declared.line.Line.{Line}
use Rattle.trace_script.specs.declared.line.Line.TheVariants.{Blank, Relay, Consumer, Commit, Gen, Feed, Log, Apply, Trim, RestartBoot, Poll, Crash, Stop, Show, Sum, Stream}
use Rattle.generated_windows.specs.Generated.{generated}
use Rattle.trace_script.specs.Lines.{line_of}
use Rattle.trace_script.specs.Spelling.{is_in_range}
use Rattle.trace_script.specs.Input.{RawLine, is_too_long}
use Rattle.trace_script.specs.Printed.{gap_line}
use Rattle.history_core.specs.Script.{Follower, State, floor, shown, summed}
use Rattle.history_core.specs.Steps.{Step, begin, place_of, at_name, with_consumer, booted, logged, next_window, fed, asked, looked_at, relay_step, consumer_step, commit_step, gen_step, feed_step, log_step, apply_step, trim_step, restart_step, poll_step, crash_step, stop_step, show_step, sum_step, stream_step}
use Rattle.history_core.specs.Run.{act, line_step, text_step, TooLongAt, Played, ended, play_on, played}

-- the SCN of the newest published window is one of the source's, or 0
abbrev pub IsPlaced : State → Type 0
IsPlaced s = is_place s.end s.windows ≡ true

-- what holds of both values holds of the choice
either : {A : Type 0} (P : A → Type 0) (b : Bool) (x y : A) → P x → P y → P (cond b x y)
either P true x y p q = p
either P false x y p q = q

-- ---- places

-- a place stays one where windows are added
place_push : (n : ℕ) (ws more : List Span) → is_place n ws ≡ true → is_place n (ws ++ more) ≡ true
place_push n ws more h =
    let parts = parted_at 0 n ws h in
    let whole : parts.front ++ (parts.back ++ more) ≡ ws ++ more = sym (append_assoc parts.front parts.back more) ∙ ap (λ (l : List Span). l ++ more) parts.whole in
    (λ i. is_place (sym parts.end i) (sym whole i)) ∙ end_is_place 0 parts.front (parts.back ++ more)

-- the end of the first windows of a stretch is where they begin, or the SCN of one of them
among : (from k low high : ℕ) (ws : List Span) → list_any (λ m. m == end_from from (take k (windows_between low high ws))) (from ∷ map (λ w. w.scn) ws) ≡ true
among from zero low high ws = or_left (from == from) (list_any (λ m. m == from) (map (λ w. w.scn) ws)) (eq-eqb from from refl)
among from (suc k) low high [] = or_left (from == from) false (eq-eqb from from refl)
among from (suc k) low high (w ∷ ws) =
    between_cases (λ (l : List Span). list_any (λ m. m == end_from from (take (suc k) l)) (from ∷ w.scn ∷ map (λ w. w.scn) ws) ≡ true) low high w ws
    (λ l u. (let end : ℕ = end_from w.scn (take k (windows_between low high ws)) in or_right (from == end) (list_any (λ m. m == end) (w.scn ∷ map (λ w. w.scn) ws)) (among w.scn k low high ws)))
    (λ u. over (end_from from (take (suc k) (windows_between low high ws))) (among from (suc k) low high ws))
    (λ u. over (end_from from (take (suc k) (windows_between low high ws))) (among from (suc k) low high ws))
  where
    over : (end : ℕ) → list_any (λ m. m == end) (from ∷ map (λ w. w.scn) ws) ≡ true → list_any (λ m. m == end) (from ∷ w.scn ∷ map (λ w. w.scn) ws) ≡ true
    over end h =
        let later : Bool = list_any (λ m. m == end) (map (λ w. w.scn) ws) in
        elim (or_cases (from == end) later h) [
          | inl same ↦ or_left (from == end) ((w.scn == end) || later) same
          | inr found ↦ or_right (from == end) ((w.scn == end) || later) (or_right (w.scn == end) later found)
        ]

-- what the relay publishes ends at a place
place_fed : (s : State) (count : ℕ) → IsPlaced s → is_place (fed s count) s.windows ≡ true
place_fed s count h =
    let scns : List ℕ = map (λ (w : Span). w.scn) s.windows in
    elim (or_cases (s.end == fed s count) (list_any (λ m. m == fed s count) scns) (among s.end count s.end (end_of s.windows) s.windows)) [
      | inl same ↦ subst (λ (n : ℕ). is_place n s.windows ≡ true) (eqb-true s.end (fed s count) same) h
      | inr found ↦ or_right (0 == fed s count) (list_any (λ m. m == fed s count) scns) found
    ]

-- ---- lines

-- wherever a step leads
abbrev Leads : Step → Type 0
Leads step = (next : State) (text : List ℕ) → step ≡ Some (next, text) → IsPlaced next

leads_none : Leads None
leads_none next text e = absurd cc

leads_some : (next : State) (text : List ℕ) → IsPlaced next → Leads (Some (next, text))
leads_some next text h later other e = subst IsPlaced (some_pair_parts next later text other e).0 h

leads_begin : (step : Step) → Leads step → Leads (begin step)
leads_begin None h = leads_none
leads_begin (Some r) h = leads_some (record r.0 { begun = true }) r.1 (h r.0 r.1 refl)

-- a line that names a consumer changes no more than it
leads_named : (s : State) (name : List ℕ) (step : Follower → Follower × List ℕ) → IsPlaced s → Leads (at_name s name (λ i c. (with_consumer s i (step c).0, (step c).1)))
leads_named s name step h = found (place_of name s.consumers)
  where
    done : (i : ℕ) (o : Option Follower) → Leads (option_map (λ (c : Follower). (with_consumer s i (step c).0, (step c).1)) o)
    done i None = leads_none
    done i (Some c) = leads_some (with_consumer s i (step c).0) (step c).1 h

    found : (o : Option ℕ) → Leads (option_and_then (λ i. option_map (λ (c : Follower). (with_consumer s i (step c).0, (step c).1)) (slice_get s.consumers i)) o)
    found None = leads_none
    found (Some i) = done i (slice_get s.consumers i)

leads_act : (s : State) (line : Line) → IsPlaced s → Leads (act s line)
unfolding relay_step consumer_step commit_step gen_step feed_step log_step apply_step trim_step restart_step poll_step crash_step stop_step show_step sum_step stream_step
leads_act s Blank h = leads_some s [] h
leads_act s (Relay bytes windows) h = leads_begin (relay_step s bytes windows) (either Leads _ _ _ leads_none (leads_some _ _ h))
leads_act s (Consumer name filter) h = leads_begin (consumer_step s name filter) (either Leads _ _ _ leads_none (leads_some _ _ h))
leads_act s (Commit scn changes) h = leads_begin (commit_step s scn changes) (either Leads _ _ _ leads_none (either Leads _ _ _ leads_none (leads_some _ _ (place_push s.end s.windows (next_window s scn changes ∷ []) h))))
leads_act s (Gen seed count) h = leads_begin (gen_step s seed count) (either Leads _ _ _ leads_none (either Leads _ _ _ leads_none (leads_some _ _ (place_push s.end s.windows (generated count seed (end_of s.windows)) h))))
leads_act s (Feed count) h = leads_begin (feed_step s count) (leads_some _ _ (place_fed s count h))
leads_act s (Log count) h =
    leads_begin (log_step s count) (either (λ (r : State × List ℕ). Leads (Some r)) (nat_lt s.boot.high (floor s)) (s, gap_line (floor s)) (booted s (record s.boot { high = logged s count })) (leads_some s _ h) (leads_some _ _ h))
leads_act s (Apply count) h = leads_begin (apply_step s count) (leads_some _ _ h)
leads_act s (Trim scn) h = leads_begin (trim_step s scn) (leads_some _ _ h)
leads_act s RestartBoot h = leads_begin (restart_step s) (leads_some _ _ h)
leads_act s (Poll name max) h = leads_begin (poll_step s name max) (leads_named s name (λ c. asked s c max) h)
leads_act s (Crash name) h = leads_begin (crash_step s name) (leads_named s name (λ c. (record c { wish = NoWish }, [])) h)
leads_act s (Stop name after) h = leads_begin (stop_step s name (stop_at after)) (leads_named s name (λ c. (record c { armed = Some (stop_at after) }, [])) h)
leads_act s (Show name) h = leads_begin (show_step s name) (leads_named s name (λ c. (looked_at c.mark c, shown s.windows c c.mark)) h)
leads_act s (Sum name) h = leads_begin (sum_step s name) (leads_named s name (λ c. (looked_at c.mark c, summed s.windows c c.mark)) h)
leads_act s (Stream scn filter max) h = leads_begin (stream_step s scn (test_of filter) max) (leads_some _ _ h)

leads_line : (s : State) (line : Line) → IsPlaced s → Leads (line_step s line)
leads_line s line h = either Leads (is_in_range line) (act s line) None (leads_act s line h) leads_none

leads_text : (s : State) (text : List ℕ) → IsPlaced s → Leads (text_step s text)
unfolding text_step
leads_text s text h = read (line_of text)
  where
    read : (o : Option Line) → Leads (option_and_then (line_step s) o)
    read None = leads_none
    read (Some line) = leads_line s line h

-- ---- runs

then_on : (s : State) (line : ℕ) (step : Step) (rest : State → Played) → IsPlaced s → Leads step → ((next : State) → IsPlaced next → IsPlaced (rest next).state) → IsPlaced (play_on step s line rest).state
then_on s line None rest h leads more = h
then_on s line (Some r) rest h leads more = more r.0 (leads r.0 r.1 refl)

-- whatever lines come
pub placed : (s : State) (count used : ℕ) (lines : List RawLine) → IsPlaced s → IsPlaced (played s count used lines).state
unfolding played
placed s count used [] h = h
placed s count used (line ∷ lines) h =
    let rest : State → Played = λ next. played next (count + 1) (used + line.size) lines in
    either (λ (p : Played). IsPlaced p.state) (is_too_long count used line) (ended (TooLongAt (count + 1)) s) (play_on (text_step s line.text) s (count + 1) rest) h
    (then_on s (count + 1) (text_step s line.text) rest h (leads_text s line.text h) (λ next p. placed next (count + 1) (used + line.size) lines p))
