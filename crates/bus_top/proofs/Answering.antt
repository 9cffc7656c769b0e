-- What the relay answers, by what it has evicted and published.
use Rattle.std.proofs.Common.{◌≡◌, ℕ, ◌<◌, inl, inr, Bool, true, false, cond, ◌==◌, nat_lt, nat_le, List, [], ◌∷◌, length, map, Option, Some, None, option_map, refl, sym, ap, ◌∙◌, subst, arith}
use Rattle.std.specs.List.{list_any, slice_get}
use Rattle.std.proofs.lemmas.Bool.{or_cases, or_left, or_right, eqb-true, eq-eqb, ltb-true, ltb-false, leb-true, leb-false}
use Rattle.std.proofs.lemmas.List.{length-map}
use Rattle.std.proofs.lemmas.Option.{some_pair_parts}
use Rattle.bus_types.specs.Change.{Test}
use Rattle.bus_types.specs.Window.{Span, span_size}
use Rattle.bus_types.specs.Timeline.{windows_between}
use Rattle.bus_types.specs.Cut.{cut, cuts}
use Rattle.bus_types.specs.Relay.{Served, most_windows, longest_run, IsLongestRun, fitting, stream, Room, sizes, has_room, places, is_place, first_roomy, floor_of}
use Rattle.bus_types.specs.Relay.Served.{NotFound, Empty, TooSmall, Windows}
use Rattle.bus_types.proofs.Stretches.{between_cases, between_none}
use Rattle.bus_types.proofs.Runs.{longest_run_is, run_takes}
use Rattle.partition_filter.specs.Selection.{Selection, test_of}
use Rattle.checkpoint.specs.declared.mark.Mark.TheVariants.{Online}
use Rattle.event_codec.specs.Questions.{Reply}
use Rattle.bus_wire.specs.True.{reply_of}
use Rattle.client_switch.specs.Moves.{question}
use Rattle.client_switch.specs.Moves.Wish.{NoWish}
use Rattle.trace_script.specs.declared.line.Line.{Line}
use Rattle.trace_script.specs.declared.line.Line.TheVariants.{Blank, Relay, Consumer, Commit, Gen, Feed, Log, Apply, Trim, RestartBoot, Poll, Crash, Stop, Show, Sum, Stream}
use Rattle.trace_script.specs.Spelling.{is_in_range}
use Rattle.history_core.specs.Script.{Follower, State, floor}
use Rattle.history_core.specs.Steps.{Step, begin, place_of, at_name, with_consumer, replied, after_reply, asked, poll_step, stream_step}
use Rattle.history_core.specs.Run.{act, line_step}
use Rattle.bus_top.specs.Headline.{evicted_after, published_after, IsAnswer, IsAnswered}
use Rattle.bus_top.proofs.Placed.{IsPlaced}

-- what holds of each value under its own test
either_by : {A : Type 0} (P : A → Type 0) (b : Bool) (x y : A) → (b ≡ true → P x) → (b ≡ false → P y) → P (cond b x y)
either_by P true x y p q = p refl
either_by P false x y p q = q refl

-- ---- places and windows

-- between an SCN and a higher one that is a window's there is a window
between_some : (scn n : ℕ) (ws : List Span) → scn < n → list_any (λ m. m == n) (map (λ w. w.scn) ws) ≡ true → 0 < length (windows_between scn n ws)
between_some scn n [] above h = absurd cc
between_some scn n (w ∷ ws) above h =
    let later : Bool = list_any (λ m. m == n) (map (λ w. w.scn) ws) in
    let found : (w.scn ≡ n → ⊥) → 0 < length (windows_between scn n ws) = λ other.
    elim (or_cases (w.scn == n) later h) [
      | inl same ↦ absurd (other (eqb-true w.scn n same))
      | inr more ↦ between_some scn n ws above more
    ] in
    between_cases (λ (l : List Span). 0 < length l) scn n w ws (λ low high. omega arith) (λ low. found (λ e. omega arith)) (λ high. found (λ e. omega arith))

-- likewise behind an SCN that is below a place
place_behind : (scn n : ℕ) (ws : List Span) → scn < n → is_place n ws ≡ true → 0 < length (windows_between scn n ws)
place_behind scn n ws above h =
    elim (or_cases (0 == n) (list_any (λ m. m == n) (map (λ w. w.scn) ws)) h) [
      | inl none ↦ (let zero-is = eqb-true 0 n none in absurd (omega arith))
      | inr some ↦ between_some scn n ws above some
    ]

-- the first number with room behind it is one of them, or the end
roomy_in : (P : ℕ → Type 0) (room : Room) (ws : List Span) (end : ℕ) (ns : List ℕ) → P end → ((n : ℕ) → list_any (λ m. m == n) ns ≡ true → P n) → P (first_roomy room ws end ns)
roomy_in P room ws end [] e h = e
roomy_in P room ws end (n ∷ ns) e h =
    either_by P (has_room room (sizes (windows_between n end ws))) n (first_roomy room ws end ns)
    (λ t. h n (or_left (n == n) (list_any (λ m. m == n) ns) (eq-eqb n n refl)))
    (λ t. roomy_in P room ws end ns e (λ m k. h m (or_right (n == m) (list_any (λ x. x == m) ns) k)))

floor_placed : (room : Room) (ws : List Span) (end : ℕ) → is_place end ws ≡ true → is_place (floor_of room ws end) ws ≡ true
unfolding floor_of
floor_placed room ws end h = roomy_in (λ (n : ℕ). is_place n ws ≡ true) room ws end (places ws) h (λ n k. k)

-- ---- answers

-- of windows of which there is one, what fits
fits : (s : State) (scn : ℕ) (test : Test) (max : ℕ) (all : List Span) → evicted_after s scn ≡ [] → cuts test (published_after s scn) ≡ all → 0 < length all → IsAnswer s scn test max (fitting max all)
fits s scn test max [] none is some = absurd (omega arith)
fits s scn test max (w ∷ ws) none is some =
    either_by (IsAnswer s scn test max) (nat_lt max (span_size w)) (TooSmall (span_size w)) (Windows (longest_run most_windows max (w ∷ ws)))
    (λ e. (none, (w, ws, is, refl, ltb-true max (span_size w) e)))
    (λ e. (let run-is = run_takes most_windows max w ws (omega arith) (ltb-false max (span_size w) e) in (
      none,
      subst (λ (l : List Span). 0 < length l) (sym run-is) (omega arith),
      subst (λ (l : List Span). IsLongestRun most_windows max l (longest_run most_windows max (w ∷ ws))) (sym is) (longest_run_is most_windows max (w ∷ ws)),
    )))

pub answers : (s : State) (scn : ℕ) (test : Test) (max : ℕ) → IsPlaced s → IsAnswer s scn test max (stream s.windows (floor s) s.end scn test max)
answers s scn test max h =
    let all : List Span = cuts test (published_after s scn) in
    either_by (IsAnswer s scn test max) (nat_lt scn (floor s)) (NotFound (floor s)) (cond (nat_le s.end scn) (Empty s.end) (fitting max all))
    (λ e. (place_behind scn (floor s) s.windows (ltb-true scn (floor s) e) (floor_placed s.room s.windows s.end h), refl))
    (λ e. (let none = between_none scn (floor s) s.windows (ltb-false scn (floor s) e) in
    either_by (IsAnswer s scn test max) (nat_le s.end scn) (Empty s.end) (fitting max all)
    (λ d. (none, between_none scn s.end s.windows (leb-true s.end scn d), refl))
    (λ d. (let some = place_behind scn s.end s.windows (leb-false s.end scn d) h in
    fits s scn test max all none refl (subst (λ (n : ℕ). 0 < n) (sym (length-map (published_after s scn) (cut test))) some)))))

-- ---- lines

-- a line that was taken has its numbers in range
acted : (b : Bool) (step : Step) (r : State × List ℕ) → cond b step None ≡ Some r → step ≡ Some r
acted true step r e = e
acted false step r e = absurd cc

begun_text : (s next : State) (text printed : List ℕ) → begin (Some (s, text)) ≡ Some (next, printed) → printed ≡ text
begun_text s next text printed e = sym (some_pair_parts (record s { begun = true }) next text printed e).1

-- a line that names a consumer which is known
named_at : (s : State) (name : List ℕ) (act : Follower → Follower × List ℕ) (i : ℕ) (c : Follower) → place_of name s.consumers ≡ Some i → slice_get s.consumers i ≡ Some c
    → at_name s name (λ j d. (with_consumer s j (act d).0, (act d).1)) ≡ Some (with_consumer s i (act c).0, (act c).1)
named_at s name act i c place at = rw (place, at) refl

-- what is asked by who is online and wants nothing else
online_asks : (s : State) (c : Follower) (scn max : ℕ) → c.mark ≡ Online scn → c.wish ≡ NoWish → replied s.windows (floor s) s.end s.boot (test_of c.filter) (question c.mark c.wish max) ≡ reply_of (stream s.windows (floor s) s.end scn (test_of c.filter) max)
online_asks s c scn max mark wish = λ i. replied s.windows (floor s) s.end s.boot (test_of c.filter) (question (mark i) (wish i) max)

poll_answered : (s : State) (name : List ℕ) (max : ℕ) (next : State) (text : List ℕ) → IsPlaced s → begin (poll_step s name max) ≡ Some (next, text) → IsAnswered s (Poll name max) text
unfolding poll_step
poll_answered s name max next text h e = λ i scn c place at mark wish.
    let answer : Served = stream s.windows (floor s) s.end scn (test_of c.filter) max in
    let taken : begin (Some (with_consumer s i (asked s c max).0, (asked s c max).1)) ≡ Some (next, text) = ap begin (sym (named_at s name (λ d. asked s d max) i c place at)) ∙ e in
    (answer, answers s scn (test_of c.filter) max h, begun_text (with_consumer s i (asked s c max).0) next (asked s c max).1 text taken ∙ ap (λ (r : Reply). (after_reply c r).1) (online_asks s c scn max mark wish))

stream_answered : (s : State) (scn : ℕ) (filter : Selection) (max : ℕ) (next : State) (text : List ℕ) → IsPlaced s → begin (stream_step s scn (test_of filter) max) ≡ Some (next, text) → IsAnswered s (Stream scn filter max) text
unfolding stream_step
stream_answered s scn filter max next text h e =
    (stream s.windows (floor s) s.end scn (test_of filter) max, answers s scn (test_of filter) max h, begun_text s next _ text e)

act_answered : (s : State) (line : Line) (next : State) (text : List ℕ) → IsPlaced s → act s line ≡ Some (next, text) → IsAnswered s line text
act_answered s Blank next text h e = tt
act_answered s (Relay bytes windows) next text h e = tt
act_answered s (Consumer name filter) next text h e = tt
act_answered s (Commit scn changes) next text h e = tt
act_answered s (Gen seed count) next text h e = tt
act_answered s (Feed count) next text h e = tt
act_answered s (Log count) next text h e = tt
act_answered s (Apply count) next text h e = tt
act_answered s (Trim scn) next text h e = tt
act_answered s RestartBoot next text h e = tt
act_answered s (Poll name max) next text h e = poll_answered s name max next text h e
act_answered s (Crash name) next text h e = tt
act_answered s (Stop name after) next text h e = tt
act_answered s (Show name) next text h e = tt
act_answered s (Sum name) next text h e = tt
act_answered s (Stream scn filter max) next text h e = stream_answered s scn filter max next text h e

-- whoever asks the relay is answered so
pub line_answered : (s : State) (line : Line) (next : State) (text : List ℕ) → IsPlaced s → line_step s line ≡ Some (next, text) → IsAnswered s line text
line_answered s line next text h e = act_answered s line next text h (acted (is_in_range line) (act s line) (next, text) e)
