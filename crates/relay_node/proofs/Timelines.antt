-- The windows of an input are a timeline, and the relay that published them stands for it.
use Rattle.std.proofs.Common.{◌≡◌, ℕ, zero, suc, ◌+◌, ◌*◌, ◌<◌, ◌≤◌, Bool, true, false, cond, is_some, ◌==◌, ◌||◌, nat_lt, nat_le, List, [], ◌∷◌, ◌++◌, Option, Some, None, length, refl, sym, ap, ◌∙◌, subst, append_assoc, arith}
use Rattle.std.proofs.lemmas.Bool.{eqb-false, leb-false, ltb-false, or_parts}
use Rattle.bus_types.specs.declared.window.WindowFault.{WindowFault}
use Rattle.bus_types.specs.declared.window.WindowFault.TheVariants.{BadScn, Empty, TooMany, TooLarge}
use Rattle.bus_types.specs.declared.limits.TheConstants.{MAX_SCN, MAX_CHANGES, MAX_WINDOW}
use Rattle.bus_types.specs.Change.{AreChanges}
use Rattle.bus_types.specs.Window.{Span, span_size, bad_scn, window_fault}
use Rattle.bus_types.specs.Timeline.{Follows, IsTimeline, IsTold, IsTimelineFrom, end_from, end_of, windows_between}
use Rattle.bus_types.specs.Relay.{Relay, Room, new_relay, published, StandsFor}
use Rattle.bus_types.proofs.Stretches.{end_from-append, between_in, between_before, between_past, between-append, timelines_joined}
use Rattle.bus_types.proofs.Floors.{stands_fresh, stands_published}
use Rattle.generated_windows.specs.Generated.{above, generated_window, after_window, generated}
use Rattle.generated_windows.proofs.Generating.{generated_follows}
use Rattle.trace_script.specs.declared.line.Line.{Line}
use Rattle.trace_script.specs.declared.line.Line.TheVariants.{Blank, Commit, Gen}
use Rattle.trace_script.specs.Input.{RawLine, is_too_long, lines_of}
use Rattle.trace_script.specs.Lines.{line_of}
use Rattle.trace_script.specs.Spelling.{Spells}
use Rattle.trace_script.proofs.LineTexts.{line_taken}
use Rattle.relay_node.specs.Feeding.{Given, Fed, most_windows, last_generated, line_gives, read_gives, text_gives, feed_on, fed_from, fed, windows_of, relay_after}
use Rattle.relay_node.specs.Feeding.Given.{Windows, Bad, Wrong}
use Rattle.relay_node.proofs.Published.{relay_after-tail}

-- ---- one line

abbrev pub windows_in : Given → List Span
windows_in (Windows ws) = ws
windows_in Bad = []
windows_in Wrong = []

-- a window without a fault, of changes within their limits
no_faults : (a b c d : Bool) → cond a (Some BadScn) (cond b (Some Empty) (cond a (Some BadScn) (cond c (Some TooMany) (cond d (Some TooLarge) None)))) ≡ None → (a ≡ false) × (b ≡ false) × (c ≡ false) × (d ≡ false)
no_faults true b c d e = absurd cc
no_faults false true c d e = absurd cc
no_faults false false true d e = absurd cc
no_faults false false false true e = absurd cc
no_faults false false false false e = (refl, refl, refl, refl)

faultless_follows : (w : Span) → AreChanges w.changes → window_fault w ≡ None → Follows w.prev w
faultless_follows w changes none =
    let f = no_faults (bad_scn w) (length w.changes == 0) (nat_lt MAX_CHANGES (length w.changes)) (nat_lt MAX_WINDOW (span_size w)) none in
    let outer = or_parts (w.scn == 0 || nat_lt MAX_SCN w.scn) (nat_le w.scn w.prev) f.0 in
    let inner = or_parts (w.scn == 0) (nat_lt MAX_SCN w.scn) outer.0 in
    let full = eqb-false (length w.changes) 0 f.1 in
    record {
      chained = refl;
      full = omega arith;
      within = record {
        scn = ltb-false MAX_SCN w.scn inner.1;
        prev = leb-false w.scn w.prev outer.1;
        count = ltb-false MAX_CHANGES (length w.changes) f.2;
        size = ltb-false MAX_WINDOW (span_size w) f.3;
        changes = changes;
      };
    }

one_counted : (w : Span) (ws : List Span) (many : Bool) → Follows w.prev w → cond many Bad (Windows (w ∷ [])) ≡ Windows ws → IsTimelineFrom w.prev ws
one_counted w ws true f e = absurd cc
one_counted w ws false f e = subst (IsTimelineFrom w.prev) (ap windows_in e) (f, tt)

one_follows : (w : Span) (count : ℕ) (ws : List Span) (fault : Option WindowFault) → AreChanges w.changes → window_fault w ≡ fault → cond (is_some fault) Bad (cond (nat_le most_windows count) Bad (Windows (w ∷ []))) ≡ Windows ws → IsTimelineFrom w.prev ws
one_follows w count ws (Some fault) changes f e = absurd cc
one_follows w count ws None changes f e = one_counted w ws (nat_le most_windows count) (faultless_follows w changes f) e

-- windows that are made
generated_timeline : (n x last : ℕ) → last + 3 * n ≤ 9223372036854775807 → IsTimelineFrom last (generated n x last)
unfolding generated_window
generated_timeline zero x last low = tt
generated_timeline (suc n) x last low = (generated_follows x last (omega (arith, low)), generated_timeline n (after_window x) (last + above x) (omega (arith, low)))

made_timeline : (last count seed more : ℕ) (ws : List Span) (past many : Bool) → more ≤ 100000 → nat_lt last_generated last ≡ past → cond past Bad (cond many Bad (Windows (generated more seed last))) ≡ Windows ws → IsTimelineFrom last ws
made_timeline last count seed more ws true many few p e = absurd cc
made_timeline last count seed more ws false true few p e = absurd cc
made_timeline last count seed more ws false false few p e =
    let low = ltb-false last_generated last p in
    subst (IsTimelineFrom last) (ap windows_in e) (generated_timeline more seed last (omega (arith, low, few)))

line_timeline : (text : List ℕ) (last count : ℕ) (line : Line) (ws : List Span) → Spells text line → line_gives last count line ≡ Windows ws → IsTimelineFrom last ws
line_timeline text last count Blank ws s e = subst (IsTimelineFrom last) (ap windows_in e) tt
line_timeline text last count (Commit scn changes) ws s e = one_follows (record { scn = scn; prev = last; changes = changes }) count ws _ s.0.2 refl e
line_timeline text last count (Gen seed more) ws s e = made_timeline last count seed more ws _ _ s.0.2 refl e
line_timeline text last count line ws s e = absurd cc

read_timeline : (text : List ℕ) (last count : ℕ) (found : Option Line) (ws : List Span) → line_of text ≡ found → read_gives last count found ≡ Windows ws → IsTimelineFrom last ws
read_timeline text last count None ws f e = absurd cc
read_timeline text last count (Some line) ws f e = line_timeline text last count line ws (line_taken text line f) e

text_timeline : (text : List ℕ) (last count : ℕ) (ws : List Span) → text_gives last count text ≡ Windows ws → IsTimelineFrom last ws
unfolding text_gives
text_timeline text last count ws e = read_timeline text last count (line_of text) ws refl e

-- ---- the whole input

-- windows behind those that a line gave
on_timeline : (last line : ℕ) (given : Given) (rest : List Span → Fed) → ((ws : List Span) → given ≡ Windows ws → IsTimelineFrom last ws) → ((ws : List Span) → IsTimelineFrom (end_from last ws) (rest ws).windows) → IsTimelineFrom last (feed_on given line rest).windows
on_timeline last line (Windows ws) rest first later = timelines_joined last ws (rest ws).windows (first ws refl) (later ws)
on_timeline last line Bad rest first later = tt
on_timeline last line Wrong rest first later = tt

or_none : (last : ℕ) (long : Bool) (a b : Fed) → IsTimelineFrom last a.windows → IsTimelineFrom last b.windows → IsTimelineFrom last (cond long a b).windows
or_none last true a b p q = p
or_none last false a b p q = q

lines_timeline : (last windows count used : ℕ) (lines : List RawLine) → IsTimelineFrom last (fed_from last windows count used lines).windows
unfolding fed_from
lines_timeline last windows count used [] = tt
lines_timeline last windows count used (line ∷ lines) =
    or_none last (is_too_long count used line) _ _ tt
    (on_timeline last (count + 1) (text_gives last windows line.text) (λ ws. fed_from (end_from last ws) (windows + length ws) (count + 1) (used + line.size) lines)
    (text_timeline line.text last windows) (λ ws. lines_timeline (end_from last ws) (windows + length ws) (count + 1) (used + line.size) lines))

pub fed_timeline : (bytes : List ℕ) → IsTimeline (fed bytes).windows
fed_timeline bytes = lines_timeline 0 0 0 0 (lines_of bytes)

-- of an input that tells its bytes
pub told_timeline : (input : Option (List ℕ)) → IsTold (windows_of input)
told_timeline None = tt
told_timeline (Some bytes) = fed_timeline bytes

-- ---- the relay

timeline_parts : (prev : ℕ) (xs ys : List Span) → IsTimelineFrom prev (xs ++ ys) → IsTimelineFrom prev xs × IsTimelineFrom (end_from prev xs) ys
timeline_parts prev [] ys t = (tt, t)
timeline_parts prev (x ∷ xs) ys t =
    let rest = timeline_parts x.scn xs ys t.1 in
    ((t.0, rest.0), rest.1)

-- the next window is alone between the last one and itself
next_alone : (done : List Span) (w : Span) (ws : List Span) → IsTimeline (done ++ w ∷ ws) → windows_between (end_of done) w.scn (done ++ w ∷ ws) ≡ w ∷ []
next_alone done w ws t =
    let parts = timeline_parts 0 done (w ∷ ws) t in
    let last = end_of done in
    let above : last < w.scn = (let prev = parts.1.0.within.prev in let chained = parts.1.0.chained in omega arith) in
    between-append last w.scn done (w ∷ ws)
    ∙ ap (λ (l : List Span). l ++ windows_between last w.scn (w ∷ ws)) (between_past 0 last w.scn done parts.0 (omega arith))
    ∙ between_in last w.scn w ws above (omega arith)
    ∙ ap (λ (l : List Span). w ∷ l) (between_before w.scn last w.scn ws parts.1.1 (omega arith))

-- what was published, and what is still to be
stands_after : (all done ws : List Span) (r : Relay) → IsTimeline all → all ≡ done ++ ws → r.tail ≡ end_of done → StandsFor all r → StandsFor all (relay_after r ws)
stands_after all done [] r t e tail s = s
stands_after all done (w ∷ ws) r t e tail s =
    let next : windows_between r.tail w.scn all ≡ w ∷ [] = (λ i. windows_between (tail i) w.scn (e i)) ∙ next_alone done w ws (subst IsTimeline e t) in
    stands_after all (done ++ w ∷ []) ws (published r w) t (e ∙ sym (append_assoc done (w ∷ []) ws)) (sym (end_from-append 0 done (w ∷ []))) (stands_published all r w s next)

-- of all windows of a timeline
pub all_stand : (room : Room) (ws : List Span) → IsTimeline ws → StandsFor ws (relay_after (new_relay room) ws)
all_stand room ws t = stands_after ws [] ws (new_relay room) t refl refl (stands_fresh ws room t)

pub fed_stands : (room : Room) (bytes : List ℕ) (r : Relay) → r ≡ relay_after (new_relay room) (fed bytes).windows → StandsFor (fed bytes).windows r
fed_stands room bytes r e = subst (StandsFor (fed bytes).windows) (sym e) (all_stand room (fed bytes).windows (fed_timeline bytes))

-- the newest window is the last one
pub fed_tail : (room : Room) (bytes : List ℕ) (r : Relay) → r ≡ relay_after (new_relay room) (fed bytes).windows → r.tail ≡ end_of (fed bytes).windows
fed_tail room bytes r e = ap (λ (q : Relay). q.tail) e ∙ relay_after-tail (new_relay room) (fed bytes).windows
