-- Events and windows that were spelled are read back.
use Rattle.std.proofs.Common.{◌≡◌, ℕ, ◌+◌, ◌<◌, ◌≤◌, Bool, true, false, cond, ltb, List, [], ◌∷◌, ◌++◌, length, drop, Option, Some, None, option_and_then, refl, sym, ap, ◌∙◌, append_assoc, arith}
use Rattle.std.specs.Prelude.{map, option_map}
use Rattle.std.specs.List.{AllByRecursion}
use Rattle.std.proofs.lemmas.Bool.{ltb-false}
use Rattle.std.proofs.lemmas.List.{length-drop, drop_at, append-nil}
use Rattle.std.proofs.lemmas.Option.{same_Some, option_and_then_some}
use Rattle.bus_types.specs.declared.change.Change.{Change}
use Rattle.bus_types.specs.declared.limits.TheConstants.{MAX_SCN}
use Rattle.bus_types.specs.Change.{AreChanges}
use Rattle.bus_types.specs.Window.{Span, IsSpan}
use Rattle.event_codec.specs.declared.head.Head.{Head}
use Rattle.event_codec.specs.Bytes.{Event, IsEvent, event_bytes, mark_bytes, changes_bytes, window_bytes}
use Rattle.event_codec.specs.Reading.{head_front, checked, head_of, with_payload, event_front, mark_front}
use Rattle.event_codec.specs.Streams.{windows_bytes}
use Rattle.event_codec.specs.Parsing.{read_within, read_all, event_with, event_in_front, events_in, events_bytes, events_of, AreEvents, window_with, closed_by_mark, window_in_front, windows_in, AreWindows}
use Rattle.event_codec.proofs.Heads.{some_else}
use Rattle.event_codec.proofs.EventBytes.{head_and_payload, event_again, put_joined, payload_length}
use Rattle.event_codec.proofs.Marks.{mark_again}
use Rattle.event_codec.proofs.Begun.{event, is_event}
use Rattle.event_codec.proofs.ItemsBack.{Shortens, left_short, read_back}

-- what a mapped option was
pub mapped : {A B : Type 0} (f : A → B) (o : Option A) (y : B) → option_map f o ≡ Some y → (x : A) × (o ≡ Some x) × (f x ≡ y)
mapped f None y e = absurd cc
mapped f (Some x) y e = (x, refl, same_Some (f x) y e)

-- ---- events

event_long : (e : Event) → 23 + length (head_and_payload e).1 ≡ length (event_bytes e)
event_long e = payload_length e.scn e.change.source e.change.key e.change.put

pub event_back : (e : Event) (rest : List ℕ) → IsEvent e → event_in_front (event_bytes e ++ rest) ≡ Some (e, rest)
unfolding event_in_front
event_back e rest is =
    let bytes = event_bytes e ++ rest in
    let same : event_with (head_and_payload e) ≡ e = put_joined e.scn e.change.source e.change.key e.change.put in
    let left : drop (23 + length (head_and_payload e).1) bytes ≡ rest = drop_at (event_bytes e) rest (23 + length (head_and_payload e).1) (sym (event_long e)) in
    ap (option_map (λ x. (event_with x, drop (23 + length x.1) bytes))) (event_again e rest is) ∙ (λ i. Some (same i, left i))

-- an event takes a head at least
long_event : (bytes : List ℕ) (x : Head × List ℕ) → event_front bytes ≡ Some x → 23 ≤ length bytes
unfolding event_front head_front
long_event bytes x e = option_and_then_some (with_payload (drop 23 bytes)) (head_front bytes) x e (λ g read rest. ltb-false (length bytes) 23 (some_else (ltb (length bytes) 23) (checked (head_of bytes)) g read).0)

pub events_shorten : Shortens event_in_front
unfolding event_in_front
events_shorten bytes rest e found =
    let m = mapped (λ x. (event_with x, drop (23 + length x.1) bytes)) (event_front bytes) (e, rest) found in
    let left : drop (23 + length m.0.1) bytes ≡ rest = ap (λ (y : Event × List ℕ). y.1) m.2 in
    omega (arith, ap length left, length-drop (23 + length m.0.1) bytes, long_event bytes m.0 m.1)

pub no_event_in_nothing : event_in_front [] ≡ None
unfolding event_in_front event_front head_front
no_event_in_nothing = refl

no_head : (short bad : Bool) → ◌≡◌ {A = Option Head} (cond short None (cond bad None None)) None
no_head true bad = refl
no_head false true = refl
no_head false false = refl

no_head_at_mark : (n p : ℕ) (rest : List ℕ) → head_front (mark_bytes n p ++ rest) ≡ None
unfolding head_front
no_head_at_mark n p rest = no_head (ltb (length (mark_bytes n p ++ rest)) 23) _

pub no_event_at_mark : (n p : ℕ) (rest : List ℕ) → event_in_front (mark_bytes n p ++ rest) ≡ None
unfolding event_in_front event_front
no_event_at_mark n p rest =
    let bytes = mark_bytes n p ++ rest in
    ap (λ (o : Option Head). option_map (λ x. (event_with x, drop (23 + length x.1) bytes)) (option_and_then (with_payload (drop 23 bytes)) o)) (no_head_at_mark n p rest)

pub events_back : (es : List Event) (rest : List ℕ) → AllByRecursion IsEvent es → event_in_front rest ≡ None → read_all event_in_front (events_bytes es ++ rest) ≡ (es, rest)
events_back = read_back IsEvent event_bytes event_in_front events_shorten event_back

pub events_are : (es : List Event) (bytes : List ℕ) → AreEvents es bytes → events_in bytes ≡ es
events_are es bytes are =
    ap events_in (are.spelled ∙ sym (append-nil (events_bytes es))) ∙ ap (λ (x : List Event × List ℕ). x.0) (events_back es [] are.within no_event_in_nothing)

-- ---- windows

pub events_spelled : (n : ℕ) (cs : List Change) → changes_bytes n cs ≡ events_bytes (events_of n cs)
events_spelled n [] = refl
events_spelled n (c ∷ cs) = ap (λ (x : List ℕ). event_bytes (event n c) ++ x) (events_spelled n cs)

pub events_within : (n : ℕ) (cs : List Change) → 0 < n → n ≤ MAX_SCN → AreChanges cs → AllByRecursion IsEvent (events_of n cs)
events_within n [] positive bound are = tt
events_within n (c ∷ cs) positive bound are = (is_event n c positive bound are.0, events_within n cs positive bound are.1)

pub changes_again : (n : ℕ) (cs : List Change) → map (λ (e : Event). e.change) (events_of n cs) ≡ cs
changes_again n [] = refl
changes_again n (c ∷ cs) = ap (λ (x : List Change). c ∷ x) (changes_again n cs)

-- the events of a window, and what stands behind them
pub window_events_back : (w : Span) (rest : List ℕ) → IsSpan w → read_all event_in_front (window_bytes w ++ rest) ≡ (events_of w.scn w.changes, mark_bytes w.scn w.prev ++ rest)
window_events_back w rest is =
    let mark = mark_bytes w.scn w.prev in
    ap (read_all event_in_front) (append_assoc (changes_bytes w.scn w.changes) mark rest ∙ ap (λ (x : List ℕ). x ++ (mark ++ rest)) (events_spelled w.scn w.changes))
    ∙ events_back (events_of w.scn w.changes) (mark ++ rest) (events_within w.scn w.changes (omega (arith, is.prev)) is.scn is.changes) (no_event_at_mark w.scn w.prev rest)

pub window_back : (w : Span) (rest : List ℕ) → IsSpan w → window_in_front (window_bytes w ++ rest) ≡ Some (w, rest)
unfolding window_in_front
window_back w rest is =
    let events = events_of w.scn w.changes in
    let left = mark_bytes w.scn w.prev ++ rest in
    let same = changes_again w.scn w.changes in
    ap closed_by_mark (window_events_back w rest is)
    ∙ ap (option_map (λ mark. (window_with events mark, drop 17 left))) (mark_again w.scn w.prev rest (record { bound = is.scn; order = is.prev }))
    ∙ (λ i. Some (record { scn = w.scn; prev = w.prev; changes = same i }, rest))

long_mark : (bytes : List ℕ) (m : ℕ × ℕ) → mark_front bytes ≡ Some m → 17 ≤ length bytes
unfolding mark_front
long_mark bytes m e = ltb-false (length bytes) 17 (some_else (ltb (length bytes) 17) _ m e).0

pub windows_shorten : Shortens window_in_front
unfolding window_in_front
windows_shorten bytes rest w found =
    let read = read_all event_in_front bytes in
    let m = mapped (λ mark. (window_with read.0 mark, drop 17 read.1)) (mark_front read.1) (w, rest) found in
    let left : drop 17 read.1 ≡ rest = ap (λ (y : Span × List ℕ). y.1) m.2 in
    omega (arith, ap length left, length-drop 17 read.1, long_mark read.1 m.0 m.1, left_short event_in_front events_shorten bytes bytes)

pub no_window_in_nothing : window_in_front [] ≡ None
unfolding window_in_front read_within mark_front
no_window_in_nothing = refl

pub windows_back : (ws : List Span) (rest : List ℕ) → AllByRecursion IsSpan ws → window_in_front rest ≡ None → read_all window_in_front (windows_bytes ws ++ rest) ≡ (ws, rest)
windows_back = read_back IsSpan window_bytes window_in_front windows_shorten window_back

pub windows_are : (ws : List Span) (bytes : List ℕ) → AreWindows ws bytes → windows_in bytes ≡ ws
windows_are ws bytes are =
    ap windows_in (are.spelled ∙ sym (append-nil (windows_bytes ws))) ∙ ap (λ (x : List Span × List ℕ). x.0) (windows_back ws [] are.within no_window_in_nothing)
