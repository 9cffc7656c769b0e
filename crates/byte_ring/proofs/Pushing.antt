-- Events that are appended one after the other, and where numbers stand in bytes.
use Rattle.std.proofs.Common.{◌≡◌, ℕ, ◌+◌, ◌^◌, ◌<◌, ◌≤◌, List, [], ◌∷◌, ◌++◌, append-nil, append_assoc, length, length-append, get_or, take, drop, ◌-◌, refl, sym, ap, ◌∙◌, arith}
use Rattle.std.specs.Int.{w64, from_be_bytes}
use Rattle.std.proofs.lemmas.List.{drop_more, drop_all, drop_at, drop-drop}
use Rattle.std.proofs.lemmas.Nat.{from_be_bytes-to_be_bytes_8}
use Rattle.bus_types.specs.declared.change.Change.{Change}
use Rattle.bus_types.specs.Window.{Span, span_size}
use Rattle.bus_types.specs.Timeline.{total_size}
use Rattle.event_codec.specs.Bytes.{event_bytes, changes_bytes, mark_bytes, window_bytes}
use Rattle.event_codec.specs.Streams.{windows_bytes}
use Rattle.event_codec.specs.Reading.{number_at}
use Rattle.event_codec.proofs.WindowBytes.{window_length}
use Rattle.byte_ring.specs.Kept.{Bytes}

-- an event was appended, and the others are still to be
pub pushed_one : (scn : ℕ) (cs : List Change) (i : ℕ) (c : Change) (out all : List ℕ) → i < length cs → c ≡ get_or cs i c → out ++ changes_bytes scn (drop i cs) ≡ all
    → (out ++ event_bytes (record { scn = scn; change = c })) ++ changes_bytes scn (drop (i + 1) cs) ≡ all
pushed_one scn cs i c out all lt is e =
    let first : drop i cs ≡ c ∷ drop (i + 1) cs = drop_more cs i c lt ∙ ap (λ (d : Change). d ∷ drop (i + 1) cs) (sym is) in
    append_assoc out (event_bytes (record { scn = scn; change = c })) (changes_bytes scn (drop (i + 1) cs)) ∙ ap (λ (rest : List Change). out ++ changes_bytes scn rest) (sym first) ∙ e

-- all were
pub pushed_all : (scn : ℕ) (cs : List Change) (i : ℕ) (out all : List ℕ) → length cs ≤ i → out ++ changes_bytes scn (drop i cs) ≡ all → out ≡ all
pushed_all scn cs i out all past e = sym (append-nil out) ∙ ap (λ (rest : List Change). out ++ changes_bytes scn rest) (sym (drop_all i cs past)) ∙ e

-- windows take as many bytes as their sizes say
pub bytes_long : (ws : List Span) → length (windows_bytes ws) ≡ total_size ws
bytes_long [] = refl
bytes_long (w ∷ ws) = omega (arith, length-append (window_bytes w) (windows_bytes ws), window_length w, bytes_long ws)

-- the SCN in a mark
mark_number : (scn prev : ℕ) (rest : List ℕ) → scn < 2 ^ 64 → number_at w64 1 (mark_bytes scn prev ++ rest) ≡ scn
unfolding number_at
mark_number scn prev rest fits = from_be_bytes-to_be_bytes_8 scn fits

-- a number behind a front
pub number_behind : (front back : List ℕ) (n at : ℕ) → length front ≡ n → number_at w64 (n + at) (front ++ back) ≡ number_at w64 at back
unfolding number_at
number_behind front back n at e = ap (λ (x : List ℕ). from_be_bytes w64 (take 8 x)) (sym (drop-drop at n (front ++ back)) ∙ ap (drop at) (drop_at front back n e))

-- the SCN at the end of the first window
pub window_number : (w : Span) (rest : List ℕ) (size : ℕ) → w.scn < 2 ^ 64 → size ≡ span_size w → number_at w64 (size - 16) (window_bytes w ++ rest) ≡ w.scn
window_number w rest size fits e =
    let events = changes_bytes w.scn w.changes in
    let place : size - 16 ≡ length events + 1 = omega (arith, e, window_length w, length-append events (mark_bytes w.scn w.prev)) in
    ap (λ n. number_at w64 n (window_bytes w ++ rest)) place
    ∙ ap (λ (x : List ℕ). number_at w64 (length events + 1) x) (append_assoc events (mark_bytes w.scn w.prev) rest)
    ∙ number_behind events (mark_bytes w.scn w.prev ++ rest) (length events) 1 refl
    ∙ mark_number w.scn w.prev rest fits

-- a window was appended: its events, and then its mark
pub pushed_window : (old mid new : Bytes) (w : Span) (scn other prev : ℕ) (cs : List Change) (mark : List ℕ) → scn ≡ w.scn → other ≡ w.scn → prev ≡ w.prev → cs ≡ w.changes → mark ≡ mark_bytes other prev
    → mid ≡ record { bytes = old.bytes ++ changes_bytes scn cs; room = old.room } → new ≡ record { bytes = mid.bytes ++ mark; room = mid.room } → new ≡ record { bytes = old.bytes ++ window_bytes w; room = old.room }
pushed_window old mid new w scn other prev cs mark s o p c m events all =
    all
    ∙ (λ i. record { bytes = (events i).bytes ++ m i; room = (events i).room })
    ∙ (λ i. record { bytes = (old.bytes ++ changes_bytes (s i) (c i)) ++ mark_bytes (o i) (p i); room = old.room })
    ∙ ap (λ (x : List ℕ). record { bytes = x; room = old.room }) (append_assoc old.bytes (changes_bytes w.scn w.changes) (mark_bytes w.scn w.prev))

-- there is room for the mark behind the events
pub mark_fits : (old mid : Bytes) (w : Span) (scn other prev : ℕ) (cs : List Change) (mark : List ℕ) → scn ≡ w.scn → cs ≡ w.changes → mark ≡ mark_bytes other prev
    → mid ≡ record { bytes = old.bytes ++ changes_bytes scn cs; room = old.room } → length old.bytes + span_size w ≤ old.room → length mid.bytes + length mark ≤ mid.room
mark_fits old mid w scn other prev cs mark s c m events fits =
    let events_are : mid ≡ record { bytes = old.bytes ++ changes_bytes w.scn w.changes; room = old.room } = events ∙ (λ i. record { bytes = old.bytes ++ changes_bytes (s i) (c i); room = old.room }) in
    let long = ap (λ (x : Bytes). length x.bytes) events_are in
    let same = ap (λ (x : Bytes). x.room) events_are in
    let marked = ap (λ (x : List ℕ). length x) m in
    omega (arith, long, same, marked, fits, length-append old.bytes (changes_bytes w.scn w.changes), length-append (changes_bytes w.scn w.changes) (mark_bytes w.scn w.prev), window_length w)
