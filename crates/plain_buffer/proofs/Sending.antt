-- Parts of a reply, sent one after the other.
use Rattle.std.proofs.Common.{◌≡◌, ℕ, ◌+◌, ◌-◌, ◌<◌, ◌≤◌, Bool, true, false, cond, suc, List, [], ◌∷◌, ◌++◌, length, length-append, get_or, take, drop, Option, Some, None, Result, Ok, Err, sym, ap, subst, ◌∙◌, arith}
use Rattle.std.proofs.lemmas.List.{take-append-le, drop_more, drop_all}
use Rattle.std.proofs.Math.Seq.{take-append-add}
use Rattle.std.proofs.KnownBytes.{Appends-nil, Appends-trans}
use Rattle.std.specs.Io.KnownBytes.{Appends}
use Rattle.std.specs.Prelude.{IfSome}
use Rattle.bus_types.specs.declared.change.Change.{Change}
use Rattle.bus_types.specs.declared.limits.TheConstants.{MAX_WINDOW}
use Rattle.bus_types.specs.Change.{Test, accepted, change_size, changes_size}
use Rattle.bus_types.specs.Window.{Span, IsSpan}
use Rattle.bus_types.specs.Cut.{cut, cuts}
use Rattle.event_codec.specs.Bytes.{event_bytes, mark_bytes, changes_bytes, window_bytes}
use Rattle.event_codec.specs.Streams.{windows_bytes}
use Rattle.event_codec.specs.Writing.{accepted_bytes}
use Rattle.event_codec.proofs.EventBytes.{event_length}
use Rattle.event_codec.proofs.WindowBytes.{window_length}
use Rattle.event_codec.proofs.Cuts.{cut_no_larger}
use Rattle.event_codec.proofs.Writing.{accepted_more}
use Rattle.bus_io.specs.declared.write.WriteFault.{WriteFault}
use Rattle.bus_io.specs.Bytes.{RoomLeft}
use Rattle.plain_buffer.specs.Send.{Told, Sends}

-- ---- room

pub room_same : (room : Option ℕ) → RoomLeft room room 0
room_same None = tt
room_same (Some n) = omega arith

-- what two parts took
room_then : (a b c : Option ℕ) (first second both : ℕ) → both ≡ first + second → RoomLeft a b first → RoomLeft b c second → RoomLeft a c both
room_then None b c first second both e f g = tt
room_then (Some n) None c first second both e f g = absurd f
room_then (Some n) (Some m) None first second both e f g = absurd g
room_then (Some n) (Some m) (Some k) first second both e f g = omega (arith, f, g)

-- room that a later part lacks
room_lacks : (a b : Option ℕ) (first second both : ℕ) → both ≡ first + second → RoomLeft a b first → IfSome b (λ room. room < second) → IfSome a (λ room. room < both)
room_lacks None b first second both e f g = tt
room_lacks (Some n) None first second both e f g = absurd f
room_lacks (Some n) (Some m) first second both e f g = omega (arith, f, g)

-- room that a front lacks
room_front : (a : Option ℕ) (first both : ℕ) → first ≤ both → IfSome a (λ room. room < first) → IfSome a (λ room. room < both)
room_front None first both le h = tt
room_front (Some n) first both le h = omega (arith, h)

-- ---- parts

-- nothing is sent at once
pub sends_none : (o : Told) (done : ℕ) → Sends o o done (Ok done) []
sends_none o done = (omega arith, Appends-nil o.written, room_same o.room)

-- a fault in the first of two parts
pub sends_stop : (a b : Told) (done : ℕ) (fault : WriteFault) (first second : List ℕ) → Sends a b done (Err fault) first → Sends a b done (Err fault) (first ++ second)
sends_stop a b done fault first second s = (
  s.0,
  s.1,
  omega (arith, s.2, length-append first second),
  subst (Appends a.written b.written) (sym (take-append-le s.0 first second (omega (arith, s.2)))) s.3,
  room_front a.room (length first) (length (first ++ second)) (omega (arith, length-append first second)) s.4,
)

-- two parts, of which the first was sent
pub sends_then : (a b c : Told) (done next : ℕ) (result : Result ℕ WriteFault) (first second : List ℕ) → Sends a b done (Ok next) first → Sends b c next result second → Sends a c done result (first ++ second)
sends_then a b c done next (Ok now) first second s t = (
  omega (arith, s.0, t.0, length-append first second),
  Appends-trans a.written b.written c.written first second s.1 t.1,
  room_then a.room b.room c.room (length first) (length second) (length (first ++ second)) (length-append first second) s.2 t.2,
)
sends_then a b c done next (Err fault) first second s t = (
  length first + t.0,
  omega (arith, s.0, t.1),
  omega (arith, t.2, length-append first second),
  subst (Appends a.written c.written) (sym (take-append-add first second t.0)) (Appends-trans a.written b.written c.written first (take t.0 second) s.1 t.3),
  room_lacks a.room b.room (length first) (length second) (length (first ++ second)) (length-append first second) s.2 t.4,
)

-- ---- a text of which a part is still to send

-- what is left to send, sent from here on, is all, sent from the start on
abbrev pub Awaits : Told → ℕ → List ℕ → Told → ℕ → List ℕ → Type 0
Awaits start first all now done left = (new : Told) (result : Result ℕ WriteFault) → Sends now new done result left → Sends start new first result all

-- a part of it was sent
pub awaits_more : (start : Told) (first : ℕ) (all : List ℕ) (a b : Told) (done next : ℕ) (left part rest : List ℕ) → left ≡ part ++ rest → Awaits start first all a done left → Sends a b done (Ok next) part → Awaits start first all b next rest
awaits_more start first all a b done next left part rest e awaits sent new result last =
    awaits new result (subst (Sends a new done result) (sym e) (sends_then a b new done next result part rest sent last))

-- a part of it was begun
pub awaits_stop : (start : Told) (first : ℕ) (all : List ℕ) (a b : Told) (done : ℕ) (fault : WriteFault) (left part rest : List ℕ) → left ≡ part ++ rest → Awaits start first all a done left → Sends a b done (Err fault) part → Sends start b first (Err fault) all
awaits_stop start first all a b done fault left part rest e awaits sent =
    awaits b (Err fault) (subst (Sends a b done (Err fault)) (sym e) (sends_stop a b done fault part rest sent))

-- nothing is left
pub awaits_end : (start : Told) (first : ℕ) (all : List ℕ) (now : Told) (done : ℕ) (left : List ℕ) → left ≡ [] → Awaits start first all now done left → Sends start now first (Ok done) all
awaits_end start first all now done left none awaits = awaits now (Ok done) (subst (Sends now now done (Ok done)) (sym none) (sends_none now done))

-- ---- the events of changes

-- the first change that is left and the others
pub changes_left : (test : Test) (scn : ℕ) (cs : List Change) (i : ℕ) (c : Change) → i < length cs → c ≡ get_or cs i c → changes_bytes scn (accepted test (drop i cs)) ≡ accepted_bytes test scn c ++ changes_bytes scn (accepted test (drop (i + 1) cs))
changes_left test scn cs i c lt is =
    ap (λ (rest : List Change). changes_bytes scn (accepted test rest)) (drop_more cs i c lt ∙ ap (λ (d : Change). d ∷ drop (i + 1) cs) (sym is))
    ∙ accepted_more test scn c (drop (i + 1) cs)

-- none is left
pub changes_over : (test : Test) (scn : ℕ) (cs : List Change) (i : ℕ) → length cs ≤ i → changes_bytes scn (accepted test (drop i cs)) ≡ []
changes_over test scn cs i past = ap (λ (rest : List Change). changes_bytes scn (accepted test rest)) (drop_all i cs past)

-- the events that a filter leaves of a window, and its mark
pub window_parts : (test : Test) (w : Span) (scn prev : ℕ) (cs : List Change) (mark : List ℕ) → scn ≡ w.scn → prev ≡ w.prev → cs ≡ w.changes → mark ≡ mark_bytes scn prev → window_bytes (cut test w) ≡ changes_bytes scn (accepted test cs) ++ mark
window_parts test w scn prev cs mark s p c m =
    sym (ap (λ (bytes : List ℕ). changes_bytes scn (accepted test cs) ++ bytes) m ∙ (λ i. changes_bytes (s i) (accepted test (c i)) ++ mark_bytes (s i) (p i)))

-- what is left of the sizes, at a change
pub sizes_left : (cs : List Change) (i : ℕ) (c : Change) → i < length cs → c ≡ get_or cs i c → changes_size (drop i cs) ≡ change_size c + changes_size (drop (i + 1) cs)
sizes_left cs i c lt is = ap changes_size (drop_more cs i c lt ∙ ap (λ (d : Change). d ∷ drop (i + 1) cs) (sym is))

-- an accepted change takes no more bytes than the change
pub accepted_short : (test : Test) (scn : ℕ) (c : Change) → length (accepted_bytes test scn c) ≤ change_size c
accepted_short test scn c = chosen_short (test c.source c.key) (event_bytes (record { scn = scn; change = c })) (change_size c) (event_length (record { scn = scn; change = c }))
  where
    chosen_short : (b : Bool) (bytes : List ℕ) (n : ℕ) → length bytes ≡ n → length (cond b bytes []) ≤ n
    chosen_short true bytes n e = omega arith
    chosen_short false bytes n e = omega arith

-- ---- windows

-- the first of so many windows from a place on, and the others
pub windows_left : (test : Test) (ws : List Span) (from i count : ℕ) (w : Span) → i < count → from + i < length ws → w ≡ get_or ws (from + i) w
    → windows_bytes (cuts test (take (count - i) (drop (from + i) ws))) ≡ window_bytes (cut test w) ++ windows_bytes (cuts test (take (count - (i + 1)) (drop (from + (i + 1)) ws)))
windows_left test ws from i count w few lt is =
    let next : (from + i) + 1 ≡ from + (i + 1) = omega arith in
    let first : drop (from + i) ws ≡ w ∷ drop (from + (i + 1)) ws = drop_more ws (from + i) w lt ∙ (λ k. sym is k ∷ drop (next k) ws) in
    let more : count - i ≡ suc (count - (i + 1)) = omega arith in
    (λ k. windows_bytes (cuts test (take (more k) (first k))))

-- none is left
pub windows_over : (test : Test) (ws : List Span) (count i : ℕ) → count ≤ i → windows_bytes (cuts test (take (count - i) ws)) ≡ []
windows_over test ws count i past =
    let none : count - i ≡ 0 = omega arith in
    ap (λ n. windows_bytes (cuts test (take n ws))) none

-- what a filter leaves of a window is no longer than a window may be
pub cut_short : (test : Test) (w : Span) → IsSpan w → length (window_bytes (cut test w)) ≤ MAX_WINDOW
cut_short test w is = omega (arith, window_length (cut test w), cut_no_larger test w is, is.size)
