-- Texts where they stand in bytes: events one after the other, and the mark behind them.
use Rattle.std.proofs.Common.{◌≡◌, ℕ, Bool, zero, suc, if◌then◌else◌, ◌+◌, ◌-◌, ◌<◌, ◌≤◌, List, [], ◌∷◌, ◌++◌, append_assoc, length, length-append, length-drop, take, drop, Option, Some, None, refl, sym, ap, subst, ◌∙◌, arith}
use Rattle.std.specs.Int.{Width, w16, w32, w64, byte_len, from_be_bytes}
use Rattle.std.proofs.lemmas.List.{take_at, drop_at, drop-drop}
use Rattle.std.proofs.lemmas.Nat.{from_be_bytes-to_be_bytes_2, from_be_bytes-to_be_bytes_4, from_be_bytes-to_be_bytes_8}
use Rattle.bus_types.specs.declared.change.Change.{Change}
use Rattle.bus_types.specs.declared.change.Key.{Key}
use Rattle.bus_types.specs.declared.change.Key.TheVariants.{Long}
use Rattle.bus_types.specs.Change.{Test, accepted, IsChange, AreChanges, head_size, changes_size}
use Rattle.bus_types.specs.Window.{Span, IsSpan}
use Rattle.event_codec.specs.Bytes.{Event, IsEvent, event_bytes, changes_bytes, mark_bytes, window_bytes}
use Rattle.event_codec.specs.Reading.{number_at}
use Rattle.event_codec.specs.Writing.{accepted_bytes}
use Rattle.event_codec.proofs.EventBytes.{event_length, payload_length}
use Rattle.event_codec.proofs.WindowBytes.{window_length}
use Rattle.event_codec.proofs.Writing.{accepted_more}
use Rattle.plain_buffer.specs.Run.{accepted_size}
use Rattle.plain_buffer.proofs.Runs.{accepted_more as sizes_more}
use Rattle.plain_buffer.proofs.Sending.{accepted_short}
use Rattle.byte_ring.specs.declared.kept.Slot.{Slot}
use Rattle.byte_ring.specs.Parts.{Stands, WindowAt, between}
use Rattle.byte_ring.proofs.Pushing.{window_number}

-- ---- texts

-- the first of two texts
pub stands_first : (bytes : List ℕ) (at : ℕ) (first second : List ℕ) → Stands bytes at (first ++ second) → Stands bytes at first
stands_first bytes at first second s = record { rest = second ++ s.rest; there = s.there ∙ append_assoc first second s.rest }

-- the second one
pub stands_second : (bytes : List ℕ) (at n : ℕ) (first second : List ℕ) → length first ≡ n → Stands bytes at (first ++ second) → Stands bytes (at + n) second
stands_second bytes at n first second e s = record {
  rest = s.rest;
  there = sym (drop-drop n at bytes) ∙ ap (drop n) (s.there ∙ append_assoc first second s.rest) ∙ drop_at first (second ++ s.rest) n e;
}

-- a text that isn't empty ends within the bytes
pub stands_within : (bytes : List ℕ) (at n : ℕ) (text : List ℕ) → 0 < n → length text ≡ n → Stands bytes at text → at + n ≤ length bytes
stands_within bytes at n text some e s = omega (arith, some, e, ap (λ (x : List ℕ). length x) s.there, length-drop at bytes, length-append text s.rest)

-- a text is the bytes from its place to its end
pub stands_part : (bytes : List ℕ) (at n : ℕ) (text : List ℕ) → length text ≡ n → Stands bytes at text → between bytes at (at + n) ≡ text
stands_part bytes at n text e s =
    let size : (at + n) - at ≡ n = omega arith in
    ap (λ m. take m (drop at bytes)) size ∙ ap (take n) s.there ∙ take_at text s.rest n e

-- a number behind a place
pub number_there : (w : Width) (bytes : List ℕ) (at n : ℕ) → number_at w (at + n) bytes ≡ number_at w n (drop at bytes)
unfolding number_at
number_there w bytes at n = ap (λ (x : List ℕ). from_be_bytes w (take (byte_len w) x)) (sym (drop-drop n at bytes))

-- ---- events

abbrev pub event : ℕ → Change → Event
event scn c = record { scn = scn; change = c }

-- the numbers in an event
record Fields (e : Event) (rest : List ℕ) : Type 0 where
  source : number_at w16 1 (event_bytes e ++ rest) ≡ e.change.source
  key : Long (number_at w64 11 (event_bytes e ++ rest)) ≡ e.change.key
  size : 23 + number_at w32 19 (event_bytes e ++ rest) ≡ length (event_bytes e)

fields_of : (scn source : ℕ) (key : Key) (put : Option (List ℕ)) (rest : List ℕ) → IsEvent (event scn (record { source = source; key = key; put = put })) → Fields (event scn (record { source = source; key = key; put = put })) rest
unfolding number_at
fields_of scn source (Long key) (Some payload) rest is = record {
  source = from_be_bytes-to_be_bytes_2 source is.source;
  key = ap Long (from_be_bytes-to_be_bytes_8 key is.key);
  size = ap (λ n. 23 + n) (from_be_bytes-to_be_bytes_4 (length payload) (omega (arith, is.payload))) ∙ payload_length scn source (Long key) (Some payload);
}
fields_of scn source (Long key) None rest is = record {
  source = from_be_bytes-to_be_bytes_2 source is.source;
  key = ap Long (from_be_bytes-to_be_bytes_8 key is.key);
  size = ap (λ n. 23 + n) (from_be_bytes-to_be_bytes_4 0 (omega arith)) ∙ payload_length scn source (Long key) None;
}

-- a number within the first bytes from a place on is one of all bytes
take_front : (k n : ℕ) (xs : List ℕ) → k ≤ n → take k (take n xs) ≡ take k xs
take_front zero n xs h = refl
take_front (suc k) zero xs h = let none : ⊥ = omega (arith, h) in absurd none
take_front (suc k) (suc n) [] h = refl
take_front (suc k) (suc n) (x ∷ xs) h = ap (λ ys. x ∷ ys) (take_front k n xs (omega (arith, h)))

take_in : (k p n : ℕ) (xs : List ℕ) → p + k ≤ n → take k (drop p (take n xs)) ≡ take k (drop p xs)
take_in k p zero xs h = let none : k ≡ 0 = omega (arith, h) in subst (λ m. take m (drop p []) ≡ take m (drop p xs)) (sym none) refl
take_in k p (suc n) [] h = refl
take_in k zero (suc n) (x ∷ xs) h = take_front k (suc n) (x ∷ xs) (omega (arith, h))
take_in k (suc p) (suc n) (x ∷ xs) h = take_in k p n xs (omega (arith, h))

pub number_in : (w : Width) (n at p : ℕ) (xs part : List ℕ) → p + byte_len w ≤ n → part ≡ take n (drop at xs) → number_at w p part ≡ number_at w (at + p) xs
unfolding number_at
number_in w n at p xs part h is = ap (λ ys. from_be_bytes w (take (byte_len w) (drop p ys))) is ∙ ap (from_be_bytes w) (take_in (byte_len w) p n (drop at xs) h) ∙ sym (number_there w xs at p)

-- one that stands whole in a part
pub number_whole : (w : Width) (at : ℕ) (xs part : List ℕ) → part ≡ take (byte_len w) (drop at xs) → number_at w 0 part ≡ number_at w at xs
number_whole w at xs part is = number_in w (byte_len w) at 0 xs part (omega arith) is ∙ ap (λ n. number_at w n xs) (omega arith)

-- the size of an event that stands at a place, by the length that is read in its head
pub size_read : (bytes : List ℕ) (at len : ℕ) (e : Event) (rest : List ℕ) → len ≡ number_at w32 (at + 19) bytes → drop at bytes ≡ event_bytes e ++ rest → IsEvent e → 23 + len ≡ length (event_bytes e)
size_read bytes at len e rest l there is = ap (λ n. 23 + n) (l ∙ number_there w32 bytes at 19 ∙ ap (number_at w32 19) there) ∙ (fields_of e.scn e.change.source e.change.key e.change.put rest is).size

-- what a test says of it, by the source and the key that are read in its head
pub test_read : (test : Test) (bytes : List ℕ) (at source key : ℕ) (e : Event) (rest : List ℕ) → source ≡ number_at w16 (at + 1) bytes → key ≡ number_at w64 (at + 11) bytes → drop at bytes ≡ event_bytes e ++ rest → IsEvent e
    → test source (Long key) ≡ test e.change.source e.change.key
test_read test bytes at source key e rest s k there is =
    let f = fields_of e.scn e.change.source e.change.key e.change.put rest is in
    let same_source = s ∙ number_there w16 bytes at 1 ∙ ap (number_at w16 1) there ∙ f.source in
    let same_key = ap Long (k ∙ number_there w64 bytes at 11 ∙ ap (number_at w64 11) there) ∙ f.key in
    λ i. test (same_source i) (same_key i)

head_is : (k : Key) → head_size k ≡ 23
head_is (Long k) = refl

-- the first change that is left
record Left (cs : List Change) (i : ℕ) : Type 0 where
  c : Change
  first : drop i cs ≡ c ∷ drop (suc i) cs
  is : IsChange c

first_left : (cs : List Change) (i : ℕ) → i < length cs → AreChanges cs → Left cs i
first_left [] i lt are = absurd (omega arith)
first_left (c ∷ cs) zero lt are = record { c = c; first = refl; is = are.0 }
first_left (c ∷ cs) (suc i) lt are = (let l = first_left cs i (omega arith) are.1 in record { c = l.c; first = l.first; is = l.is })

-- the first event that is left at a place, and those behind it
pub record Next (bytes : List ℕ) (at scn : ℕ) (cs : List Change) (i : ℕ) : Type 0 where
  pub c : Change
  pub left : drop i cs ≡ c ∷ drop (i + 1) cs
  pub head : at + 23 ≤ length bytes
  pub within : at + length (event_bytes (event scn c)) ≤ length bytes
  pub there : Stands bytes at (event_bytes (event scn c))
  pub is : IsEvent (event scn c)
  pub next : Stands bytes (at + length (event_bytes (event scn c))) (changes_bytes scn (drop (i + 1) cs))

pub next_event : (bytes : List ℕ) (at : ℕ) (w : Span) (i : ℕ) → IsSpan w → i < length w.changes → Stands bytes at (changes_bytes w.scn (drop i w.changes)) → Next bytes at w.scn w.changes i
next_event bytes at w i is lt s =
    let l = first_left w.changes i lt is.changes in
    let e = event w.scn l.c in
    let rest = changes_bytes w.scn (drop (i + 1) w.changes) in
    let one : suc i ≡ i + 1 = omega arith in
    let left : drop i w.changes ≡ l.c ∷ drop (i + 1) w.changes = l.first ∙ ap (λ n. l.c ∷ drop n w.changes) one in
    let all : Stands bytes at (event_bytes e ++ rest) = subst (λ (cs : List Change). Stands bytes at (changes_bytes w.scn cs)) left s in
    let first = stands_first bytes at (event_bytes e) rest all in
    let long = event_length e in
    let size : 23 ≤ length (event_bytes e) = omega (arith, long, head_is l.c.key) in
    let within = stands_within bytes at (length (event_bytes e)) (event_bytes e) (omega (arith, size)) refl first in
    record {
      c = l.c;
      left = left;
      head = omega (arith, size, within);
      within = within;
      there = first;
      is = record { positive = omega (arith, is.prev); scn = is.scn; source = l.is.source; key = l.is.key; payload = l.is.payload };
      next = stands_second bytes at (length (event_bytes e)) (event_bytes e) rest refl all;
    }

-- the events of a slot's window
pub events_there : (bytes : List ℕ) (at : ℕ) (s : Slot) → WindowAt bytes at s → Stands bytes at (changes_bytes s.window.value.scn s.window.value.changes)
events_there bytes at s w = stands_first bytes at (changes_bytes s.window.value.scn s.window.value.changes) (mark_bytes s.window.value.scn s.window.value.prev) w.there

-- its size where it is accepted
pub size_accepted : (test : Test) (scn : ℕ) (c : Change) (size : ℕ) (a : Bool) → size ≡ length (event_bytes (event scn c)) → a ≡ test c.source c.key → (if a then size else 0) ≡ accepted_size test c
size_accepted test scn c size a is same = λ i. if same i then (is ∙ event_length (event scn c)) i else 0

-- a step of the sum of what a filter leaves
pub size_next : (test : Test) (bytes : List ℕ) (at scn : ℕ) (cs : List Change) (i sum more total : ℕ) (n : Next bytes at scn cs i) (size : ℕ) (a : Bool) → size ≡ length (event_bytes (event scn n.c)) → a ≡ test n.c.source n.c.key → more ≡ (if a then size else 0)
    → sum + changes_size (accepted test (drop i cs)) ≡ total → (sum + more) + changes_size (accepted test (drop (i + 1) cs)) ≡ total
size_next test bytes at scn cs i sum more total n size a is same m e =
    let first = ap (λ (rest : List Change). changes_size (accepted test rest)) n.left ∙ sizes_more test n.c (drop (i + 1) cs) in
    omega (arith, e, first, m ∙ size_accepted test scn n.c size a is same)

-- its bytes where it is accepted
bytes_accepted : (test : Test) (bytes : List ℕ) (at scn : ℕ) (cs : List Change) (i : ℕ) (n : Next bytes at scn cs i) (size : ℕ) (a : Bool) → size ≡ length (event_bytes (event scn n.c)) → a ≡ test n.c.source n.c.key
    → (if a then between bytes at (at + size) else []) ≡ accepted_bytes test scn n.c
bytes_accepted test bytes at scn cs i n size a is same =
    let part = stands_part bytes at size (event_bytes (event scn n.c)) (sym is) n.there in
    λ k. if same k then part k else []

-- the bytes that a filter leaves of it, and of those behind it
pub bytes_next : (test : Test) (bytes : List ℕ) (at scn : ℕ) (cs : List Change) (i : ℕ) (n : Next bytes at scn cs i) (size : ℕ) (a : Bool) → size ≡ length (event_bytes (event scn n.c)) → a ≡ test n.c.source n.c.key
    → changes_bytes scn (accepted test (drop i cs)) ≡ (if a then between bytes at (at + size) else []) ++ changes_bytes scn (accepted test (drop (i + 1) cs))
bytes_next test bytes at scn cs i n size a is same =
    let rest = changes_bytes scn (accepted test (drop (i + 1) cs)) in
    ap (λ (left : List Change). changes_bytes scn (accepted test left)) n.left ∙ accepted_more test scn n.c (drop (i + 1) cs) ∙ ap (λ (x : List ℕ). x ++ rest) (sym (bytes_accepted test bytes at scn cs i n size a is same))

-- no more bytes than the event has
pub part_short : (test : Test) (bytes : List ℕ) (at scn : ℕ) (cs : List Change) (i : ℕ) (n : Next bytes at scn cs i) (size : ℕ) (a : Bool) → size ≡ length (event_bytes (event scn n.c)) → a ≡ test n.c.source n.c.key
    → length (if a then between bytes at (at + size) else []) + changes_size (drop (i + 1) cs) ≤ changes_size (drop i cs)
part_short test bytes at scn cs i n size a is same =
    omega (arith, ap (λ (x : List ℕ). length x) (bytes_accepted test bytes at scn cs i n size a is same), accepted_short test scn n.c, ap changes_size n.left)

-- ---- the mark

-- the SCN in the mark of a slot's window
pub scn_there : (bytes : List ℕ) (at mark : ℕ) (s : Slot) → WindowAt bytes at s → mark + 17 ≡ at + s.size → number_at w64 (mark + 1) bytes ≡ s.window.value.scn
scn_there bytes at mark s w e =
    let v = s.window.value in
    let place : mark + 1 ≡ at + (s.size - 16) = omega (arith, e, w.size) in
    ap (λ n. number_at w64 n bytes) place ∙ number_there w64 bytes at (s.size - 16) ∙ ap (number_at w64 (s.size - 16)) w.there.there ∙ window_number v w.there.rest s.size (omega (arith, w.is.scn)) w.size

-- a slot's window ends within the bytes
pub window_within : (bytes : List ℕ) (at : ℕ) (s : Slot) → WindowAt bytes at s → at + s.size ≤ length bytes
window_within bytes at s w = stands_within bytes at s.size (window_bytes s.window.value) (omega (arith, w.size)) (window_length s.window.value ∙ sym w.size) w.there

-- all bytes of a window
pub window_between : (bytes : List ℕ) (at : ℕ) (s : Slot) → WindowAt bytes at s → between bytes at (at + s.size) ≡ window_bytes s.window.value
window_between bytes at s w = stands_part bytes at s.size (window_bytes s.window.value) (window_length s.window.value ∙ sym w.size) w.there

-- the mark's bytes
pub mark_there : (bytes : List ℕ) (at mark : ℕ) (s : Slot) → WindowAt bytes at s → mark + 17 ≡ at + s.size → between bytes mark (mark + 17) ≡ mark_bytes s.window.value.scn s.window.value.prev
mark_there bytes at mark s w e =
    let v = s.window.value in
    let events = changes_bytes v.scn v.changes in
    let text = mark_bytes v.scn v.prev in
    let place : at + length events ≡ mark = omega (arith, e, w.size, window_length v, length-append events text) in
    stands_part bytes mark 17 text refl (subst (λ n. Stands bytes n text) place (stands_second bytes at (length events) events text refl w.there))
