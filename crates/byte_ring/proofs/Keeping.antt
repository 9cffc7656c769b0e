-- What a ring knows of its windows, when one is evicted and when one is pushed.
use Rattle.std.proofs.Common.{◌≡◌, ℕ, ◌+◌, ◌-◌, ◌%◌, ◌^◌, ◌<◌, ◌≤◌, true, List, [], ◌∷◌, ◌++◌, append-nil, length, length-append, take, drop, Some, refl, sym, ap, subst, ◌∙◌, arith}
use Rattle.std.specs.Prelude.{slice_get}
use Rattle.std.specs.Int.{w64}
use Rattle.std.proofs.lemmas.List.{length-map, map-append, drop_at}
use Rattle.std.proofs.lemmas.List.Concat.{flat_map-append}
use Rattle.bus_types.specs.Window.{Span, span_size}
use Rattle.bus_types.specs.Timeline.{Follows, IsTimelineFrom, end_from, total_size}
use Rattle.bus_types.specs.Relay.{Room, sizes, has_room}
use Rattle.bus_types.proofs.Floors.{roomy_parts, roomy_from}
use Rattle.bus_types.proofs.Stretches.{timeline-append, timeline_rises}
use Rattle.circular_buffer.specs.Buffer.{Buffer}
use Rattle.event_codec.specs.Bytes.{window_bytes}
use Rattle.event_codec.specs.Streams.{windows_bytes}
use Rattle.event_codec.specs.Reading.{number_at}
use Rattle.event_codec.proofs.WindowBytes.{window_length}
use Rattle.plain_buffer.proofs.Evicting.{total_is}
use Rattle.plain_buffer.proofs.Publishing.{total_more}
use Rattle.scn_index.specs.Index.{Index, AreBelow}
use Rattle.byte_ring.specs.declared.kept.Slot.{Slot}
use Rattle.byte_ring.specs.Kept.{Bytes, Holds, entry_of, dropped, entries_of}
use Rattle.byte_ring.specs.Slots.{windows_of, Tells, ArePlaced, IsKept}
use Rattle.byte_ring.proofs.Entries.{entries_less, entries_more, entries_below, entries_few}
use Rattle.byte_ring.proofs.Pushing.{bytes_long, window_number}

-- ---- the oldest window

pub front_slot : (slots : List Slot) (s : Slot) → slice_get slots 0 ≡ Some s → slots ≡ s ∷ drop 1 slots
front_slot [] s e = absurd cc
front_slot (v ∷ slots) s e = let same : v ≡ s = cc in ap (λ (x : Slot). x ∷ slots) same

-- what is known of the oldest window, and what is left once it is evicted
pub record Oldest (circle : Bytes) (slots : Buffer Slot) (end first : ℕ) (index : Index) (s : Slot) (rest : List Slot) : Type 0 where
  pub least : 17 ≤ s.size
  pub within : s.size ≤ length circle.bytes
  pub scn : number_at w64 (s.size - 16) circle.bytes ≡ s.window.value.scn
  pub next : IsKept (record { bytes = drop s.size circle.bytes; room = circle.room }) (record { items = rest; capacity = slots.capacity }) s.window.value.scn end (first + 1) (record { slots = index.slots; entries = drop (dropped first) index.entries })

numbers_fit : (w : Span) (floor : ℕ) → Follows floor w → w.scn < 2 ^ 64
numbers_fit w floor f = omega (arith, f.within.scn)

room_behind : (room : Room) (w : Span) (ws : List Span) → has_room room (sizes (w ∷ ws)) ≡ true → has_room room (sizes ws) ≡ true
room_behind room w ws h =
    let parts = roomy_parts room (sizes (w ∷ ws)) h in
    roomy_from room (sizes ws) (omega (arith, parts.0)) (omega (arith, parts.1))

oldest_of : (circle : Bytes) (capacity floor end first : ℕ) (index : Index) (s : Slot) (rest : List Slot) → IsKept circle (record { items = s ∷ rest; capacity = capacity }) floor end first index → Oldest circle (record { items = s ∷ rest; capacity = capacity }) end first index s rest
oldest_of circle capacity floor end first index s rest kept =
    let w = s.window.value in
    let ws = windows_of rest in
    let size : s.size ≡ span_size w = kept.placed.0.size in
    let follows = kept.timeline.0 in
    let long = ap (λ (x : List ℕ). length x) kept.bytes in
    record {
      least = omega (arith, size);
      within = omega (arith, size, long, length-append (window_bytes w) (windows_bytes ws), window_length w);
      scn = ap (λ (x : List ℕ). number_at w64 (s.size - 16) x) kept.bytes ∙ window_number w (windows_bytes ws) s.size (numbers_fit w floor follows) size;
      next = record {
        room = kept.room;
        bytes = ap (drop s.size) kept.bytes ∙ drop_at (window_bytes w) (windows_bytes ws) s.size (window_length w ∙ sym size);
        placed = kept.placed.1;
        timeline = kept.timeline.1;
        roomy = room_behind (record { bytes = circle.room; windows = capacity }) w ws kept.roomy;
        low = omega (arith, kept.low, follows.chained, follows.within.prev);
        floor_low = follows.within.scn;
        indexed = ap (drop (dropped first)) kept.indexed ∙ entries_less first floor w ws;
        spare = kept.spare;
      };
    }

pub oldest_is : (circle : Bytes) (slots : Buffer Slot) (floor end first : ℕ) (index : Index) (s : Slot) (rest : List Slot) → slots.items ≡ s ∷ rest → IsKept circle slots floor end first index → Oldest circle slots end first index s rest
oldest_is circle slots floor end first index s rest are kept =
    let same : slots ≡ record { items = s ∷ rest; capacity = slots.capacity } = λ i. record { items = are i; capacity = slots.capacity } in
    subst (λ (x : Buffer Slot). Oldest circle x end first index s rest) (sym same) (oldest_of circle slots.capacity floor end first index s rest (subst (λ (x : Buffer Slot). IsKept circle x floor end first index) same kept))

end_first : (floor : ℕ) (w : Span) (ws : List Span) → end_from floor (take 1 (w ∷ ws)) ≡ w.scn
end_first floor w [] = refl
end_first floor w (v ∷ ws) = refl

-- what contracts see once it is evicted
pub holds_less : (circle a : Bytes) (slots p : Buffer Slot) (floor f : ℕ) (s : Slot) → slots.items ≡ s ∷ drop 1 slots.items → a.room ≡ circle.room → p ≡ record { items = drop 1 slots.items; capacity = slots.capacity } → f ≡ s.window.value.scn
    → ◌≡◌ {A = Holds} (record { room = record { bytes = a.room; windows = p.capacity }; floor = f; windows = windows_of p.items })
    (record { room = record { bytes = circle.room; windows = slots.capacity }; floor = end_from floor (take 1 (windows_of slots.items)); windows = drop 1 (windows_of slots.items) })
holds_less circle a slots p floor f s are r e n =
    let next = n ∙ sym (ap (λ (x : List Slot). end_from floor (take 1 (windows_of x))) are ∙ end_first floor s.window.value (windows_of (drop 1 slots.items))) in
    let left = ap (λ (x : Buffer Slot). windows_of x.items) e ∙ sym (ap (λ (x : List Slot). drop 1 (windows_of x)) are) in
    λ i. record { room = record { bytes = r i; windows = (e i).capacity }; floor = next i; windows = left i }

-- ---- one more window

turned : (begin behind end more : ℕ) → (begin + behind) % 4294967296 ≡ end → (begin + (behind + more)) % 4294967296 ≡ (end + more) % 4294967296
turned begin behind end more e = omega (arith, e)

-- the windows with one more
pub windows_more : (slots : List Slot) (s : Slot) → windows_of (slots ++ s ∷ []) ≡ windows_of slots ++ s.window.value ∷ []
windows_more slots s = map-append (λ (x : Slot). x.window.value) slots (s ∷ [])

placed_more : (end size : ℕ) (slots : List Slot) (s : Slot) → size ≡ span_size s.window.value → Tells ((end + size) % 4294967296) 0 s → ArePlaced end slots → ArePlaced ((end + size) % 4294967296) (slots ++ s ∷ [])
placed_more end size [] s e tells are = (tells, tt)
placed_more end size (v ∷ slots) s e tells are =
    let behind : v.size + total_size (windows_of (slots ++ s ∷ [])) ≡ (v.size + total_size (windows_of slots)) + size = omega (arith, e, ap total_size (windows_more slots s), total_more (windows_of slots) s.window.value) in (
      record {
        size = are.0.size;
        count = are.0.count;
        place = ap (λ n. (v.begin + n) % 4294967296) behind ∙ turned v.begin (v.size + total_size (windows_of slots)) end size are.0.place;
      },
      placed_more end size slots s e tells are.1,
    )

-- what is needed of a window that is pushed
pub record CanPush (circle : Bytes) (slots : Buffer Slot) (floor first : ℕ) (index : Index) (w : Span) : Type 0 where
  pub above : AreBelow w.prev index.entries
  pub spare : length index.entries < index.slots
  pub bytes : length circle.bytes + span_size w ≤ circle.room
  pub slots_left : length slots.items + 1 ≤ slots.capacity
  pub number : first + length slots.items ≤ w.prev

sizes_count : (ws : List Span) → length (sizes ws) ≡ length ws
sizes_count ws = length-map ws span_size

counted_up : (floor : ℕ) (ws : List Span) → IsTimelineFrom floor ws → floor + length ws ≤ end_from floor ws
counted_up floor [] t = omega arith
counted_up floor (w ∷ ws) t = omega (arith, t.0.chained, t.0.within.prev, counted_up w.scn ws t.1)

pub can_push : (circle : Bytes) (slots : Buffer Slot) (floor end first : ℕ) (index : Index) (w : Span) → IsKept circle slots floor end first index → Follows (end_from floor (windows_of slots.items)) w
    → has_room (record { bytes = circle.room; windows = slots.capacity }) (sizes (windows_of slots.items ++ w ∷ [])) ≡ true → CanPush circle slots floor first index w
can_push circle slots floor end first index w kept follows roomy =
    let ws = windows_of slots.items in
    let parts = roomy_parts (record { bytes = circle.room; windows = slots.capacity }) (sizes (ws ++ w ∷ [])) roomy in
    let count : length ws ≡ length slots.items = length-map slots.items (λ (x : Slot). x.window.value) in
    let counted = sizes_count (ws ++ w ∷ []) in
    let joined = length-append ws (w ∷ []) in
    let entries = ap (λ (x : List (ℕ × ℕ)). length x) kept.indexed in
    let few = entries_few first floor ws in
    let left : length slots.items + 1 ≤ slots.capacity = omega (arith, parts.0, counted, joined, count) in
    record {
      above = subst (λ n. AreBelow n index.entries) (sym follows.chained) (subst (AreBelow (end_from floor ws)) (sym kept.indexed) (entries_below first floor (end_from floor ws) ws (timeline_rises floor ws kept.timeline) (omega arith)));
      spare = omega (arith, entries, few, kept.spare, count, left);
      bytes = omega (arith, parts.1, total_is (ws ++ w ∷ []), total_more ws w, ap (λ (x : List ℕ). length x) kept.bytes, bytes_long ws);
      slots_left = left;
      number = omega (arith, kept.low, counted_up floor ws kept.timeline, follows.chained, count);
    }

-- it was pushed
pub kept_more : (circle : Bytes) (slots : Buffer Slot) (floor end first number : ℕ) (index : Index) (w : Span) (s : Slot) → IsKept circle slots floor end first index → Follows (end_from floor (windows_of slots.items)) w
    → has_room (record { bytes = circle.room; windows = slots.capacity }) (sizes (windows_of slots.items ++ w ∷ [])) ≡ true → number ≡ first + length slots.items → s.window.value ≡ w → s.begin ≡ end → s.size ≡ span_size w → s.count ≡ length w.changes
    → IsKept (record { bytes = circle.bytes ++ window_bytes w; room = circle.room }) (record { items = slots.items ++ s ∷ []; capacity = slots.capacity }) floor ((end + s.size) % 4294967296) first
    (record { slots = index.slots; entries = index.entries ++ entry_of number w.prev })
kept_more circle slots floor end first number index w s kept follows roomy n is begins sized counted =
    let ws = windows_of slots.items in
    let all : windows_of (slots.items ++ s ∷ []) ≡ ws ++ w ∷ [] = windows_more slots.items s ∙ ap (λ (x : Span). ws ++ x ∷ []) is in
    let count : length ws ≡ length slots.items = length-map slots.items (λ (x : Slot). x.window.value) in
    let at : first + length ws ≡ number = omega (arith, count, n) in
    let ends : (s.begin + (s.size + 0)) % 4294967296 ≡ (end + s.size) % 4294967296 = (let e : s.begin + (s.size + 0) ≡ end + s.size = omega (arith, begins) in ap (λ m. m % 4294967296) e) in
    let size : s.size ≡ span_size s.window.value = sized ∙ ap span_size (sym is) in
    record {
      room = kept.room;
      bytes = ap (λ (x : List ℕ). x ++ window_bytes w) kept.bytes ∙ ap (λ (x : List ℕ). windows_bytes ws ++ x) (sym (append-nil (window_bytes w))) ∙ sym (flat_map-append window_bytes ws (w ∷ [])) ∙ ap windows_bytes (sym all);
      placed = placed_more end s.size slots.items s size (record { size = size; count = counted ∙ ap (λ (x : Span). length x.changes) (sym is); place = ends }) kept.placed;
      timeline = subst (IsTimelineFrom floor) (sym all) (timeline-append floor ws w kept.timeline follows);
      roomy = subst (λ (x : List Span). has_room (record { bytes = circle.room; windows = slots.capacity }) (sizes x) ≡ true) (sym all) roomy;
      low = kept.low;
      floor_low = kept.floor_low;
      indexed = ap (λ (x : List (ℕ × ℕ)). x ++ entry_of number w.prev) kept.indexed ∙ (λ i. entries_of first floor ws ++ entry_of (sym at i) (follows.chained i)) ∙ sym (entries_more first floor ws w) ∙ ap (entries_of first floor) (sym all);
      spare = kept.spare;
    }

-- slots that are not all taken keep what is pushed
pub slots_kept : (slots : List Slot) (s : Slot) (capacity : ℕ) → length slots + 1 ≤ capacity → drop (length (slots ++ s ∷ []) - capacity) (slots ++ s ∷ []) ≡ slots ++ s ∷ []
slots_kept slots s capacity room =
    let none : length (slots ++ s ∷ []) - capacity ≡ 0 = omega (arith, length-append slots (s ∷ [])) in
    ap (λ n. drop n (slots ++ s ∷ [])) none

-- the same, of what the parts are
pub kept_same : (a b : Bytes) (p q : Buffer Slot) (f g end first : ℕ) (x y : Index) → a ≡ b → p ≡ q → f ≡ g → x ≡ y → IsKept b q g end first y → IsKept a p f end first x
kept_same a b p q f g end first x y ab pq fg xy kept =
    subst (λ (c : Bytes). IsKept c p f end first x) (sym ab) (subst (λ (c : Buffer Slot). IsKept b c f end first x) (sym pq) (subst (λ n. IsKept b q n end first x) (sym fg) (subst (λ (c : Index). IsKept b q g end first c) (sym xy) kept)))
