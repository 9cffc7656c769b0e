-- Bytes of a reply that are read so far, and one more item.
use Rattle.std.proofs.Common.{◌≡◌, ℕ, ◌+◌, ◌<◌, ◌≤◌, ◌⊎◌, inl, inr, true, false, IsTrue, List, [], ◌∷◌, ◌++◌, length, drop, Some, None, refl, sym, ap, subst, ◌∙◌, append_assoc, append-nil, arith}
use Rattle.std.specs.List.{AllByRecursion}
use Rattle.std.proofs.lemmas.Bool.{cases_lt}
use Rattle.std.proofs.lemmas.List.{drop_at, length-append, nil_from_length}
use Rattle.std.proofs.lemmas.List.Concat.{flat_map-append}
use Rattle.bus_types.specs.declared.change.Change.{Change}
use Rattle.bus_types.specs.declared.limits.TheConstants.{MAX_WINDOW}
use Rattle.bus_types.specs.Change.{changes_size}
use Rattle.bus_types.specs.Window.{Span}
use Rattle.bus_types.specs.Timeline.{end_from, end_of}
use Rattle.bus_types.specs.Relay.{most_windows}
use Rattle.partition_filter.specs.Selection.{Selection, test_of}
use Rattle.event_codec.specs.Bytes.{event_bytes, mark_bytes, changes_bytes, window_bytes}
use Rattle.event_codec.specs.Items.{Since, Open, open_of, has_right_scn, has_right_prev, front_of}
use Rattle.event_codec.specs.Items.Front.{AnEvent, AMark}
use Rattle.event_codec.specs.Streams.{Comes, after_window, after_windows, windows_bytes, Begins}
use Rattle.event_codec.proofs.Numbers.{IsBytes, IsBytes-drop}
use Rattle.event_codec.proofs.Fronts.{event_taken, mark_taken}
use Rattle.event_codec.proofs.Begun.{event, change_positive, changes_bytes-push, changes_size-append, changes_length, are_changes_push, open_count, open_size, open-push, right_scn}
use Rattle.event_codec.proofs.WindowBytes.{window_length}
use Rattle.event_codec.proofs.Streams.{come_append, after_append}
use Rattle.bus_wire.specs.Lawful.{has_enough, IsAskedFor, after_floor, HoldsRun, can_stand, Reading, StopsAt}
use Rattle.bus_wire.specs.Run.{Reached}

-- ---- lists

-- what holds of each element, and of one more
pub all_push : {X : Type 0} (P : X → Type 0) (xs : List X) (x : X) → AllByRecursion P xs → P x → AllByRecursion P (xs ++ x ∷ [])
all_push P [] x each is = (is, tt)
all_push P (y ∷ ys) x each is = (each.0, all_push P ys x each.1 is)

regroup : (a b c d : List ℕ) → (a ++ b) ++ (c ++ d) ≡ (a ++ (b ++ c)) ++ d
regroup a b c d = simp append_assoc

pub windows_bytes-push : (ws : List Span) (w : Span) → windows_bytes (ws ++ w ∷ []) ≡ windows_bytes ws ++ window_bytes w
windows_bytes-push ws w = flat_map-append window_bytes ws (w ∷ []) ∙ ap (λ (x : List ℕ). windows_bytes ws ++ x) (append-nil (window_bytes w))

-- ---- nothing is read

-- no change with which a window begins
pub begins_none : (s : Since) → Begins s 0 []
begins_none s = record { above = λ h. absurd (omega (arith, h)); scn = omega arith; count = omega arith; size = omega arith; changes = tt }

pub reached_none : (floor top : ℕ) (filter : Selection) (bytes : List ℕ) → Reached floor top filter bytes (after_floor floor) (record { scn = None; count = 0; size = 0 }) 0 0
reached_none floor top filter bytes = record {
  read = record {
    windows = [];
    scn = 0;
    changes = [];
    part = bytes;
    parts = refl;
    asked = record { come = tt; each = tt; few = omega arith };
    begins = begins_none (after_floor floor);
    below = omega arith;
    accepted = tt;
    room = λ h. omega (arith, h);
  };
  follows = refl;
  events = refl;
  counted = refl;
  there = refl;
}

-- ---- what is read so far

-- what stands in front of the place
abbrev done : (floor top : ℕ) (filter : Selection) (bytes : List ℕ) → Reading floor top filter bytes → List ℕ
done floor top filter bytes read = windows_bytes read.windows ++ changes_bytes read.scn read.changes

module _ (floor top : ℕ) (filter : Selection) (bytes : List ℕ) (s : Since) (o : Open) (count place : ℕ) (r : Reached floor top filter bytes s o count place) where
  part_is : drop place bytes ≡ r.read.part
  part_is = ap (drop place) r.read.parts ∙ drop_at (done floor top filter bytes r.read) r.read.part place (sym r.there)

  pub place_fits : place ≤ length bytes
  place_fits = omega (arith, r.there, ap length r.read.parts, length-append (done floor top filter bytes r.read) r.read.part)

  count_is : o.count ≡ length r.read.changes
  count_is = ap (λ (x : Open). x.count) r.events ∙ open_count r.read.scn r.read.changes

  size_is : o.size ≡ changes_size r.read.changes
  size_is = ap (λ (x : Open). x.size) r.events ∙ open_size r.read.scn r.read.changes

  pub size_fits : o.size ≤ MAX_WINDOW
  size_fits = omega (arith, size_is, r.read.begins.size)

  right_is : (n : ℕ) → has_right_scn s o.scn n ≡ true → has_right_scn (after_windows (after_floor floor) r.read.windows) (open_of r.read.scn r.read.changes).scn n ≡ true
  right_is n right = (λ i. has_right_scn (sym r.follows i) (sym r.events i).scn n) ∙ right

  place_is : place ≡ length (windows_bytes r.read.windows) + changes_size r.read.changes
  place_is = omega (arith, r.there, length-append (windows_bytes r.read.windows) (changes_bytes r.read.scn r.read.changes), changes_length r.read.scn r.read.changes)

-- ---- one more event

pub record EventGoes (floor top : ℕ) (filter : Selection) (bytes : List ℕ) (s : Since) (o : Open) (count place n m : ℕ) : Type 0 where
  pub reached : Reached floor top filter bytes s (record { scn = Some n; count = o.count + 1; size = o.size + m }) count (place + m)
  pub positive : 0 < m
  pub long : place + m ≤ length bytes
  pub small : o.size + m ≤ MAX_WINDOW

pub event_goes : (floor top : ℕ) (filter : Selection) (bytes : List ℕ) (s : Since) (o : Open) (count place : ℕ) (n : ℕ) (c : Change) (m : ℕ) → Reached floor top filter bytes s o count place → IsBytes bytes
    → count < most_windows → front_of s o (drop place bytes) ≡ AnEvent n c m → n ≤ top → IsTrue (test_of filter c.source c.key) → EventGoes floor top filter bytes s o count place n m
event_goes floor top filter bytes s o count place n c m r fits room e below accepted =
    let read = r.read in
    let cs = read.changes in
    let ws = read.windows in
    let behind = drop place bytes in
    let taken = event_taken s o behind n c m (IsBytes-drop place bytes fits) e in
    let is = taken.is in
    let scn = right_scn (after_windows (after_floor floor) ws) read.scn cs n read.begins (right_is floor top filter bytes s o count place r n is.right) in
    let count_is = count_is floor top filter bytes s o count place r in
    let size_is = size_is floor top filter bytes s o count place r in
    let more = changes_size-append cs (c ∷ []) in
    let parts : bytes ≡ windows_bytes ws ++ changes_bytes n (cs ++ c ∷ []) ++ drop m behind =
    read.parts
    ∙ (λ i. (windows_bytes ws ++ scn.1 i) ++ (sym (part_is floor top filter bytes s o count place r) ∙ taken.parts) i)
    ∙ regroup (windows_bytes ws) (changes_bytes n cs) (event_bytes (event n c)) (drop m behind)
    ∙ ap (λ (x : List ℕ). (windows_bytes ws ++ x) ++ drop m behind) (sym (changes_bytes-push n cs c)) in
    let there : place + m ≡ length (windows_bytes ws ++ changes_bytes n (cs ++ c ∷ [])) =
    omega (arith, place_is floor top filter bytes s o count place r, taken.size, more, changes_length n (cs ++ c ∷ []), length-append (windows_bytes ws) (changes_bytes n (cs ++ c ∷ []))) in
    record {
      reached = record {
        read = record {
          windows = ws;
          scn = n;
          changes = cs ++ c ∷ [];
          part = drop m behind;
          parts = parts;
          asked = read.asked;
          begins = record {
            above = λ _. scn.0;
            scn = is.within.scn;
            count = omega (arith, count_is, is.count, length-append cs (c ∷ []));
            size = omega (arith, size_is, is.room, more);
            changes = are_changes_push cs c read.begins.changes (record { source = is.within.source; key = is.within.key; payload = is.within.payload });
          };
          below = below;
          accepted = all_push (λ (d : Change). IsTrue (test_of filter d.source d.key)) cs c read.accepted accepted;
          room = λ _. omega (arith, room, r.counted);
        };
        follows = r.follows;
        events = (λ i. record { scn = Some n; count = count_is i + 1; size = size_is i + taken.size i }) ∙ open-push n cs c;
        counted = r.counted;
        there = there;
      };
      positive = omega (arith, taken.size, change_positive c);
      long = omega (arith, there, ap length parts, length-append (windows_bytes ws ++ changes_bytes n (cs ++ c ∷ [])) (drop m behind));
      small = omega (arith, size_is, taken.size, is.room);
    }

-- ---- one more mark

pub mark_goes : (floor top : ℕ) (filter : Selection) (bytes : List ℕ) (s : Since) (o : Open) (count place : ℕ) (n p : ℕ) → Reached floor top filter bytes s o count place → IsBytes bytes
    → count < most_windows → front_of s o (drop place bytes) ≡ AMark n p → n ≤ top → IsTrue (has_enough filter o.count)
    → Reached floor top filter bytes (record { floor = n; started = true }) (record { scn = None; count = 0; size = 0 }) (count + 1) (place + 17)
mark_goes floor top filter bytes s o count place n p r fits room e below enough =
    let read = r.read in
    let cs = read.changes in
    let ws = read.windows in
    let t = after_windows (after_floor floor) ws in
    let behind = drop place bytes in
    let w : Span = record { scn = n; prev = p; changes = cs } in
    let taken = mark_taken s o behind n p (IsBytes-drop place bytes fits) e in
    let is = taken.is in
    let scn = right_scn t read.scn cs n read.begins (right_is floor top filter bytes s o count place r n is.right) in
    let after = sym (after_append (after_floor floor) ws (w ∷ [])) in
    let comes : Comes t w = record {
      within = record { scn = is.bound; prev = is.order; count = read.begins.count; size = read.begins.size; changes = read.begins.changes };
      above = scn.0;
      chained = subst (λ (x : Since). has_right_prev x p ≡ true) r.follows is.chained;
    } in
    let parts : bytes ≡ windows_bytes (ws ++ w ∷ []) ++ [] ++ drop 17 behind =
    read.parts
    ∙ (λ i. (windows_bytes ws ++ scn.1 i) ++ (sym (part_is floor top filter bytes s o count place r) ∙ taken.parts) i)
    ∙ regroup (windows_bytes ws) (changes_bytes n cs) (mark_bytes n p) (drop 17 behind)
    ∙ ap (λ (x : List ℕ). x ++ drop 17 behind) (sym (windows_bytes-push ws w) ∙ sym (append-nil (windows_bytes (ws ++ w ∷ [])))) in
    record {
      read = record {
        windows = ws ++ w ∷ [];
        scn = 0;
        changes = [];
        part = drop 17 behind;
        parts = parts;
        asked = record {
          come = come_append (after_floor floor) ws (w ∷ []) read.asked.come (comes, tt);
          each = all_push (IsAskedFor top filter) ws w read.asked.each
              (record { below = below; accepted = read.accepted; enough = subst (λ k. IsTrue (has_enough filter k)) (count_is floor top filter bytes s o count place r) enough });
          few = omega (arith, room, r.counted, length-append ws (w ∷ []));
        };
        begins = begins_none (after_windows (after_floor floor) (ws ++ w ∷ []));
        below = omega arith;
        accepted = tt;
        room = λ h. absurd (omega (arith, h));
      };
      follows = after;
      events = refl;
      counted = omega (arith, r.counted, length-append ws (w ∷ []));
      there = omega (arith, place_is floor top filter bytes s o count place r, ap length (append-nil (windows_bytes (ws ++ w ∷ []))), ap length (windows_bytes-push ws w), length-append (windows_bytes ws) (window_bytes w), window_length w);
    }

-- ---- the end

-- where windows end
floor_is : (s : Since) (ws : List Span) → (after_windows s ws).floor ≡ end_from s.floor ws
floor_is s [] = refl
floor_is s (w ∷ ws) = floor_is (after_window s w) ws

end_is : (floor : ℕ) (ws : List Span) → 0 < length ws → (after_windows (after_floor floor) ws).floor ≡ end_of ws
end_is floor [] some = absurd (omega (arith, some))
end_is floor (w ∷ ws) some = floor_is (after_window (after_floor floor) w) ws

-- the reply is whole
pub run_is_whole : (floor top : ℕ) (filter : Selection) (bytes : List ℕ) (s : Since) (o : Open) (count place : ℕ) → Reached floor top filter bytes s o count place → 0 < count → o.count ≡ 0 → place ≡ length bytes → HoldsRun floor top filter bytes count s.floor
run_is_whole floor top filter bytes s o count place r some none all =
    let read = r.read in
    let ws = read.windows in
    let no_change : read.changes ≡ [] = nil_from_length read.changes (omega (arith, none, count_is floor top filter bytes s o count place r)) in
    let no_part : read.part ≡ [] = nil_from_length read.part (omega (arith, all, r.there, ap length read.parts, length-append (windows_bytes ws ++ changes_bytes read.scn read.changes) read.part)) in
    let some_windows : 0 < length ws = omega (arith, some, r.counted) in
    record {
      windows = ws;
      spelled =
          read.parts
          ∙ (λ i. (windows_bytes ws ++ changes_bytes read.scn (no_change i)) ++ no_part i)
          ∙ append-nil (windows_bytes ws ++ [])
          ∙ append-nil (windows_bytes ws);
      run = record { asked = read.asked; some = some_windows };
      counted = r.counted;
      ends = ap (λ (x : Since). x.floor) r.follows ∙ end_is floor ws some_windows;
    }

-- what isn't 0
not_all : (n : ℕ) → (n ≡ 0 → ⊥) → 0 < n
not_all n h = elim (cases_lt 0 n) [ inl some ↦ some | inr none ↦ absurd (h (omega arith)) ]

-- it stops before
pub run_stops : (floor top : ℕ) (filter : Selection) (bytes : List ℕ) (s : Since) (o : Open) (count place : ℕ) → Reached floor top filter bytes s o count place
    → (count ≡ most_windows) ⊎ (can_stand top filter o (front_of s o (drop place bytes)) ≡ false) → (0 < count → o.count ≡ 0 → place ≡ length bytes → ⊥) → StopsAt floor top filter bytes place
run_stops floor top filter bytes s o count place r stops unended =
    let read = r.read in
    let t = after_windows (after_floor floor) read.windows in
    let begun = open_of read.scn read.changes in
    let whole = length-append (windows_bytes read.windows ++ changes_bytes read.scn read.changes) read.part in
    record {
      read = read;
      stops = elim stops [
        | inl full ↦ inl (sym r.counted ∙ full)
        | inr none ↦ inr ((λ i. can_stand top filter (sym r.events i) (front_of (sym r.follows i) (sym r.events i) (sym (part_is floor top filter bytes s o count place r) i))) ∙ none)
      ];
      unended = λ some none. not_all (length read.part) (λ all. unended (omega (arith, some, r.counted)) (count_is floor top filter bytes s o count place r ∙ none) (omega (arith, all, whole, r.there, ap length read.parts)));
      there = r.there;
    }
