-- The parts of a window: stretches of the items that a filter keeps, which together are all of them.
use Rattle.std.proofs.Common.{◌≡◌, ℕ, zero, suc, ◌+◌, ◌-◌, ◌<◌, ◌≤◌, inl, inr, Bool, true, false, cond, List, [], ◌∷◌, ◌++◌, append-nil, append_assoc, length, length-append, take, drop, take_all, take-append-drop, le_refl, flat_map, Option, Some, None, option_map, refl, sym, ap, subst, ◌∙◌, arith}
use Rattle.std.specs.List.{AllByRecursion, slice_get}
use Rattle.std.proofs.lemmas.Bool.{cond-true, cond-false, cases_Bool}
use Rattle.std.proofs.lemmas.List.{take_at, drop_at, length-drop}
use Rattle.std.proofs.lemmas.Option.{same_Some, none-some}
use Rattle.bus_types.specs.declared.change.Change.{Change}
use Rattle.bus_types.specs.Change.{Test, accepted, AreChanges, changes_size}
use Rattle.bus_types.specs.Window.{Span, IsSpan}
use Rattle.bus_types.specs.Cut.{cut, cuts}
use Rattle.event_codec.specs.Bytes.{event_bytes, mark_bytes, changes_bytes, window_bytes}
use Rattle.event_codec.specs.Streams.{windows_bytes}
use Rattle.event_codec.specs.Parsing.{AreWindows, first_event, first_events, first_scn, behind_event, behind_mark, others_of}
use Rattle.ring_cells.specs.Entries.{Held, IsEntry}
use Rattle.range_ring.specs.Ranges.{HoldAll}
use Rattle.range_ring.specs.Parts.{bytes_at, from_accepted, from_refused, from_kept, past_events, behind_kept, behind_part, IsPlace, IsPart, PartIs, AreParts}

abbrev window : ℕ → ℕ → List Change → Span
window n p cs = record { scn = n; prev = p; changes = cs }

-- ---- the loops

-- whether a test accepts the event in front
abbrev pub front_of : Test → List Span → Option Bool
front_of test ws = option_map (λ e. test e.change.source e.change.key) (first_event ws)

-- what a window in front with a first event is
first_case : (P : List Span → Type 0) (test : Test) (ws : List Span) (b : Bool) → Some b ≡ front_of test ws → ((n p : ℕ) (c : Change) (cs : List Change) (us : List Span) → b ≡ test c.source c.key → P (window n p (c ∷ cs) ∷ us)) → P ws
first_case P test [] b is f = absurd (none-some b (sym is))
first_case P test (w ∷ ws) b is f = at w.scn w.prev w.changes is where
  at : (n p : ℕ) (cs : List Change) → Some b ≡ front_of test (window n p cs ∷ ws) → P (window n p cs ∷ ws)
  at n p [] is = absurd (none-some b (sym is))
  at n p (c ∷ cs) is = f n p c cs ws (same_Some b (test c.source c.key) is)

none_case : (P : List Span → Type 0) (test : Test) (ws : List Span) → None ≡ front_of test ws → P [] → ((n p : ℕ) (us : List Span) → P (window n p [] ∷ us)) → P ws
none_case P test [] is none f = none
none_case P test (w ∷ ws) is none f = at w.scn w.prev w.changes is where
  at : (n p : ℕ) (cs : List Change) → None ≡ front_of test (window n p cs ∷ ws) → P (window n p cs ∷ ws)
  at n p [] is = f n p ws
  at n p (c ∷ cs) is = absurd (none-some (test c.source c.key) is)

pub event_less : (test : Test) (ws : List Span) (b : Bool) → Some b ≡ front_of test ws → length (first_events (behind_event ws)) < length (first_events ws)
event_less test ws b is = first_case (λ vs. length (first_events (behind_event vs)) < length (first_events vs)) test ws b is (λ n p c cs us same. omega arith)

pub kept_stops : (test : Test) (ws : List Span) (b : Bool) → Some b ≡ front_of test ws → b ≡ true → from_kept test ws ≡ ws
kept_stops test ws b is taken = first_case (λ vs. from_kept test vs ≡ vs) test ws b is (λ n p c cs us same. ap (λ (ds : List Change). window n p ds ∷ us) (cond-true (test c.source c.key) (c ∷ cs) (from_accepted test cs) (sym same ∙ taken)))

pub kept_goes_on : (test : Test) (ws : List Span) (b : Bool) → Some b ≡ front_of test ws → b ≡ false → from_kept test (behind_event ws) ≡ from_kept test ws
kept_goes_on test ws b is left_out = first_case (λ vs. from_kept test (behind_event vs) ≡ from_kept test vs) test ws b is (λ n p c cs us same. ap (λ (ds : List Change). window n p ds ∷ us) (sym (cond-false (test c.source c.key) (c ∷ cs) (from_accepted test cs) (sym same ∙ left_out))))

pub kept_ends : (test : Test) (ws : List Span) → None ≡ front_of test ws → from_kept test ws ≡ ws
kept_ends test ws is = none_case (λ vs. from_kept test vs ≡ vs) test ws is refl (λ n p us. refl)

pub past_stops : (test : Test) (ws : List Span) (b : Bool) → Some b ≡ front_of test ws → b ≡ false → past_events test ws ≡ ws
past_stops test ws b is left_out = first_case (λ vs. past_events test vs ≡ vs) test ws b is (λ n p c cs us same. ap (λ (ds : List Change). window n p ds ∷ us) (cond-false (test c.source c.key) (from_refused test cs) (c ∷ cs) (sym same ∙ left_out)))

pub past_goes_on : (test : Test) (ws : List Span) (b : Bool) → Some b ≡ front_of test ws → b ≡ true → past_events test (behind_event ws) ≡ past_events test ws
past_goes_on test ws b is taken = first_case (λ vs. past_events test (behind_event vs) ≡ past_events test vs) test ws b is (λ n p c cs us same. ap (λ (ds : List Change). window n p ds ∷ us) (sym (cond-true (test c.source c.key) (from_refused test cs) (c ∷ cs) (sym same ∙ taken))))

pub past_ends : (test : Test) (ws : List Span) → None ≡ front_of test ws → past_events test ws ≡ ws
past_ends test ws is = none_case (λ vs. past_events test vs ≡ vs) test ws is refl (λ n p us. refl)

-- ---- fronts and ends of changes

-- the changes in front of those, as a test refuses them and as it accepts them
skipped : Test → List Change → List Change
skipped test [] = []
skipped test (c ∷ cs) = cond (test c.source c.key) [] (c ∷ skipped test cs)

taken : Test → List Change → List Change
taken test [] = []
taken test (c ∷ cs) = cond (test c.source c.key) (c ∷ taken test cs) []

skipped_parts : (test : Test) (cs : List Change) → cs ≡ skipped test cs ++ from_accepted test cs
unfolding skipped
skipped_parts test [] = refl
skipped_parts test (c ∷ cs) =
    let b = test c.source c.key in
    elim (cases_Bool b) [
      | inl t ↦ sym (λ i. cond-true b [] (c ∷ skipped test cs) t i ++ cond-true b (c ∷ cs) (from_accepted test cs) t i)
      | inr f ↦ ap (λ (ds : List Change). c ∷ ds) (skipped_parts test cs) ∙ sym (λ i. cond-false b [] (c ∷ skipped test cs) f i ++ cond-false b (c ∷ cs) (from_accepted test cs) f i)
    ]

taken_parts : (test : Test) (cs : List Change) → cs ≡ taken test cs ++ from_refused test cs
unfolding taken
taken_parts test [] = refl
taken_parts test (c ∷ cs) =
    let b = test c.source c.key in
    elim (cases_Bool b) [
      | inl t ↦ ap (λ (ds : List Change). c ∷ ds) (taken_parts test cs) ∙ sym (λ i. cond-true b (c ∷ taken test cs) [] t i ++ cond-true b (from_refused test cs) (c ∷ cs) t i)
      | inr f ↦ sym (λ i. cond-false b (c ∷ taken test cs) [] f i ++ cond-false b (from_refused test cs) (c ∷ cs) f i)
    ]

-- what is accepted of changes, by these ends
accepted_from : (test : Test) (cs : List Change) → accepted test (from_accepted test cs) ≡ accepted test cs
accepted_from test [] = refl
accepted_from test (c ∷ cs) =
    let b = test c.source c.key in
    elim (cases_Bool b) [
      | inl t ↦ ap (accepted test) (cond-true b (c ∷ cs) (from_accepted test cs) t)
      | inr f ↦ ap (accepted test) (cond-false b (c ∷ cs) (from_accepted test cs) f) ∙ accepted_from test cs ∙ sym (cond-false b (c ∷ accepted test cs) (accepted test cs) f)
    ]

accepted_parts : (test : Test) (cs : List Change) → accepted test cs ≡ taken test cs ++ accepted test (from_refused test cs)
unfolding taken
accepted_parts test [] = refl
accepted_parts test (c ∷ cs) =
    let b = test c.source c.key in
    elim (cases_Bool b) [
      | inl t ↦ cond-true b (c ∷ accepted test cs) (accepted test cs) t ∙ ap (λ (ds : List Change). c ∷ ds) (accepted_parts test cs) ∙ sym (λ i. cond-true b (c ∷ taken test cs) [] t i ++ accepted test (cond-true b (from_refused test cs) (c ∷ cs) t i))
      | inr f ↦ sym (λ i. cond-false b (c ∷ taken test cs) [] f i ++ accepted test (cond-false b (from_refused test cs) (c ∷ cs) f i))
    ]

changes_bytes-append : (n : ℕ) (cs ds : List Change) → changes_bytes n (cs ++ ds) ≡ changes_bytes n cs ++ changes_bytes n ds
changes_bytes-append n [] ds = refl
changes_bytes-append n (c ∷ cs) ds =
    let one = event_bytes (record { scn = n; change = c }) in
    ap (λ (xs : List ℕ). one ++ xs) (changes_bytes-append n cs ds) ∙ sym (append_assoc one (changes_bytes n cs) (changes_bytes n ds))

-- the end of a window's changes makes a window
changes_end : (xs ys : List Change) → AreChanges (xs ++ ys) → AreChanges ys
changes_end [] ys h = h
changes_end (x ∷ xs) ys h = changes_end xs ys h.1

size_end : (xs ys : List Change) → changes_size ys ≤ changes_size (xs ++ ys)
size_end [] ys = omega arith
size_end (x ∷ xs) ys = let rest = size_end xs ys in omega arith

span_end : (w : Span) (front behind : List Change) → w.changes ≡ front ++ behind → IsSpan w → IsSpan (window w.scn w.prev behind)
span_end w front behind is h =
    let size = h.size in
    let count = h.count in
    record {
      scn = h.scn;
      prev = h.prev;
      count = omega (arith, ap length is, length-append front behind);
      size = omega (arith, ap changes_size is, size_end front behind);
      changes = changes_end front behind (subst AreChanges is h.changes);
    }

kept_within : (test : Test) (ws : List Span) → AllByRecursion IsSpan ws → AllByRecursion IsSpan (from_kept test ws)
kept_within test [] h = h
kept_within test (w ∷ ws) h = (span_end w (skipped test w.changes) (from_accepted test w.changes) (skipped_parts test w.changes) h.0, h.1)

marked_within : (n p : ℕ) (cs : List Change) (ws : List Span) → IsSpan (window n p cs) → AllByRecursion IsSpan ws → AllByRecursion IsSpan (others_of cs (window n p cs) ws)
marked_within n p [] ws h rest = rest
marked_within n p (c ∷ cs) ws h rest = (h, rest)

behind_within : (test : Test) (ws : List Span) → AllByRecursion IsSpan ws → AllByRecursion IsSpan (behind_kept test ws)
behind_within test [] h = h
behind_within test (w ∷ ws) h = marked_within w.scn w.prev (from_refused test w.changes) ws (span_end w (taken test w.changes) (from_refused test w.changes) (taken_parts test w.changes) h.0) h.1

-- ---- bytes

-- the mark, where no event is left before it
closing : List Change → ℕ → ℕ → List ℕ
closing [] n p = mark_bytes n p
closing (c ∷ cs) n p = []

-- the next stretch, where the first item is kept
stretch : Test → List Span → List ℕ
stretch test [] = []
stretch test (w ∷ ws) = changes_bytes w.scn (taken test w.changes) ++ closing (from_refused test w.changes) w.scn w.prev

-- what stands before the first item that is kept
before : Test → List Span → List ℕ
before test [] = []
before test (w ∷ ws) = changes_bytes w.scn (skipped test w.changes)

before_is : (test : Test) (ws : List Span) → windows_bytes ws ≡ before test ws ++ windows_bytes (from_kept test ws)
unfolding before
before_is test [] = refl
before_is test (w ∷ ws) =
    let n = w.scn in
    let mark = mark_bytes n w.prev in
    let xs = changes_bytes n (skipped test w.changes) in
    let ys = changes_bytes n (from_accepted test w.changes) in
    let parts : changes_bytes n w.changes ≡ xs ++ ys = ap (changes_bytes n) (skipped_parts test w.changes) ∙ changes_bytes-append n (skipped test w.changes) (from_accepted test w.changes) in
    ap (λ (zs : List ℕ). (zs ++ mark) ++ windows_bytes ws) parts
    ∙ ap (λ (zs : List ℕ). zs ++ windows_bytes ws) (append_assoc xs ys mark)
    ∙ append_assoc xs (ys ++ mark) (windows_bytes ws)

-- regrouping
regroup : (xs ys mark rest : List ℕ) → ((xs ++ ys) ++ mark) ++ rest ≡ (xs ++ []) ++ ((ys ++ mark) ++ rest)
regroup xs ys mark rest =
    ap (λ (zs : List ℕ). zs ++ rest) (append_assoc xs ys mark)
    ∙ append_assoc xs (ys ++ mark) rest
    ∙ ap (λ (zs : List ℕ). zs ++ ((ys ++ mark) ++ rest)) (sym (append-nil xs))

closed : (xs mark rest : List ℕ) → ((xs ++ []) ++ mark) ++ rest ≡ (xs ++ mark) ++ rest
closed xs mark rest = ap (λ (zs : List ℕ). (zs ++ mark) ++ rest) (append-nil xs)

stretch_at : (n p : ℕ) (xs : List ℕ) (cs : List Change) (ws : List Span) → ((xs ++ changes_bytes n cs) ++ mark_bytes n p) ++ windows_bytes ws ≡ (xs ++ closing cs n p) ++ windows_bytes (others_of cs (window n p cs) ws)
unfolding closing
stretch_at n p xs [] ws = closed xs (mark_bytes n p) (windows_bytes ws)
stretch_at n p xs (c ∷ cs) ws = regroup xs (changes_bytes n (c ∷ cs)) (mark_bytes n p) (windows_bytes ws)

stretch_is : (test : Test) (ws : List Span) → windows_bytes ws ≡ stretch test ws ++ windows_bytes (behind_kept test ws)
unfolding stretch
stretch_is test [] = refl
stretch_is test (w ∷ ws) =
    let n = w.scn in
    let left = from_refused test w.changes in
    let parts : changes_bytes n w.changes ≡ changes_bytes n (taken test w.changes) ++ changes_bytes n left = ap (changes_bytes n) (taken_parts test w.changes) ∙ changes_bytes-append n (taken test w.changes) left in
    ap (λ (zs : List ℕ). (zs ++ mark_bytes n w.prev) ++ windows_bytes ws) parts ∙ stretch_at n w.prev (changes_bytes n (taken test w.changes)) left ws

cut_at : (test : Test) (n p : ℕ) (xs : List ℕ) (cs : List Change) (ws : List Span) → ((xs ++ changes_bytes n (accepted test cs)) ++ mark_bytes n p) ++ windows_bytes (cuts test ws) ≡ (xs ++ closing cs n p) ++ windows_bytes (cuts test (others_of cs (window n p cs) ws))
unfolding closing
cut_at test n p xs [] ws = closed xs (mark_bytes n p) (windows_bytes (cuts test ws))
cut_at test n p xs (c ∷ cs) ws = regroup xs (changes_bytes n (accepted test (c ∷ cs))) (mark_bytes n p) (windows_bytes (cuts test ws))

cut_stretch : (test : Test) (ws : List Span) → windows_bytes (cuts test ws) ≡ stretch test ws ++ windows_bytes (cuts test (behind_kept test ws))
unfolding stretch
cut_stretch test [] = refl
cut_stretch test (w ∷ ws) =
    let n = w.scn in
    let left = from_refused test w.changes in
    let parts : changes_bytes n (accepted test w.changes) ≡ changes_bytes n (taken test w.changes) ++ changes_bytes n (accepted test left) =
    ap (changes_bytes n) (accepted_parts test w.changes) ∙ changes_bytes-append n (taken test w.changes) (accepted test left) in
    ap (λ (zs : List ℕ). (zs ++ mark_bytes n w.prev) ++ windows_bytes (cuts test ws)) parts ∙ cut_at test n w.prev (changes_bytes n (taken test w.changes)) left ws

cut_from : (test : Test) (ws : List Span) → cuts test (from_kept test ws) ≡ cuts test ws
cut_from test [] = refl
cut_from test (w ∷ ws) = ap (λ (cs : List Change). window w.scn w.prev cs ∷ cuts test ws) (accepted_from test w.changes)

-- ---- a part

none_kept : (test : Test) (items kept : List Span) → kept ≡ from_kept test items → None ≡ first_scn kept → items ≡ []
none_kept test [] kept is none = refl
none_kept test (w ∷ ws) kept is none = absurd (none-some w.scn (none ∙ ap first_scn is))

pub some_kept : (test : Test) (items kept : List Span) (scn : ℕ) → kept ≡ from_kept test items → Some scn ≡ first_scn kept → 0 < length items
some_kept test [] kept scn is some = absurd (none-some scn (sym (some ∙ ap first_scn is)))
some_kept test (w ∷ ws) kept scn is some = omega arith

pub is_part : (test : Test) (whole : List ℕ) (place : ℕ) (items : List Span) (kept left : List Span) (shown behind bytes : List ℕ) (next : ℕ) → place ≤ length whole → AreWindows items (drop place whole) → 0 < length items
    → kept ≡ from_kept test items → left ≡ behind_mark (past_events test kept) → shown ≡ windows_bytes kept → behind ≡ windows_bytes left
    → bytes ≡ take (length shown - length behind) shown → next ≡ length whole - length behind → IsPart test whole items bytes next
is_part test whole place items kept left shown behind bytes next within are some kept_is left_is shown_is behind_is bytes_are next_is =
    let first = from_kept test items in
    let rest = windows_bytes (behind_part test items) in
    let part = stretch test first in
    let front = take place whole ++ (before test items ++ part) in
    let shown_full : shown ≡ part ++ rest = shown_is ∙ ap windows_bytes kept_is ∙ stretch_is test first in
    let behind_full : behind ≡ rest = behind_is ∙ ap windows_bytes (left_is ∙ ap (behind_kept test) kept_is) in
    let bytes_full : bytes ≡ part = bytes_are ∙ ap (take (length shown - length behind)) shown_full ∙ take_at part rest (length shown - length behind) (omega (arith, ap length shown_full, ap length behind_full, length-append part rest)) in
    let items_full : drop place whole ≡ (before test items ++ part) ++ rest = are.spelled ∙ before_is test items ∙ ap (λ (zs : List ℕ). before test items ++ zs) (stretch_is test first) ∙ sym (append_assoc (before test items) part rest) in
    let whole_full : whole ≡ front ++ rest = sym (take-append-drop place whole) ∙ ap (λ (zs : List ℕ). take place whole ++ zs) items_full ∙ sym (append_assoc (take place whole) (before test items ++ part) rest) in
    record {
      some = some;
      stretch = stretch_is test first ∙ ap (λ (zs : List ℕ). zs ++ rest) (sym bytes_full);
      within = omega arith;
      left = record {
        within = behind_within test first (kept_within test items are.within);
        spelled = ap (drop next) whole_full ∙ drop_at front rest next (omega (arith, ap length whole_full, ap length behind_full, length-append front rest));
      };
      cut = ap windows_bytes (sym (cut_from test items)) ∙ cut_stretch test first ∙ ap (λ (zs : List ℕ). zs ++ windows_bytes (cuts test (behind_part test items))) (sym bytes_full);
    }

-- a slice from a place on is what stands there
pub slice_end : (xs : List ℕ) (place : ℕ) → take (length xs - place) (drop place xs) ≡ drop place xs
slice_end xs place = ap (λ (n : ℕ). take n (drop place xs)) (sym (length-drop place xs)) ∙ take_all (length (drop place xs)) (drop place xs) (le_refl (length (drop place xs)))

-- what is left behind the next part is no longer than what was left, and than all
pub less_left : (test : Test) (kept left : List Span) (shown behind : List ℕ) → left ≡ behind_mark (past_events test kept) → shown ≡ windows_bytes kept → behind ≡ windows_bytes left → length behind ≤ length shown
less_left test kept left shown behind left_is shown_is behind_is =
    let part = stretch test kept in
    let rest = windows_bytes (behind_kept test kept) in
    omega (arith, ap length (shown_is ∙ stretch_is test kept), ap length (behind_is ∙ ap windows_bytes left_is), length-append part rest)

pub less_whole : (test : Test) (whole : List ℕ) (place : ℕ) (items kept : List Span) (shown behind : List ℕ) → place ≤ length whole → AreWindows items (drop place whole) → kept ≡ from_kept test items → shown ≡ windows_bytes kept → length behind ≤ length shown
    → length behind ≤ length whole
less_whole test whole place items kept shown behind within are kept_is shown_is less =
    let rest = windows_bytes (from_kept test items) in
    omega (arith, less, ap length (shown_is ∙ ap windows_bytes kept_is), ap length (are.spelled ∙ before_is test items), length-append (before test items) rest, length-drop place whole)

-- ---- a window of a range

pub bytes_of : (es : List Held) (place : ℕ) (e : Held) → slice_get es place ≡ Some e → bytes_at es place ≡ e.bytes
bytes_of [] place e there = absurd (none-some e there)
bytes_of (d ∷ es) zero e there = ap (λ (x : Held). x.bytes) (same_Some d e there)
bytes_of (d ∷ es) (suc place) e there = bytes_of es place e there

-- its entries hold as many windows, each at its place
pub as_many : (told : Option (List Span)) (position : ℕ) (es : List Held) (ws : List Span) → HoldAll told position es ws → length es ≡ length ws
as_many told position [] [] h = refl
as_many told position [] (v ∷ ws) h = absurd h
as_many told position (d ∷ es) [] h = absurd h
as_many told position (d ∷ es) (v ∷ ws) h = ap suc (as_many told (position + 1) es ws h.1)

pub held_bytes : (told : Option (List Span)) (position place : ℕ) (es : List Held) (ws : List Span) (w : Span) → HoldAll told position es ws → slice_get ws place ≡ Some w → bytes_at es place ≡ window_bytes w
held_bytes told position place [] [] w h there = absurd (none-some w there)
held_bytes told position place [] (v ∷ ws) w h there = absurd h
held_bytes told position place (d ∷ es) [] w h there = absurd h
held_bytes told position zero (d ∷ es) (v ∷ ws) w h there = h.0.spelled ∙ ap window_bytes (same_Some v w there)
held_bytes told position (suc place) (d ∷ es) (v ∷ ws) w h there = held_bytes told (position + 1) place es ws w h.1 there

held_span : (told : Option (List Span)) (position place : ℕ) (es : List Held) (ws : List Span) (w : Span) → HoldAll told position es ws → slice_get ws place ≡ Some w → IsSpan w
held_span told position place [] [] w h there = absurd (none-some w there)
held_span told position place [] (v ∷ ws) w h there = absurd h
held_span told position place (d ∷ es) [] w h there = absurd h
held_span told position zero (d ∷ es) (v ∷ ws) w h there = subst IsSpan (same_Some v w there) h.0.within
held_span told position (suc place) (d ∷ es) (v ∷ ws) w h there = held_span told (position + 1) place es ws w h.1 there

pub held_whole : (told : Option (List Span)) (position place : ℕ) (es : List Held) (ws : List Span) (w : Span) → HoldAll told position es ws → slice_get ws place ≡ Some w → AreWindows (w ∷ []) (bytes_at es place)
held_whole told position place es ws w h there = record { within = (held_span told position place es ws w h there, tt); spelled = held_bytes told position place es ws w h there ∙ sym (append-nil (window_bytes w)) }

-- the items of an entry begin at its bytes' beginning
pub entry_begins : (told : Option (List Span)) (e : Held) (bytes : List ℕ) (h : IsEntry told e) → bytes ≡ e.bytes → IsPlace bytes 0
entry_begins told e bytes h is = record { within = omega arith; items = (h.window ∷ [], record { within = (h.within, tt); spelled = is ∙ h.spelled ∙ sym (append-nil (window_bytes h.window)) }) }

-- the place behind a part is one
pub place_behind : (test : Test) (whole : List ℕ) (items : List Span) (bytes : List ℕ) (next : ℕ) → IsPart test whole items bytes next → IsPlace whole next
place_behind test whole items bytes next part = record { within = part.within; items = (behind_part test items, part.left) }

joined : (test : Test) (whole : List ℕ) (items : List Span) (ps : List PartIs) → AreParts test whole items ps → flat_map (λ p. p.bytes) ps ≡ windows_bytes (cuts test items)
joined test whole items [] h = ap (λ (ws : List Span). windows_bytes (cuts test ws)) (sym h)
joined test whole items (p ∷ ps) h = ap (λ (xs : List ℕ). p.bytes ++ xs) (joined test whole (behind_part test items) ps h.1) ∙ sym h.0.cut

pub parts_joined : (test : Test) (whole : List ℕ) (w : Span) (ps : List PartIs) → AreParts test whole (w ∷ []) ps → flat_map (λ p. p.bytes) ps ≡ window_bytes (cut test w)
parts_joined test whole w ps h = joined test whole (w ∷ []) ps h ∙ append-nil (window_bytes (cut test w))
