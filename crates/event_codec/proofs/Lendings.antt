-- Views that lend bytes: what stands in front is the first of what the bytes are, and the others stand behind it.
use Rattle.std.proofs.Common.{◌≡◌, ℕ, zero, suc, ◌+◌, ◌-◌, ◌<◌, ◌≤◌, Bool, true, false, cond, eqb, ltb, inl, inr, List, [], ◌∷◌, ◌++◌, length, get_or, take, drop, Option, Some, None, refl, sym, ap, subst, ◌∙◌, append_assoc, arith}
use Rattle.std.specs.Prelude.{flat_map, option_map}
use Rattle.std.specs.List.{AllByRecursion}
use Rattle.std.proofs.lemmas.Bool.{ne_eqb}
use Rattle.std.proofs.lemmas.List.{length-append, drop_at, take_at, append-nil, take-append-drop, drop-drop}
use Rattle.std.proofs.Math.Seq.{drop-nil}
use Rattle.std.proofs.lemmas.List.Concat.{flat_map-append}
use Rattle.std.proofs.lemmas.Option.{same_Some, none-some}
use Rattle.bus_types.specs.declared.change.Change.{Change}
use Rattle.bus_types.specs.Window.{Span, IsSpan}
use Rattle.event_codec.specs.declared.event.EventView.{EventView}
use Rattle.event_codec.specs.Bytes.{Event, IsEvent, event_bytes, mark_bytes, changes_bytes, window_bytes}
use Rattle.event_codec.specs.View.{event_of, IsView}
use Rattle.event_codec.specs.Parts.{parts}
use Rattle.event_codec.specs.Reading.{event_front, mark_front}
use Rattle.event_codec.specs.Streams.{windows_bytes}
use Rattle.event_codec.specs.Parsing.{read_all, event_with, event_in_front, events_in, events_bytes, AreEvents, HaveEvents, windows_in, AreWindows, HaveWindows, first_scn, window_events, first_of, first_event, behind_event, mark_before, first_mark, behind_mark, window_read, window_of, IsWindow}
use Rattle.event_codec.proofs.Numbers.{IsBytes}
use Rattle.event_codec.proofs.EventBytes.{event_first}
use Rattle.event_codec.proofs.Marks.{mark_again}
use Rattle.event_codec.proofs.Begun.{event}
use Rattle.event_codec.proofs.Views.{view_found}
use Rattle.event_codec.proofs.ItemsBack.{left_short, read_stop, read_step}
use Rattle.event_codec.proofs.Parsings.{event_back, events_shorten, no_event_in_nothing, no_event_at_mark, events_are, events_spelled, events_within, window_events_back, window_back, windows_are}

-- ---- the event in front

pub record SplitFront (bytes : List ℕ) (v : EventView) (own behind : List ℕ) : Type 0 where
  pub front : event_in_front bytes ≡ Some (event_of v, behind)
  pub view : IsView v
  pub own_bytes : own ≡ event_bytes (event_of v)

pub split_front : (bytes : List ℕ) (v : EventView) (own behind : List ℕ) → IsBytes bytes → option_map parts (Some v) ≡ event_front bytes → own ≡ take (23 + length v.payload.now) bytes → behind ≡ drop (23 + length v.payload.now) bytes
    → SplitFront bytes v own behind
unfolding event_in_front
split_front bytes v own behind fits read own_is behind_is =
    let found = view_found bytes 0 bytes v fits refl read in
    let len : 23 + length v.payload.now ≡ length (event_bytes (event_of v)) = omega (arith, found.1.after) in
    record {
      front = ap (option_map (λ x. (event_with x, drop (23 + length x.1) bytes))) (sym read) ∙ ap (λ (x : List ℕ). Some (event_of v, x)) (sym behind_is);
      view = found.0;
      own_bytes = own_is ∙ ap (λ n. take n bytes) len ∙ found.1.there;
    }

pub split_none : (bytes : List ℕ) → option_map parts None ≡ event_front bytes → event_in_front bytes ≡ None
unfolding event_in_front
split_none bytes read = ap (option_map (λ x. (event_with x, drop (23 + length x.1) bytes))) (sym read)

-- ---- a run of events

-- the first event, and those behind it
pub record FirstEvent (bytes rest : List ℕ) (e : Event) : Type 0 where
  pub first : events_in bytes ≡ e ∷ events_in rest
  pub others : HaveEvents rest

first_taken : (es : List Event) (bytes rest : List ℕ) (e : Event) → AreEvents es bytes → event_in_front bytes ≡ Some (e, rest) → FirstEvent bytes rest e
first_taken [] bytes rest e are front = absurd (none-some (e, rest) (sym no_event_in_nothing ∙ ap event_in_front (sym are.spelled) ∙ front))
first_taken (x ∷ xs) bytes rest e are front =
    let same = same_Some (x, events_bytes xs) (e, rest) (sym (event_back x (events_bytes xs) are.within.0) ∙ ap event_in_front (sym are.spelled) ∙ front) in
    let behind : AreEvents xs rest = record { within = are.within.1; spelled = sym (ap (λ (y : Event × List ℕ). y.1) same) } in
    record {
      first = events_are (x ∷ xs) bytes are ∙ (λ i. (same i).0 ∷ sym (events_are xs rest behind) i);
      others = (xs, behind);
    }

pub run_next : (bytes rest : List ℕ) (e : Event) → HaveEvents bytes → event_in_front bytes ≡ Some (e, rest) → FirstEvent bytes rest e
run_next bytes rest e have front = first_taken have.0 bytes rest e have.1 front

none_of_run : (es : List Event) (bytes : List ℕ) → AreEvents es bytes → event_in_front bytes ≡ None → es ≡ []
none_of_run [] bytes are front = refl
none_of_run (x ∷ xs) bytes are front = absurd (none-some (x, events_bytes xs) (sym front ∙ ap event_in_front are.spelled ∙ event_back x (events_bytes xs) are.within.0))

pub run_end : (bytes : List ℕ) → HaveEvents bytes → event_in_front bytes ≡ None → events_in bytes ≡ []
run_end bytes have front = events_are have.0 bytes have.1 ∙ none_of_run have.0 bytes have.1 front

pub run_bytes : (bytes : List ℕ) → HaveEvents bytes → bytes ≡ events_bytes (events_in bytes)
run_bytes bytes have = have.1.spelled ∙ ap events_bytes (sym (events_are have.0 bytes have.1))

-- ---- windows, item by item

-- a window behind its first event
shorter : (n p : ℕ) (c : Change) (cs : List Change) → IsSpan (record { scn = n; prev = p; changes = c ∷ cs }) → IsSpan (record { scn = n; prev = p; changes = cs })
shorter n p c cs is = record { scn = is.scn; prev = is.prev; count = omega (arith, is.count); size = omega (arith, is.size); changes = is.changes.1 }

-- windows as their first item and what follows it
with_event : (n p : ℕ) (c : Change) (cs : List Change) (ws : List Span) → windows_bytes (record { scn = n; prev = p; changes = c ∷ cs } ∷ ws) ≡ event_bytes (event n c) ++ windows_bytes (record { scn = n; prev = p; changes = cs } ∷ ws)
with_event n p c cs ws =
    let e = event_bytes (event n c) in
    let others = changes_bytes n cs in
    let mark = mark_bytes n p in
    ap (λ (x : List ℕ). x ++ windows_bytes ws) (append_assoc e others mark) ∙ append_assoc e (others ++ mark) (windows_bytes ws)

record FirstItem (ws : List Span) (rest : List ℕ) (e : Event) : Type 0 where
  pub scn : first_scn ws ≡ Some e.scn
  pub first : first_event ws ≡ Some e
  pub behind : AreWindows (behind_event ws) rest

abbrev window : ℕ → ℕ → List Change → Span
window n p cs = record { scn = n; prev = p; changes = cs }

-- the first event of changes is one
is_first : (n p : ℕ) (c : Change) (cs : List Change) → IsSpan (window n p (c ∷ cs)) → IsEvent (event n c)
is_first n p c cs is = (events_within n (c ∷ cs) (omega (arith, is.prev)) is.scn is.changes).0

event_taken_at : (n p : ℕ) (cs : List Change) (ws : List Span) (bytes rest : List ℕ) (e : Event) → AreWindows (window n p cs ∷ ws) bytes → event_in_front bytes ≡ Some (e, rest) → FirstItem (window n p cs ∷ ws) rest e
event_taken_at n p [] ws bytes rest e are front = absurd (none-some (e, rest) (sym (no_event_at_mark n p (windows_bytes ws)) ∙ ap event_in_front (sym are.spelled) ∙ front))
event_taken_at n p (c ∷ cs) ws bytes rest e are front =
    let within = are.within.0 in
    let left = windows_bytes (window n p cs ∷ ws) in
    let same = same_Some (event n c, left) (e, rest) (sym (event_back (event n c) left (is_first n p c cs within)) ∙ ap event_in_front (sym (with_event n p c cs ws) ∙ sym are.spelled) ∙ front) in
    record {
      scn = (λ i. Some (same i).0.scn);
      first = (λ i. Some (same i).0);
      behind = record { within = (shorter n p c cs within, are.within.1); spelled = sym (ap (λ (y : Event × List ℕ). y.1) same) };
    }

event_taken : (ws : List Span) (bytes rest : List ℕ) (e : Event) → AreWindows ws bytes → event_in_front bytes ≡ Some (e, rest) → FirstItem ws rest e
event_taken [] bytes rest e are front = absurd (none-some (e, rest) (sym no_event_in_nothing ∙ ap event_in_front (sym are.spelled) ∙ front))
event_taken (w ∷ ws) bytes rest e are front = event_taken_at w.scn w.prev w.changes ws bytes rest e are front

-- the first event of windows, and what is behind it
pub record EventFront (bytes rest : List ℕ) (e : Event) : Type 0 where
  pub scn : first_scn (windows_in bytes) ≡ Some e.scn
  pub first : first_event (windows_in bytes) ≡ Some e
  pub behind : windows_in rest ≡ behind_event (windows_in bytes)
  pub others : HaveWindows rest

pub windows_event : (bytes rest : List ℕ) (e : Event) → HaveWindows bytes → event_in_front bytes ≡ Some (e, rest) → EventFront bytes rest e
windows_event bytes rest e have front =
    let same = windows_are have.0 bytes have.1 in
    let taken = event_taken have.0 bytes rest e have.1 front in
    record {
      scn = ap first_scn same ∙ taken.scn;
      first = ap first_event same ∙ taken.first;
      behind = windows_are (behind_event have.0) rest taken.behind ∙ ap behind_event (sym same);
      others = (behind_event have.0, taken.behind);
    }

-- no event stands in front where the first window has none
no_event_at : (n p : ℕ) (cs : List Change) (ws : List Span) (bytes : List ℕ) → AreWindows (window n p cs ∷ ws) bytes → event_in_front bytes ≡ None → cs ≡ []
no_event_at n p [] ws bytes are front = refl
no_event_at n p (c ∷ cs) ws bytes are front =
    let left = windows_bytes (window n p cs ∷ ws) in
    absurd (none-some (event n c, left) (sym front ∙ ap event_in_front (are.spelled ∙ with_event n p c cs ws) ∙ event_back (event n c) left (is_first n p c cs are.within.0)))

no_event : (ws : List Span) (bytes : List ℕ) → AreWindows ws bytes → event_in_front bytes ≡ None → (first_event ws ≡ None) × (ws ≡ behind_event ws)
no_event [] bytes are front = (refl, refl)
no_event (w ∷ ws) bytes are front =
    let none = no_event_at w.scn w.prev w.changes ws bytes are front in
    (ap (λ (cs : List Change). first_of (window_events (window w.scn w.prev cs))) none, (λ i. window w.scn w.prev ((none ∙ ap (drop 1) (sym none)) i) ∷ ws))

pub windows_no_event : (bytes : List ℕ) → HaveWindows bytes → event_in_front bytes ≡ None → (first_event (windows_in bytes) ≡ None) × (windows_in bytes ≡ behind_event (windows_in bytes))
windows_no_event bytes have front =
    let same = windows_are have.0 bytes have.1 in
    let none = no_event have.0 bytes have.1 front in
    (ap first_event same ∙ none.0, same ∙ none.1 ∙ ap behind_event (sym same))

-- ---- the mark in front

no_mark : (short kind : Bool) (o : Option (ℕ × ℕ)) → kind ≡ false → ◌≡◌ {A = Option (ℕ × ℕ)} (cond short None (cond kind o None)) None
no_mark true kind o e = refl
no_mark false true o e = absurd cc
no_mark false false o e = refl

no_mark_at_event : (e : Event) (rest : List ℕ) → mark_front (event_bytes e ++ rest) ≡ None
unfolding mark_front
no_mark_at_event e rest =
    let bytes = event_bytes e ++ rest in
    let other : eqb (get_or bytes 0 0) 3 ≡ false =
    elim (event_first e rest) [
      | inl one ↦ ne_eqb (get_or bytes 0 0) 3 (λ same. omega (arith, one, same))
      | inr two ↦ ne_eqb (get_or bytes 0 0) 3 (λ same. omega (arith, two, same))
    ] in
    no_mark (ltb (length bytes) 17) (eqb (get_or bytes 0 0) 3) _ other

no_mark_in_nothing : mark_front [] ≡ None
unfolding mark_front
no_mark_in_nothing = refl

record MarkFirst (ws : List Span) (rest : List ℕ) (m : ℕ × ℕ) : Type 0 where
  pub scn : first_scn ws ≡ Some m.0
  pub first : first_mark ws ≡ Some m
  pub behind : AreWindows (behind_mark ws) rest

-- the mark of a window without events is read, whatever follows it
mark_back : (n p : ℕ) (ws : List Span) → IsSpan (window n p []) → mark_front (windows_bytes (window n p [] ∷ ws)) ≡ Some (n, p)
mark_back n p ws is = mark_again n p (windows_bytes ws) (record { bound = is.scn; order = is.prev })

mark_taken_at : (n p : ℕ) (cs : List Change) (ws : List Span) (bytes : List ℕ) (m : ℕ × ℕ) → AreWindows (window n p cs ∷ ws) bytes → mark_front bytes ≡ Some m → MarkFirst (window n p cs ∷ ws) (drop 17 bytes) m
mark_taken_at n p [] ws bytes m are front =
    let same = same_Some (n, p) m (sym (mark_back n p ws are.within.0) ∙ ap mark_front (sym are.spelled) ∙ front) in
    record {
      scn = (λ i. Some (same i).0);
      first = (λ i. Some (same i));
      behind = record { within = are.within.1; spelled = ap (drop 17) are.spelled ∙ drop_at (mark_bytes n p) (windows_bytes ws) 17 refl };
    }
mark_taken_at n p (c ∷ cs) ws bytes m are front =
    absurd (none-some m (sym (no_mark_at_event (event n c) (windows_bytes (window n p cs ∷ ws))) ∙ ap mark_front (sym (with_event n p c cs ws) ∙ sym are.spelled) ∙ front))

mark_taken : (ws : List Span) (bytes : List ℕ) (m : ℕ × ℕ) → AreWindows ws bytes → mark_front bytes ≡ Some m → MarkFirst ws (drop 17 bytes) m
mark_taken [] bytes m are front = absurd (none-some m (sym no_mark_in_nothing ∙ ap mark_front (sym are.spelled) ∙ front))
mark_taken (w ∷ ws) bytes m are front = mark_taken_at w.scn w.prev w.changes ws bytes m are front

-- the mark of the first of windows, where it stands in front, and what is behind it
pub record MarkFront (bytes rest : List ℕ) (m : ℕ × ℕ) : Type 0 where
  pub scn : first_scn (windows_in bytes) ≡ Some m.0
  pub first : first_mark (windows_in bytes) ≡ Some m
  pub behind : windows_in rest ≡ behind_mark (windows_in bytes)
  pub others : HaveWindows rest

pub windows_mark : (bytes rest : List ℕ) (m : ℕ × ℕ) → HaveWindows bytes → mark_front bytes ≡ Some m → rest ≡ drop 17 bytes → MarkFront bytes rest m
windows_mark bytes rest m have front rest_is =
    let same = windows_are have.0 bytes have.1 in
    let taken = mark_taken have.0 bytes m have.1 front in
    let behind = subst (λ (x : List ℕ). AreWindows (behind_mark have.0) x) (sym rest_is) taken.behind in
    record {
      scn = ap first_scn same ∙ taken.scn;
      first = ap first_mark same ∙ taken.first;
      behind = windows_are (behind_mark have.0) rest behind ∙ ap behind_mark (sym same);
      others = (behind_mark have.0, behind);
    }

no_mark_at : (n p : ℕ) (cs : List Change) (ws : List Span) (bytes : List ℕ) → AreWindows (window n p cs ∷ ws) bytes → mark_front bytes ≡ None → (first_mark (window n p cs ∷ ws) ≡ None) × (window n p cs ∷ ws ≡ behind_mark (window n p cs ∷ ws))
no_mark_at n p [] ws bytes are front = absurd (none-some (n, p) (sym front ∙ ap mark_front are.spelled ∙ mark_back n p ws are.within.0))
no_mark_at n p (c ∷ cs) ws bytes are front = (refl, refl)

no_mark_taken : (ws : List Span) (bytes : List ℕ) → AreWindows ws bytes → mark_front bytes ≡ None → (first_mark ws ≡ None) × (ws ≡ behind_mark ws)
no_mark_taken [] bytes are front = (refl, refl)
no_mark_taken (w ∷ ws) bytes are front = no_mark_at w.scn w.prev w.changes ws bytes are front

pub windows_no_mark : (bytes : List ℕ) → HaveWindows bytes → mark_front bytes ≡ None → (first_mark (windows_in bytes) ≡ None) × (windows_in bytes ≡ behind_mark (windows_in bytes))
windows_no_mark bytes have front =
    let same = windows_are have.0 bytes have.1 in
    let none = no_mark_taken have.0 bytes have.1 front in
    (ap first_mark same ∙ none.0, same ∙ none.1 ∙ ap behind_mark (sym same))

-- neither stands in front of no windows only
nothing_first : (ws : List Span) (bytes : List ℕ) → AreWindows ws bytes → event_in_front bytes ≡ None → mark_front bytes ≡ None → ws ≡ []
nothing_first [] bytes are front marked = refl
nothing_first (w ∷ ws) bytes are front marked =
    let none = no_event_at w.scn w.prev w.changes ws bytes are front in
    let here = (no_mark_at w.scn w.prev w.changes ws bytes are marked).0 in
    absurd (none-some (w.scn, w.prev) (sym here ∙ ap (λ (cs : List Change). mark_before cs (w.scn, w.prev)) none))

pub windows_end : (bytes : List ℕ) → HaveWindows bytes → event_in_front bytes ≡ None → mark_front bytes ≡ None → windows_in bytes ≡ []
windows_end bytes have front marked = windows_are have.0 bytes have.1 ∙ nothing_first have.0 bytes have.1 front marked

pub windows_spelled : (bytes : List ℕ) → HaveWindows bytes → bytes ≡ windows_bytes (windows_in bytes)
windows_spelled bytes have = have.1.spelled ∙ ap windows_bytes (sym (windows_are have.0 bytes have.1))

-- ---- whole windows

-- what is left of bytes behind their events
pub behind_next : (bytes rest : List ℕ) (e : Event) → event_in_front bytes ≡ Some (e, rest) → (read_all event_in_front bytes).1 ≡ (read_all event_in_front rest).1
behind_next bytes rest e front = ap (λ (x : List Event × List ℕ). x.1) (read_step event_in_front events_shorten bytes rest e front)

pub behind_end : (bytes : List ℕ) → event_in_front bytes ≡ None → (read_all event_in_front bytes).1 ≡ bytes
behind_end bytes front = ap (λ (x : List Event × List ℕ). x.1) (read_stop event_in_front bytes front)

-- a window reads as itself
pub window_is : (w : Span) (bytes : List ℕ) → IsSpan w → bytes ≡ window_bytes w → window_of bytes ≡ w
window_is w bytes is spelled = ap window_of (spelled ∙ sym (append-nil (window_bytes w))) ∙ ap window_read (window_back w [] is)

pub window_seen : (n p : ℕ) (bytes : List ℕ) → (is : IsWindow n p bytes) → window_of bytes ≡ is.window
window_seen n p bytes is = window_is is.window bytes is.within is.spelled

-- the events of a window are its bytes without the mark
pub window_run : (n p : ℕ) (bytes events : List ℕ) → (is : IsWindow n p bytes) → events ≡ take (length bytes - 17) bytes → AreEvents (window_events is.window) events
window_run n p bytes events is events_are =
    let w = is.window in
    let spelled = changes_bytes w.scn w.changes in
    let mark = mark_bytes w.scn w.prev in
    let long : length spelled ≡ length bytes - 17 = omega (arith, ap length is.spelled, length-append spelled mark) in
    record {
      within = events_within w.scn w.changes (omega (arith, is.within.prev)) is.within.scn is.within.changes;
      spelled = events_are ∙ ap (take (length bytes - 17)) is.spelled ∙ take_at spelled mark (length bytes - 17) long ∙ events_spelled w.scn w.changes;
    }

-- the first window, and those behind it
pub record WindowFront (bytes own behind : List ℕ) (n p : ℕ) : Type 0 where
  pub is : IsWindow n p own
  pub first : windows_in bytes ≡ window_of own ∷ windows_in behind
  pub others : HaveWindows behind

-- the bytes of a window in front of others, and of its mark
window_parts : (w : Span) (ws : List Span) (bytes marked : List ℕ) → AreWindows (w ∷ ws) bytes → marked ≡ (read_all event_in_front bytes).1 → marked ≡ mark_bytes w.scn w.prev ++ windows_bytes ws
window_parts w ws bytes marked are marked_is =
    marked_is ∙ ap (λ (x : List ℕ). (read_all event_in_front x).1) are.spelled ∙ ap (λ (x : List Event × List ℕ). x.1) (window_events_back w (windows_bytes ws) are.within.0)

window_taken : (ws : List Span) (bytes marked own behind : List ℕ) (m : ℕ × ℕ) → AreWindows ws bytes → marked ≡ (read_all event_in_front bytes).1 → mark_front marked ≡ Some m
    → own ≡ take (length bytes - length marked + 17) bytes → behind ≡ drop (length bytes - length marked + 17) bytes → WindowFront bytes own behind m.0 m.1
window_taken [] bytes marked own behind m are marked_is front own_is behind_is =
    let none : marked ≡ [] = marked_is ∙ ap (λ (x : List ℕ). (read_all event_in_front x).1) are.spelled ∙ behind_end [] no_event_in_nothing in
    absurd (none-some m (sym no_mark_in_nothing ∙ ap mark_front (sym none) ∙ front))
window_taken (w ∷ ws) bytes marked own behind m are marked_is front own_is behind_is =
    let within = are.within.0 in
    let rest = windows_bytes ws in
    let mark = mark_bytes w.scn w.prev in
    let events = changes_bytes w.scn w.changes in
    let left = window_parts w ws bytes marked are marked_is in
    let same = same_Some (w.scn, w.prev) m (sym (mark_again w.scn w.prev rest (record { bound = within.scn; order = within.prev })) ∙ ap mark_front (sym left) ∙ front) in
    let long : length (window_bytes w) ≡ length bytes - length marked + 17 =
    omega (arith, ap length are.spelled, ap length left, length-append (window_bytes w) rest, length-append events mark, length-append mark rest) in
    let spelled : own ≡ window_bytes w = own_is ∙ ap (take (length bytes - length marked + 17)) are.spelled ∙ take_at (window_bytes w) rest (length bytes - length marked + 17) long in
    let others : AreWindows ws behind =
    record { within = are.within.1; spelled = behind_is ∙ ap (drop (length bytes - length marked + 17)) are.spelled ∙ drop_at (window_bytes w) rest (length bytes - length marked + 17) long } in
    record {
      is = record { window = w; within = within; spelled = spelled; scn = (λ i. (sym same i).0); prev = (λ i. (sym same i).1) };
      first = windows_are (w ∷ ws) bytes are ∙ (λ i. sym (window_is w own within spelled) i ∷ sym (windows_are ws behind others) i);
      others = (ws, others);
    }

pub windows_next : (bytes marked own behind : List ℕ) (m : ℕ × ℕ) → HaveWindows bytes → marked ≡ (read_all event_in_front bytes).1 → mark_front marked ≡ Some m
    → own ≡ take (length bytes - length marked + 17) bytes → behind ≡ drop (length bytes - length marked + 17) bytes → WindowFront bytes own behind m.0 m.1
windows_next bytes marked own behind m have marked_is front own_is behind_is = window_taken have.0 bytes marked own behind m have.1 marked_is front own_is behind_is

no_window : (ws : List Span) (bytes marked : List ℕ) → AreWindows ws bytes → marked ≡ (read_all event_in_front bytes).1 → mark_front marked ≡ None → ws ≡ []
no_window [] bytes marked are marked_is front = refl
no_window (w ∷ ws) bytes marked are marked_is front =
    let within = are.within.0 in
    absurd (none-some (w.scn, w.prev) (sym front ∙ ap mark_front (window_parts w ws bytes marked are marked_is) ∙ mark_again w.scn w.prev (windows_bytes ws) (record { bound = within.scn; order = within.prev })))

pub windows_none : (bytes marked : List ℕ) → HaveWindows bytes → marked ≡ (read_all event_in_front bytes).1 → mark_front marked ≡ None → windows_in bytes ≡ []
windows_none bytes marked have marked_is front = windows_are have.0 bytes have.1 ∙ no_window have.0 bytes marked have.1 marked_is front

-- what is behind the events is no longer than all
pub behind_short : (bytes marked : List ℕ) → marked ≡ (read_all event_in_front bytes).1 → length marked ≤ length bytes
behind_short bytes marked marked_is = omega (arith, ap length marked_is, left_short event_in_front events_shorten bytes bytes)

-- ---- the first of them

all_take : {A : Type 0} (Is : A → Type 0) (n : ℕ) (xs : List A) → AllByRecursion Is xs → AllByRecursion Is (take n xs)
all_take Is zero xs are = tt
all_take Is (suc n) [] are = tt
all_take Is (suc n) (x ∷ xs) are = (are.0, all_take Is n xs are.1)

-- bytes as those of the first items and those of the others
parts_spelled : {A : Type 0} (spell : A → List ℕ) (xs : List A) (n : ℕ) (bytes rest : List ℕ) → bytes ≡ flat_map spell xs → rest ≡ flat_map spell (drop n xs) → bytes ≡ flat_map spell (take n xs) ++ rest
parts_spelled spell xs n bytes rest spelled left =
    spelled ∙ ap (flat_map spell) (sym (take-append-drop n xs)) ∙ flat_map-append spell (take n xs) (drop n xs) ∙ ap (λ (x : List ℕ). flat_map spell (take n xs) ++ x) (sym left)

short_spelled : {A : Type 0} (spell : A → List ℕ) (xs : List A) (n : ℕ) (bytes rest : List ℕ) → bytes ≡ flat_map spell xs → rest ≡ flat_map spell (drop n xs) → length rest ≤ length bytes
short_spelled spell xs n bytes rest spelled left = omega (arith, ap length (parts_spelled spell xs n bytes rest spelled left), length-append (flat_map spell (take n xs)) rest)

front_spelled : {A : Type 0} (spell : A → List ℕ) (xs : List A) (n : ℕ) (bytes rest : List ℕ) → bytes ≡ flat_map spell xs → rest ≡ flat_map spell (drop n xs) → take (length bytes - length rest) bytes ≡ flat_map spell (take n xs)
front_spelled spell xs n bytes rest spelled left =
    let front = flat_map spell (take n xs) in
    let parts = parts_spelled spell xs n bytes rest spelled left in
    let long : length front ≡ length bytes - length rest = omega (arith, ap length parts, length-append front rest) in
    ap (take (length bytes - length rest)) parts ∙ take_at front rest (length bytes - length rest) long

pub first_events : (bytes rest : List ℕ) (n : ℕ) → HaveEvents bytes → HaveEvents rest → events_in rest ≡ drop n (events_in bytes) → AreEvents (take n (events_in bytes)) (take (length bytes - length rest) bytes)
first_events bytes rest n have others left = record {
  within = all_take IsEvent n (events_in bytes) (subst (AllByRecursion IsEvent) (sym (events_are have.0 bytes have.1)) have.1.within);
  spelled = front_spelled event_bytes (events_in bytes) n bytes rest (run_bytes bytes have) (run_bytes rest others ∙ ap events_bytes left);
}

pub first_windows : (bytes rest : List ℕ) (n : ℕ) → HaveWindows bytes → HaveWindows rest → windows_in rest ≡ drop n (windows_in bytes) → AreWindows (take n (windows_in bytes)) (take (length bytes - length rest) bytes)
first_windows bytes rest n have others left = record {
  within = all_take IsSpan n (windows_in bytes) (subst (AllByRecursion IsSpan) (sym (windows_are have.0 bytes have.1)) have.1.within);
  spelled = front_spelled window_bytes (windows_in bytes) n bytes rest (windows_spelled bytes have) (windows_spelled rest others ∙ ap windows_bytes left);
}

-- one more is taken of the first ones
pub skip_next : {A : Type 0} (old now next : List A) (x : A) (left count : ℕ) → left ≤ count → 0 < left → now ≡ drop (count - left) old → now ≡ x ∷ next → next ≡ drop (count - (left - 1)) old
skip_next old now next x left count within some behind first =
    let one_more : count - left + 1 ≡ count - (left - 1) = omega arith in
    sym (ap (drop 1) (sym behind ∙ first)) ∙ drop-drop 1 (count - left) old ∙ ap (λ n. drop n old) one_more

-- nothing is left
pub skip_end : {A : Type 0} (old now next : List A) (left count : ℕ) → left ≤ count → now ≡ drop (count - left) old → now ≡ [] → next ≡ [] → next ≡ drop count old
skip_end old now next left count within behind none nothing =
    let rest : count - left + left ≡ count = omega arith in
    nothing ∙ sym (drop-nil left) ∙ ap (drop left) (sym none ∙ behind) ∙ drop-drop left (count - left) old ∙ ap (λ n. drop n old) rest

-- the others are no longer than all
pub events_short : (bytes rest : List ℕ) (n : ℕ) → HaveEvents bytes → HaveEvents rest → events_in rest ≡ drop n (events_in bytes) → length rest ≤ length bytes
events_short bytes rest n have others left = short_spelled event_bytes (events_in bytes) n bytes rest (run_bytes bytes have) (run_bytes rest others ∙ ap events_bytes left)

pub windows_short : (bytes rest : List ℕ) (n : ℕ) → HaveWindows bytes → HaveWindows rest → windows_in rest ≡ drop n (windows_in bytes) → length rest ≤ length bytes
windows_short bytes rest n have others left = short_spelled window_bytes (windows_in bytes) n bytes rest (windows_spelled bytes have) (windows_spelled rest others ∙ ap windows_bytes left)
