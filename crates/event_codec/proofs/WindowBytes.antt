-- No window's bytes are a front of another's.
use Rattle.std.proofs.Common.{◌≡◌, ℕ, List, [], ◌∷◌, ◌++◌, length, refl, sym, ◌∙◌, append_assoc, arith}
use Rattle.std.proofs.lemmas.List.{length-append, append-nil}
use Rattle.bus_types.specs.declared.change.Change.{Change}
use Rattle.bus_types.specs.Change.{IsChange, AreChanges, changes_size}
use Rattle.bus_types.specs.Window.{Span, span_size, IsSpan}
use Rattle.event_codec.specs.Bytes.{Event, IsEvent, event_bytes, IsMark, mark_bytes, changes_bytes, window_bytes}
use Rattle.event_codec.proofs.EventBytes.{one_event, event_length, no_event_is_a_mark}
use Rattle.event_codec.proofs.Marks.{one_mark}

abbrev event : ℕ → Change → Event
event scn c = record { scn = scn; change = c }

is_event : (scn prev : ℕ) (c : Change) → IsMark scn prev → IsChange c → IsEvent (event scn c)
is_event scn prev c is is_change = record { positive = omega (arith, is.order); scn = is.bound; source = is_change.source; key = is_change.key; payload = is_change.payload }

-- the events and the mark of a window, and what follows
abbrev after : ℕ → ℕ → List Change → List ℕ → List ℕ
after scn prev cs r = changes_bytes scn cs ++ (mark_bytes scn prev ++ r)

regroup : (scn prev : ℕ) (c : Change) (cs : List Change) (r : List ℕ) → after scn prev (c ∷ cs) r ≡ event_bytes (event scn c) ++ after scn prev cs r
regroup scn prev c cs r = append_assoc (event_bytes (event scn c)) (changes_bytes scn cs) (mark_bytes scn prev ++ r)

pub record Same (scn prev other before : ℕ) (cs ds : List Change) (r s : List ℕ) : Type 0 where
  pub scn_same : scn ≡ other
  pub prev_same : prev ≡ before
  pub changes : cs ≡ ds
  pub rest : r ≡ s

same_windows : (scn prev other before : ℕ) (cs ds : List Change) (r s : List ℕ) → IsMark scn prev → IsMark other before → AreChanges cs → AreChanges ds
    → after scn prev cs r ≡ after other before ds s → Same scn prev other before cs ds r s
same_windows scn prev other before [] [] r s is is_other are are_others same =
    let m = one_mark scn prev other before r s is is_other same in
    record { scn_same = m.0; prev_same = m.1; changes = refl; rest = m.2 }
same_windows scn prev other before [] (d ∷ ds) r s is is_other are are_others same =
    absurd (no_event_is_a_mark (event other d) scn prev (after other before ds s) r (sym (same ∙ regroup other before d ds s)))
same_windows scn prev other before (c ∷ cs) [] r s is is_other are are_others same =
    absurd (no_event_is_a_mark (event scn c) other before (after scn prev cs r) s (sym (regroup scn prev c cs r) ∙ same))
same_windows scn prev other before (c ∷ cs) (d ∷ ds) r s is is_other are are_others same =
    let one = one_event (event scn c) (event other d) (after scn prev cs r) (after other before ds s) (is_event scn prev c is are.0) (is_event other before d is_other are_others.0)
    (sym (regroup scn prev c cs r) ∙ same ∙ regroup other before d ds s) in
    let others = same_windows scn prev other before cs ds r s is is_other are.1 are_others.1 one.1 in
    record { scn_same = others.scn_same; prev_same = others.prev_same; changes = λ i. (one.0 i).change ∷ others.changes i; rest = others.rest }

-- bytes begin with one window at most
pub one_window : (one other : Span) (r s : List ℕ) → IsSpan one → IsSpan other → window_bytes one ++ r ≡ window_bytes other ++ s → (one ≡ other) × (r ≡ s)
one_window one other r s is is_other same =
    let grouped : after one.scn one.prev one.changes r ≡ after other.scn other.prev other.changes s =
    sym (append_assoc (changes_bytes one.scn one.changes) (mark_bytes one.scn one.prev) r)
    ∙ same
    ∙ append_assoc (changes_bytes other.scn other.changes) (mark_bytes other.scn other.prev) s in
    let is_mark : IsMark one.scn one.prev = record { bound = is.scn; order = is.prev } in
    let is_other_mark : IsMark other.scn other.prev = record { bound = is_other.scn; order = is_other.prev } in
    let all = same_windows one.scn one.prev other.scn other.prev one.changes other.changes r s is_mark is_other_mark is.changes is_other.changes grouped in
    (λ i. record { scn = all.scn_same i; prev = all.prev_same i; changes = all.changes i }, all.rest)

-- no window's bytes are a front of another's
pub no_front : (one other : Span) (rest : List ℕ) → IsSpan one → IsSpan other → window_bytes other ≡ window_bytes one ++ rest → (one ≡ other) × (rest ≡ [])
no_front one other rest is is_other same = one_window one other rest [] is is_other (sym same ∙ sym (append-nil (window_bytes other)))

changes_length : (scn : ℕ) (cs : List Change) → length (changes_bytes scn cs) ≡ changes_size cs
changes_length scn [] = refl
changes_length scn (c ∷ cs) = omega (arith, length-append (event_bytes (event scn c)) (changes_bytes scn cs), event_length (event scn c), changes_length scn cs)

-- a window takes as many bytes as its size says
pub window_length : (w : Span) → length (window_bytes w) ≡ span_size w
window_length w = omega (arith, length-append (changes_bytes w.scn w.changes) (mark_bytes w.scn w.prev), changes_length w.scn w.changes)
