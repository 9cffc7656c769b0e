-- One item stands at a place.
use Rattle.std.proofs.Common.{◌≡◌, ℕ, ◌+◌, List, length, drop, sym, ap, ◌∙◌}
use Rattle.event_codec.specs.Bytes.{Event, IsEvent, event_bytes, IsMark, mark_bytes, StandsAt}
use Rattle.event_codec.proofs.EventBytes.{one_event, no_event_is_a_mark}
use Rattle.event_codec.proofs.Marks.{one_mark}
use Rattle.event_codec.proofs.Places.{stands_parts}

pub one_event_stands : (bytes : List ℕ) (place next after : ℕ) (one other : Event) → IsEvent one → IsEvent other → StandsAt bytes place (event_bytes one) next → StandsAt bytes place (event_bytes other) after → (one ≡ other) × (next ≡ after)
one_event_stands bytes place next after one other is is_other stands stands_other =
    let parts = sym (stands_parts bytes place (event_bytes one) next stands) ∙ stands_parts bytes place (event_bytes other) after stands_other in
    let same = (one_event one other (drop next bytes) (drop after bytes) is is_other parts).0 in
    (same, stands.after ∙ ap (λ (e : Event). place + length (event_bytes e)) same ∙ sym stands_other.after)

pub one_mark_stands : (bytes : List ℕ) (place next after scn prev other before : ℕ) → IsMark scn prev → IsMark other before → StandsAt bytes place (mark_bytes scn prev) next → StandsAt bytes place (mark_bytes other before) after
    → (scn ≡ other) × (prev ≡ before)
one_mark_stands bytes place next after scn prev other before is is_other stands stands_other =
    let parts = sym (stands_parts bytes place (mark_bytes scn prev) next stands) ∙ stands_parts bytes place (mark_bytes other before) after stands_other in
    let same = one_mark scn prev other before (drop next bytes) (drop after bytes) is is_other parts in
    (same.0, same.1)

pub not_both_stand : (bytes : List ℕ) (place next after scn prev : ℕ) (event : Event) → StandsAt bytes place (event_bytes event) next → StandsAt bytes place (mark_bytes scn prev) after → ⊥
not_both_stand bytes place next after scn prev event stands stands_other =
    no_event_is_a_mark event scn prev (drop next bytes) (drop after bytes) (sym (stands_parts bytes place (event_bytes event) next stands) ∙ stands_parts bytes place (mark_bytes scn prev) after stands_other)
