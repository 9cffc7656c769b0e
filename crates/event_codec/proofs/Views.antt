-- What stands at a place, read by the front of the bytes from there on.
use Rattle.std.proofs.Common.{◌≡◌, ℕ, ◌+◌, ◌≤◌, Bool, true, false, cond, eqb, ◌⊎◌, inl, inr, List, [], ◌++◌, length, take, drop, Option, Some, None, refl, sym, ap, subst, ◌∙◌, lit≤, arith}
use Rattle.std.specs.Prelude.{IfSome, IfNone, option_map}
use Rattle.std.proofs.lemmas.List.{length-append, nil_from_length}
use Rattle.std.proofs.lemmas.Option.{none-some}
use Rattle.bus_types.specs.declared.change.Key.TheVariants.{Long}
use Rattle.bus_types.specs.declared.limits.TheConstants.{MAX_PAYLOAD}
use Rattle.bus_types.specs.Change.{payload_size}
use Rattle.event_codec.specs.declared.event.EventView.{EventView}
use Rattle.event_codec.specs.Bytes.{Event, IsEvent, head_bytes, put_bytes, event_bytes, IsMark, mark_bytes, mark_size, StandsAt}
use Rattle.event_codec.specs.View.{event_of, IsView}
use Rattle.event_codec.specs.Parts.{parts}
use Rattle.event_codec.specs.Head.{spelled}
use Rattle.event_codec.specs.Reading.{event_front, mark_front}
use Rattle.event_codec.proofs.Numbers.{IsBytes, IsBytes-drop}
use Rattle.event_codec.proofs.Heads.{IsSized, sized_short}
use Rattle.event_codec.proofs.EventBytes.{head_and_payload, event_taken, event_again}
use Rattle.event_codec.proofs.Marks.{mark_taken, mark_again}
use Rattle.event_codec.proofs.Places.{stands_parts}

viewed : (kind source scn key : ℕ) (payload : List ℕ) → IsSized kind (length payload)
    → put_bytes scn source (Long key) (cond (eqb kind 1) (Some payload) None) ≡ head_bytes kind source scn (Long key) (length payload) ++ payload
viewed kind source scn key payload (inl put) =
    subst (λ k. put_bytes scn source (Long key) (cond (eqb k 1) (Some payload) None) ≡ head_bytes k source scn (Long key) (length payload) ++ payload) (sym put.0) refl
viewed kind source scn key payload (inr delete) =
    subst (λ (x : ℕ × List ℕ). put_bytes scn source (Long key) (cond (eqb x.0 1) (Some x.1) None) ≡ head_bytes x.0 source scn (Long key) (length x.1) ++ x.1)
    (λ i. (sym delete.0 i, sym (nil_from_length payload delete.1) i))
    refl

kind_of : (kind : ℕ) (payload : List ℕ) → IsSized kind (length payload) → (kind ≡ 1) ⊎ ((kind ≡ 2) × (payload ≡ []))
kind_of kind payload (inl put) = inl put.0
kind_of kind payload (inr delete) = inr (delete.0, nil_from_length payload delete.1)

put_small : (b : Bool) (payload : List ℕ) → length payload ≤ MAX_PAYLOAD → payload_size (cond b (Some payload) None) ≤ MAX_PAYLOAD
put_small true payload small = small
put_small false payload small = lit≤ tt

-- an event that is read stands there
pub view_found : (bytes : List ℕ) (place : ℕ) (seen : List ℕ) (v : EventView) → IsBytes bytes → seen ≡ drop place bytes → option_map parts (Some v) ≡ event_front seen
    → IsView v × StandsAt bytes place (event_bytes (event_of v)) (place + 23 + length v.payload.now)
view_found bytes place seen v fits is read =
    let h = (parts v).0 in
    let payload = v.payload.now in
    let t = event_taken (drop place bytes) h payload (IsBytes-drop place bytes fits) (sym (read ∙ ap event_front is)) in
    let text : event_bytes (event_of v) ≡ spelled h ++ payload = viewed v.kind v.source v.scn v.key payload t.head.sized in
    let len : length (event_bytes (event_of v)) ≡ 23 + length payload = ap length text ∙ length-append (spelled h) payload in (
      record {
        event = record {
          positive = t.head.positive;
          scn = t.head.scn;
          source = t.head.source;
          key = t.head.key;
          payload = put_small (eqb v.kind 1) payload (sized_short v.kind (length payload) t.head.sized);
        };
        kind = kind_of v.kind payload t.head.sized;
      },
      record {
        after = omega (arith, len);
        there = ap (λ n. take n (drop place bytes)) len ∙ t.there ∙ sym text;
      },
    )

-- where none is read, none stands there
pub view_none : (bytes : List ℕ) (place : ℕ) (seen : List ℕ) → seen ≡ drop place bytes → None ≡ event_front seen
    → (event : Event) (next : ℕ) → IsEvent event → StandsAt bytes place (event_bytes event) next → ⊥
view_none bytes place seen is read event next is_event stands =
    none-some (head_and_payload event) (read ∙ ap event_front (is ∙ stands_parts bytes place (event_bytes event) next stands) ∙ event_again event (drop next bytes) is_event)

-- a mark that is read stands there
pub mark_found : (bytes : List ℕ) (place : ℕ) (seen : List ℕ) (found : Option (ℕ × ℕ)) → IsBytes bytes → seen ≡ drop place bytes → found ≡ mark_front seen
    → IfSome found (λ mark. IsMark mark.0 mark.1 × StandsAt bytes place (mark_bytes mark.0 mark.1) (place + mark_size))
mark_found bytes place seen None fits is read = tt
mark_found bytes place seen (Some mark) fits is read =
    let t = mark_taken (drop place bytes) mark.0 mark.1 (IsBytes-drop place bytes fits) (sym (read ∙ ap mark_front is)) in
    (t.mark, record { after = refl; there = t.there })

-- where none is read, none stands there
pub mark_none : (bytes : List ℕ) (place : ℕ) (seen : List ℕ) (found : Option (ℕ × ℕ)) → seen ≡ drop place bytes → found ≡ mark_front seen
    → IfNone found ((scn prev next : ℕ) → IsMark scn prev → StandsAt bytes place (mark_bytes scn prev) next → ⊥)
mark_none bytes place seen None is read = λ scn prev next is_mark stands.
    none-some (scn, prev) (read ∙ ap mark_front (is ∙ stands_parts bytes place (mark_bytes scn prev) next stands) ∙ mark_again scn prev (drop next bytes) is_mark)
mark_none bytes place seen (Some mark) is read = tt
