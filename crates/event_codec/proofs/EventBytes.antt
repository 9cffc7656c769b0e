-- An event that is read is the one that was written, and one that was written is read again.
use Rattle.std.proofs.Common.{◌≡◌, ℕ, ◌+◌, ◌≤◌, false, ltb, ◌⊎◌, inl, inr, List, ◌++◌, length, get_or, take, drop, Option, Some, None, option_and_then, refl, sym, ap, subst, ◌∙◌, append_assoc, arith}
use Rattle.std.proofs.Math.Seq.{take-add}
use Rattle.std.proofs.lemmas.Bool.{ltb-false, le-ltb}
use Rattle.std.proofs.lemmas.List.{length-append, length-take, length-drop, take_at, append_cancel_left}
use Rattle.std.proofs.lemmas.Option.{same_Some, option_and_then_some}
use Rattle.bus_types.specs.declared.change.Key.{Key}
use Rattle.bus_types.specs.declared.change.Key.TheVariants.{Long}
use Rattle.bus_types.specs.Change.{change_size}
use Rattle.event_codec.specs.declared.head.Head.{Head}
use Rattle.event_codec.specs.Bytes.{Event, IsEvent, put_bytes, payload_bytes, event_bytes, mark_bytes}
use Rattle.event_codec.specs.Head.{spelled}
use Rattle.event_codec.specs.Reading.{head_front, with_payload, event_front}
use Rattle.event_codec.specs.Parsing.{event_with}
use Rattle.event_codec.proofs.Numbers.{IsBytes}
use Rattle.event_codec.proofs.Heads.{IsHead, some_else, head_taken, head_again}

-- an event that is read is spelled so
pub record EventTaken (bytes : List ℕ) (h : Head) (payload : List ℕ) : Type 0 where
  pub head : IsHead h
  pub len : length payload ≡ h.len
  pub long : 23 + length payload ≤ length bytes
  pub there : take (23 + length payload) bytes ≡ spelled h ++ payload

pub event_taken : (bytes : List ℕ) (h : Head) (payload : List ℕ) → IsBytes bytes → event_front bytes ≡ Some (h, payload) → EventTaken bytes h payload
unfolding event_front
event_taken bytes h payload fits e = option_and_then_some (with_payload (drop 23 bytes)) (head_front bytes) (h, payload) e (λ g read rest.
    let after = drop 23 bytes in
    let part = take g.len after in
    let t = head_taken bytes g fits read in
    let a = some_else (ltb (length after) g.len) (Some (g, part)) (h, payload) rest in
    let room : g.len ≤ length after = ltb-false (length after) g.len a.0 in
    let len : length part ≡ g.len = omega (arith, length-take g.len after) in
    let there : take (23 + length part) bytes ≡ spelled g ++ part =
    take-add 23 (length part) bytes ∙ ap (λ n. take 23 bytes ++ take n after) len ∙ ap (λ (x : List ℕ). x ++ part) t.there in
    let long : 23 + length part ≤ length bytes = omega (arith, length-drop 23 bytes, t.long) in
    subst (λ (x : Head × List ℕ). EventTaken bytes x.0 x.1) (same_Some (g, part) (h, payload) a.1) (record { head = t.head; len = len; long = long; there = there }))

-- an event that was written is read again
pub parts_again : (h : Head) (payload rest : List ℕ) → IsHead h → length payload ≡ h.len → event_front (spelled h ++ (payload ++ rest)) ≡ Some (h, payload)
unfolding event_front
parts_again h payload rest is len =
    let long : ltb (length (payload ++ rest)) h.len ≡ false = le-ltb _ _ (omega (arith, length-append payload rest)) in
    let whole : with_payload (payload ++ rest) h ≡ Some (h, payload) = rw (long, take_at payload rest h.len len) refl in
    ap (option_and_then (with_payload (payload ++ rest))) (head_again h (payload ++ rest) is) ∙ whole

-- ---- the head of an event

abbrev pub put_head : ℕ → ℕ → Key → Option (List ℕ) → Head
put_head scn source (Long key) (Some payload) = record { kind = 1; source = source; scn = scn; key = key; len = length payload }
put_head scn source (Long key) None = record { kind = 2; source = source; scn = scn; key = key; len = 0 }

abbrev pub head_and_payload : Event → Head × List ℕ
head_and_payload e = (put_head e.scn e.change.source e.change.key e.change.put, payload_bytes e.change.put)

put_spelled : (scn source : ℕ) (key : Key) (put : Option (List ℕ)) → put_bytes scn source key put ≡ spelled (put_head scn source key put) ++ payload_bytes put
put_spelled scn source (Long key) (Some payload) = refl
put_spelled scn source (Long key) None = refl

pub put_joined : (scn source : ℕ) (key : Key) (put : Option (List ℕ)) → event_with (put_head scn source key put, payload_bytes put) ≡ record { scn = scn; change = record { source = source; key = key; put = put } }
put_joined scn source (Long key) (Some payload) = refl
put_joined scn source (Long key) None = refl

put_is_head : (scn source : ℕ) (key : Key) (put : Option (List ℕ)) → IsEvent (record { scn = scn; change = record { source = source; key = key; put = put } }) → IsHead (put_head scn source key put)
put_is_head scn source (Long key) (Some payload) is = record { positive = is.positive; scn = is.scn; source = is.source; key = is.key; sized = inl (refl, is.payload) }
put_is_head scn source (Long key) None is = record { positive = is.positive; scn = is.scn; source = is.source; key = is.key; sized = inr (refl, refl) }

put_len : (scn source : ℕ) (key : Key) (put : Option (List ℕ)) → length (payload_bytes put) ≡ (put_head scn source key put).len
put_len scn source (Long key) (Some payload) = refl
put_len scn source (Long key) None = refl

-- an event and what follows it are read as that event's head and payload
pub event_again : (e : Event) (rest : List ℕ) → IsEvent e → event_front (event_bytes e ++ rest) ≡ Some (head_and_payload e)
event_again e rest is =
    let c = e.change in
    let h = put_head e.scn c.source c.key c.put in
    ap (λ (x : List ℕ). event_front (x ++ rest)) (put_spelled e.scn c.source c.key c.put)
    ∙ ap event_front (append_assoc (spelled h) (payload_bytes c.put) rest)
    ∙ parts_again h (payload_bytes c.put) rest (put_is_head e.scn c.source c.key c.put is) (put_len e.scn c.source c.key c.put)

-- bytes begin with one event at most
pub one_event : (d e : Event) (r s : List ℕ) → IsEvent d → IsEvent e → event_bytes d ++ r ≡ event_bytes e ++ s → (d ≡ e) × (r ≡ s)
one_event d e r s is_d is_e same =
    let read : Some (head_and_payload d) ≡ Some (head_and_payload e) = sym (event_again d r is_d) ∙ ap event_front same ∙ event_again e s is_e in
    let d_e : d ≡ e = sym (put_joined d.scn d.change.source d.change.key d.change.put) ∙ ap event_with (same_Some _ _ read) ∙ put_joined e.scn e.change.source e.change.key e.change.put in
    (d_e, append_cancel_left (event_bytes e) r s (ap (λ (x : Event). event_bytes x ++ r) (sym d_e) ∙ same))

-- ---- lengths and first bytes

put_length : (scn source : ℕ) (key : Key) (put : Option (List ℕ)) → length (put_bytes scn source key put) ≡ change_size (record { source = source; key = key; put = put })
put_length scn source (Long key) (Some payload) = omega arith
put_length scn source (Long key) None = refl

pub payload_length : (scn source : ℕ) (key : Key) (put : Option (List ℕ)) → 23 + length (payload_bytes put) ≡ length (put_bytes scn source key put)
payload_length scn source (Long key) (Some payload) = omega arith
payload_length scn source (Long key) None = refl

-- an event takes 23 bytes and its payload
pub event_length : (e : Event) → length (event_bytes e) ≡ change_size e.change
event_length e = put_length e.scn e.change.source e.change.key e.change.put

put_first : (scn source : ℕ) (key : Key) (put : Option (List ℕ)) (rest : List ℕ) → (get_or (put_bytes scn source key put ++ rest) 0 0 ≡ 1) ⊎ (get_or (put_bytes scn source key put ++ rest) 0 0 ≡ 2)
put_first scn source (Long key) (Some payload) rest = inl refl
put_first scn source (Long key) None rest = inr refl

-- an event begins with 1 or 2
pub event_first : (e : Event) (rest : List ℕ) → (get_or (event_bytes e ++ rest) 0 0 ≡ 1) ⊎ (get_or (event_bytes e ++ rest) 0 0 ≡ 2)
event_first e rest = put_first e.scn e.change.source e.change.key e.change.put rest

-- a mark begins with 3
pub mark_first : (scn prev : ℕ) (rest : List ℕ) → get_or (mark_bytes scn prev ++ rest) 0 0 ≡ 3
mark_first scn prev rest = refl

-- bytes don't begin with both an event and a mark
pub no_event_is_a_mark : (e : Event) (scn prev : ℕ) (r s : List ℕ) → event_bytes e ++ r ≡ mark_bytes scn prev ++ s → ⊥
no_event_is_a_mark e scn prev r s same =
    let first : get_or (event_bytes e ++ r) 0 0 ≡ 3 = ap (λ (x : List ℕ). get_or x 0 0) same in
    elim (event_first e r) [
      | inl one ↦ omega (arith, first, one)
      | inr two ↦ omega (arith, first, two)
    ]
