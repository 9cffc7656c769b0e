-- The front of bytes: an event or a mark that can stand is seen there, and what is seen there is spelled so.
use Rattle.std.proofs.Common.{◌≡◌, ℕ, suc, ◌+◌, ◌^◌, ◌<◌, ◌≤◌, Bool, true, false, cond, eqb, ltb, leb, ◌&&◌, ◌||◌, ◌⊎◌, inl, inr, List, [], ◌∷◌, ◌++◌, length, take, drop, Option, Some, None, refl, sym, ap, subst, ◌∙◌, append_assoc, arith}
use Rattle.std.specs.Int.{w16, w32, w64, from_be_bytes, to_be_bytes}
use Rattle.std.proofs.lemmas.Bool.{ltb-true, ltb-false, le-ltb, lt-ltb, eqb-true, eq-eqb, leb-true, le-leb, and_parts, and_from, or_cases, or_left, or_right}
use Rattle.std.proofs.lemmas.List.{take_at, take-append-drop, drop-drop, length-append, length-take, length-drop}
use Rattle.std.proofs.lemmas.Nat.{from_be_bytes-to_be_bytes_2, from_be_bytes-to_be_bytes_4, from_be_bytes-to_be_bytes_8}
use Rattle.bus_types.specs.declared.change.Key.{Key}
use Rattle.bus_types.specs.declared.change.Key.TheVariants.{Long}
use Rattle.bus_types.specs.declared.change.Change.{Change}
use Rattle.bus_types.specs.declared.limits.TheConstants.{MAX_SCN, MAX_PAYLOAD, MAX_CHANGES, MAX_WINDOW}
use Rattle.bus_types.specs.Change.{change_size, payload_size}
use Rattle.event_codec.specs.Bytes.{Event, IsEvent, put_bytes, event_bytes, mark_bytes}
use Rattle.event_codec.specs.Reading.{number_at}
use Rattle.event_codec.proofs.Numbers.{IsBytes, spells_2, spells_4, spells_8}
use Rattle.event_codec.specs.declared.item.Item.TheVariants as items
use Rattle.event_codec.specs.Items.{Since, Open, has_right_scn, has_right_prev, event_stands, mark_stands, Front, event_front, mark_front, front_of}
use Rattle.event_codec.specs.Items.Front.{Unfinished, Refused, AnEvent, AMark}
use Rattle.event_codec.specs.Items.{Shows, IsEventNumbers}

-- ---- choices

-- an event is seen only where each test went its way
event_then : (b : Bool) (f : Front) (n : ℕ) (c : Change) (m : ℕ) → cond b Unfinished f ≡ AnEvent n c m → (b ≡ false) × (f ≡ AnEvent n c m)
event_then true f n c m e = absurd cc
event_then false f n c m e = (refl, e)

event_if : (b : Bool) (f : Front) (n : ℕ) (c : Change) (m : ℕ) → cond b f Refused ≡ AnEvent n c m → (b ≡ true) × (f ≡ AnEvent n c m)
event_if true f n c m e = (refl, e)
event_if false f n c m e = absurd cc

mark_then : (b : Bool) (f : Front) (n p : ℕ) → cond b Unfinished f ≡ AMark n p → (b ≡ false) × (f ≡ AMark n p)
mark_then true f n p e = absurd cc
mark_then false f n p e = (refl, e)

mark_if : (b : Bool) (f : Front) (n p : ℕ) → cond b f Refused ≡ AMark n p → (b ≡ true) × (f ≡ AMark n p)
mark_if true f n p e = (refl, e)
mark_if false f n p e = absurd cc

-- ---- the front behind the kind of an event

abbrev pub change_at : ℕ → ℕ → ℕ → ℕ → List ℕ → Change
change_at kind source key len behind = record { source = source; key = Long key; put = cond (eqb kind 1) (Some (take len behind)) None }

-- what is seen where these numbers stand before these bytes
abbrev pub seen : Since → Open → ℕ → ℕ → ℕ → ℕ → ℕ → ℕ → List ℕ → Front
seen s o kind source scn key len long behind =
    cond (ltb long 22) Unfinished
    (cond (event_stands s o kind scn len) (cond (ltb long (22 + len)) Unfinished (AnEvent scn (change_at kind source key len behind) (23 + len))) Refused)

seen_event : (s : Since) (o : Open) (kind source scn key len long : ℕ) (behind : List ℕ) → 22 + len ≤ long → event_stands s o kind scn len ≡ true
    → seen s o kind source scn key len long behind ≡ AnEvent scn (change_at kind source key len behind) (23 + len)
seen_event s o kind source scn key len long behind fits stands =
    let a : ltb long 22 ≡ false = le-ltb long 22 (omega arith) in
    let b : ltb long (22 + len) ≡ false = le-ltb long (22 + len) fits in
    rw (a, stands, b) refl

abbrev source_at : List ℕ → ℕ
source_at rest = from_be_bytes w16 (take 2 rest)

abbrev scn_at : List ℕ → ℕ
scn_at rest = from_be_bytes w64 (take 8 (drop 2 rest))

abbrev key_at : List ℕ → ℕ
key_at rest = from_be_bytes w64 (take 8 (drop 10 rest))

abbrev len_at : List ℕ → ℕ
len_at rest = from_be_bytes w32 (take 4 (drop 18 rest))

event_front_is : (s : Since) (o : Open) (kind : ℕ) (rest : List ℕ) → event_front s o kind rest ≡ seen s o kind (source_at rest) (scn_at rest) (key_at rest) (len_at rest) (length rest) (drop 22 rest)
event_front_is s o kind rest = refl

-- as the code reads it
pub event_found : (s : Since) (o : Open) (kind : ℕ) (rest : List ℕ) (from number id size : ℕ) (behind : List ℕ) → IsEventNumbers rest from number id size behind → event_stands s o kind number size ≡ true → size ≤ length behind
    → Shows (items.Event number from id (23 + size)) (event_front s o kind rest)
event_found s o kind rest from number id size behind numbers stands fits =
    let at : event_front s o kind rest ≡ seen s o kind from number id size (length rest) (drop 22 rest) =
    (λ i. seen s o kind (sym numbers.source i) (sym numbers.scn i) (sym numbers.key i) (sym numbers.len i) (length rest) (drop 22 rest)) in
    ((change_at kind from id size (drop 22 rest)).put, at ∙ seen_event s o kind from number id size (length rest) (drop 22 rest) (omega (arith, numbers.payload)) stands)

-- what the tests of an event's numbers say
pub record CanStand (s : Since) (o : Open) (kind n len : ℕ) : Type 0 where
  pub positive : 0 < n
  pub scn : n ≤ MAX_SCN
  pub payload : len ≤ MAX_PAYLOAD
  pub sized : (kind ≡ 1) ⊎ (len ≡ 0)
  pub right : has_right_scn s o.scn n ≡ true
  pub count : o.count < MAX_CHANGES
  pub room : o.size + 23 + len + 17 ≤ MAX_WINDOW

sized_of : (kind len : ℕ) → (eqb kind 1 || eqb len 0) ≡ true → (kind ≡ 1) ⊎ (len ≡ 0)
sized_of kind len e =
    elim (or_cases (eqb kind 1) (eqb len 0) e) [
      | inl put ↦ inl (eqb-true kind 1 put)
      | inr none ↦ inr (eqb-true len 0 none)
    ]

sized_from : (kind len : ℕ) → (kind ≡ 1) ⊎ (len ≡ 0) → (eqb kind 1 || eqb len 0) ≡ true
sized_from kind len (inl put) = or_left (eqb kind 1) (eqb len 0) (eq-eqb kind 1 put)
sized_from kind len (inr none) = or_right (eqb kind 1) (eqb len 0) (eq-eqb len 0 none)

can_stand : (s : Since) (o : Open) (kind n len : ℕ) → event_stands s o kind n len ≡ true → CanStand s o kind n len
can_stand s o kind n len e =
    let room = leb (o.size + 23 + len + 17) MAX_WINDOW in
    let count = ltb o.count MAX_CHANGES in
    let right = has_right_scn s o.scn n in
    let sized = eqb kind 1 || eqb len 0 in
    let a = and_parts (ltb 0 n && leb n MAX_SCN && leb len MAX_PAYLOAD && sized && right && count) room e in
    let b = and_parts (ltb 0 n && leb n MAX_SCN && leb len MAX_PAYLOAD && sized && right) count a.0 in
    let c = and_parts (ltb 0 n && leb n MAX_SCN && leb len MAX_PAYLOAD && sized) right b.0 in
    let d = and_parts (ltb 0 n && leb n MAX_SCN && leb len MAX_PAYLOAD) sized c.0 in
    let f = and_parts (ltb 0 n && leb n MAX_SCN) (leb len MAX_PAYLOAD) d.0 in
    let g = and_parts (ltb 0 n) (leb n MAX_SCN) f.0 in
    record {
      positive = ltb-true 0 n g.0;
      scn = leb-true n MAX_SCN g.1;
      payload = leb-true len MAX_PAYLOAD f.1;
      sized = sized_of kind len d.1;
      right = c.1;
      count = ltb-true o.count MAX_CHANGES b.1;
      room = leb-true (o.size + 23 + len + 17) MAX_WINDOW a.1;
    }

pub stands : (s : Since) (o : Open) (kind n len : ℕ) → CanStand s o kind n len → event_stands s o kind n len ≡ true
stands s o kind n len can =
    and_from _ _ (and_from _ _ (and_from _ _ (and_from _ _ (and_from _ _ (and_from _ _ (lt-ltb 0 n can.positive) (le-leb n MAX_SCN can.scn)) (le-leb len MAX_PAYLOAD can.payload)) (sized_from kind len can.sized)) can.right)
    (lt-ltb o.count MAX_CHANGES can.count)) (le-leb (o.size + 23 + len + 17) MAX_WINDOW can.room)

-- ---- what is spelled is seen

abbrev fields : ℕ → ℕ → ℕ → ℕ → List ℕ
fields source scn key len = to_be_bytes w16 source ++ to_be_bytes w64 scn ++ to_be_bytes w64 key ++ to_be_bytes w32 len

fields_seen : (s : Since) (o : Open) (kind source scn key len : ℕ) (behind : List ℕ) → source < 2 ^ 16 → scn < 2 ^ 64 → key < 2 ^ 64 → len < 2 ^ 32
    → event_front s o kind (fields source scn key len ++ behind) ≡ seen s o kind source scn key len (length (fields source scn key len ++ behind)) behind
fields_seen s o kind source scn key len behind source_fits scn_fits key_fits len_fits = λ i.
    seen s o kind (from_be_bytes-to_be_bytes_2 source source_fits i) (from_be_bytes-to_be_bytes_8 scn scn_fits i) (from_be_bytes-to_be_bytes_8 key key_fits i) (from_be_bytes-to_be_bytes_4 len len_fits i)
    (length (fields source scn key len ++ behind)) behind

kind_of : Option (List ℕ) → ℕ
kind_of None = 2
kind_of (Some payload) = 1

put_seen : (s : Since) (o : Open) (scn source : ℕ) (key : Key) (put : Option (List ℕ)) (rest : List ℕ) → IsEvent (record { scn = scn; change = record { source = source; key = key; put = put } })
    → CanStand s o (kind_of put) scn (payload_size put)
    → front_of s o (put_bytes scn source key put ++ rest) ≡ AnEvent scn (record { source = source; key = key; put = put }) (change_size (record { source = source; key = key; put = put }))
unfolding front_of kind_of
put_seen s o scn source (Long key) (Some payload) rest is can =
    let regrouped : put_bytes scn source (Long key) (Some payload) ++ rest ≡ 1 ∷ (fields source scn key (length payload) ++ (payload ++ rest)) = append_assoc (1 ∷ fields source scn key (length payload)) payload rest in
    let at = fields_seen s o 1 source scn key (length payload) (payload ++ rest) is.source (omega (arith, is.scn)) is.key (omega (arith, is.payload)) in
    ap (front_of s o) regrouped
    ∙ at
    ∙ seen_event s o 1 source scn key (length payload) (length (fields source scn key (length payload) ++ (payload ++ rest))) (payload ++ rest) (omega (arith, length-append (fields source scn key (length payload)) (payload ++ rest), length-append payload rest)) (stands s o 1 scn (length payload) can)
    ∙ ap (λ (p : List ℕ). AnEvent scn (record { source = source; key = Long key; put = Some p }) (23 + length payload)) (take_at payload rest (length payload) refl)
put_seen s o scn source (Long key) None rest is can =
    let at = fields_seen s o 2 source scn key 0 rest is.source (omega (arith, is.scn)) is.key (omega arith) in
    at ∙ seen_event s o 2 source scn key 0 (length (fields source scn key 0 ++ rest)) rest (omega (arith, length-append (fields source scn key 0) rest)) (stands s o 2 scn 0 can)

-- an event whose numbers can stand
pub record Stands (s : Since) (o : Open) (e : Event) : Type 0 where
  pub within : IsEvent e
  pub right : has_right_scn s o.scn e.scn ≡ true
  pub count : o.count < MAX_CHANGES
  pub room : o.size + change_size e.change + 17 ≤ MAX_WINDOW

put_can : (s : Since) (o : Open) (scn source : ℕ) (key : Key) (put : Option (List ℕ)) → Stands s o (record { scn = scn; change = record { source = source; key = key; put = put } }) → CanStand s o (kind_of put) scn (payload_size put)
unfolding kind_of
put_can s o scn source (Long key) (Some payload) is =
    record { positive = is.within.positive; scn = is.within.scn; payload = is.within.payload; sized = inl refl; right = is.right; count = is.count; room = omega (arith, is.room) }
put_can s o scn source (Long key) None is =
    record { positive = is.within.positive; scn = is.within.scn; payload = omega arith; sized = inr refl; right = is.right; count = is.count; room = omega (arith, is.room) }

-- an event that can stand is seen, whatever follows it
pub event_seen : (s : Since) (o : Open) (e : Event) (rest : List ℕ) → Stands s o e → front_of s o (event_bytes e ++ rest) ≡ AnEvent e.scn e.change (change_size e.change)
event_seen s o e rest is = put_seen s o e.scn e.change.source e.change.key e.change.put rest is.within (put_can s o e.scn e.change.source e.change.key e.change.put is)

-- ---- what is seen is spelled

part_of : (n k : ℕ) (bytes : List ℕ) → take k (drop n bytes) ++ drop (n + k) bytes ≡ drop n bytes
part_of n k bytes = ap (λ (x : List ℕ). take k (drop n bytes) ++ x) (sym (drop-drop k n bytes)) ∙ take-append-drop k (drop n bytes)

fields_are : (rest : List ℕ) → IsBytes rest → 22 ≤ length rest → rest ≡ fields (source_at rest) (scn_at rest) (key_at rest) (len_at rest) ++ drop 22 rest
unfolding number_at
fields_are rest fits long =
    let a = (spells_2 0 rest fits (omega arith)).spelled in
    let b = (spells_8 2 rest fits (omega arith)).spelled in
    let c = (spells_8 10 rest fits (omega arith)).spelled in
    let d = (spells_4 18 rest fits (omega arith)).spelled in
    let join : (w x y z v : List ℕ) → w ++ x ++ y ++ z ++ v ≡ w ++ (x ++ (y ++ (z ++ v))) = λ w x y z v. simp append_assoc in
    sym (
    ap (λ (x : List ℕ). x ++ to_be_bytes w64 (scn_at rest) ++ to_be_bytes w64 (key_at rest) ++ to_be_bytes w32 (len_at rest) ++ drop 22 rest) a
    ∙ ap (λ (x : List ℕ). take 2 rest ++ x ++ to_be_bytes w64 (key_at rest) ++ to_be_bytes w32 (len_at rest) ++ drop 22 rest) b
    ∙ ap (λ (x : List ℕ). take 2 rest ++ take 8 (drop 2 rest) ++ x ++ to_be_bytes w32 (len_at rest) ++ drop 22 rest) c
    ∙ ap (λ (x : List ℕ). take 2 rest ++ take 8 (drop 2 rest) ++ take 8 (drop 10 rest) ++ x ++ drop 22 rest) d
    ∙ join (take 2 rest) (take 8 (drop 2 rest)) (take 8 (drop 10 rest)) (take 4 (drop 18 rest)) (drop 22 rest)
    ∙ ap (λ (x : List ℕ). take 2 rest ++ (take 8 (drop 2 rest) ++ (take 8 (drop 10 rest) ++ x))) (part_of 18 4 rest)
    ∙ ap (λ (x : List ℕ). take 2 rest ++ (take 8 (drop 2 rest) ++ x)) (part_of 10 8 rest)
    ∙ ap (λ (x : List ℕ). take 2 rest ++ x) (part_of 2 8 rest)
    ∙ take-append-drop 2 rest
    )

-- what is seen as an event
record SeenEvent (s : Since) (o : Open) (kind source scn key len long : ℕ) (behind : List ℕ) (n : ℕ) (c : Change) (m : ℕ) : Type 0 where
  fits : 22 + len ≤ long
  can : CanStand s o kind scn len
  same : AnEvent scn (change_at kind source key len behind) (23 + len) ≡ AnEvent n c m

seen_as_event : (s : Since) (o : Open) (kind source scn key len long : ℕ) (behind : List ℕ) (n : ℕ) (c : Change) (m : ℕ) → seen s o kind source scn key len long behind ≡ AnEvent n c m
    → SeenEvent s o kind source scn key len long behind n c m
seen_as_event s o kind source scn key len long behind n c m e =
    let there = AnEvent scn (change_at kind source key len behind) (23 + len) in
    let p = event_then (ltb long 22) (cond (event_stands s o kind scn len) (cond (ltb long (22 + len)) Unfinished there) Refused) n c m e in
    let q = event_if (event_stands s o kind scn len) (cond (ltb long (22 + len)) Unfinished there) n c m p.1 in
    let r = event_then (ltb long (22 + len)) there n c m q.1 in
    record { fits = ltb-false long (22 + len) r.0; can = can_stand s o kind scn len q.0; same = r.1 }

-- an event that stands at the front
pub record EventTaken (s : Since) (o : Open) (bytes : List ℕ) (n : ℕ) (c : Change) (m : ℕ) : Type 0 where
  pub is : Stands s o (record { scn = n; change = c })
  pub size : m ≡ change_size c
  pub long : m ≤ length bytes
  pub parts : bytes ≡ event_bytes (record { scn = n; change = c }) ++ drop m bytes

drop_behind : (k m : ℕ) (rest : List ℕ) → drop (22 + m) rest ≡ drop (23 + m) (k ∷ rest)
drop_behind k m rest = let e : suc (22 + m) ≡ 23 + m = omega arith in ap (λ n. drop n (k ∷ rest)) e

taken_at_put : (s : Since) (o : Open) (source scn key len : ℕ) (rest : List ℕ) → rest ≡ fields source scn key len ++ drop 22 rest → source < 2 ^ 16 → key < 2 ^ 64 → 22 + len ≤ length rest → CanStand s o 1 scn len
    → EventTaken s o (1 ∷ rest) scn (change_at 1 source key len (drop 22 rest)) (23 + len)
taken_at_put s o source scn key len rest spelled source_fits key_fits long can =
    let behind = drop 22 rest in
    let size : length (take len behind) ≡ len = omega (arith, length-take len behind, length-drop 22 rest) in
    let split : behind ≡ take len behind ++ drop (22 + len) rest = sym (part_of 22 len rest) in
    let parts : 1 ∷ rest ≡ (1 ∷ fields source scn key (length (take len behind)) ++ take len behind) ++ drop (22 + len) rest =
    ap (λ (x : List ℕ). 1 ∷ x) (spelled ∙ ap (λ (x : List ℕ). fields source scn key len ++ x) split ∙ ap (λ k. fields source scn key k ++ (take len behind ++ drop (22 + len) rest)) (sym size))
    ∙ sym (append_assoc (1 ∷ fields source scn key (length (take len behind))) (take len behind) (drop (22 + len) rest)) in
    record {
      is = record { within = record { positive = can.positive; scn = can.scn; source = source_fits; key = key_fits; payload = omega (arith, can.payload) }; right = can.right; count = can.count; room = omega (arith, can.room) };
      size = omega arith;
      long = omega arith;
      parts = parts ∙ ap (λ (x : List ℕ). (1 ∷ fields source scn key (length (take len behind)) ++ take len behind) ++ x) (drop_behind 1 len rest);
    }

taken_at_delete : (s : Since) (o : Open) (source scn key len : ℕ) (rest : List ℕ) → rest ≡ fields source scn key len ++ drop 22 rest → source < 2 ^ 16 → key < 2 ^ 64 → 22 + len ≤ length rest → CanStand s o 2 scn len → len ≡ 0
    → EventTaken s o (2 ∷ rest) scn (change_at 2 source key len (drop 22 rest)) (23 + len)
taken_at_delete s o source scn key len rest spelled source_fits key_fits long can none =
    let behind : drop 22 rest ≡ drop (22 + len) rest = (let e : 22 ≡ 22 + len = omega arith in ap (λ n. drop n rest) e) in
    record {
      is = record { within = record { positive = can.positive; scn = can.scn; source = source_fits; key = key_fits; payload = omega arith }; right = can.right; count = can.count; room = omega (arith, can.room) };
      size = omega arith;
      long = omega arith;
      parts = ap (λ (x : List ℕ). 2 ∷ x) (spelled ∙ ap (λ k. fields source scn key k ++ drop 22 rest) none) ∙ ap (λ (x : List ℕ). (2 ∷ fields source scn key 0) ++ x) (behind ∙ drop_behind 2 len rest);
    }

same_event : (s : Since) (o : Open) (bytes : List ℕ) (n : ℕ) (c : Change) (m : ℕ) (k : ℕ) (d : Change) (l : ℕ) → AnEvent n c m ≡ AnEvent k d l → EventTaken s o bytes n c m → EventTaken s o bytes k d l
same_event s o bytes n c m k d l e taken =
    let a : n ≡ k = cc in
    let b : c ≡ d = cc in
    let f : m ≡ l = cc in
    subst (λ (x : ℕ × Change × ℕ). EventTaken s o bytes x.0 x.1 x.2) (λ i. (a i, b i, f i)) taken

taken_one : (s : Since) (o : Open) (rest : List ℕ) (n : ℕ) (c : Change) (m : ℕ) → IsBytes rest → event_front s o 1 rest ≡ AnEvent n c m → EventTaken s o (1 ∷ rest) n c m
unfolding number_at
taken_one s o rest n c m fits e =
    let q = seen_as_event s o 1 (source_at rest) (scn_at rest) (key_at rest) (len_at rest) (length rest) (drop 22 rest) n c m e in
    let spelled = fields_are rest fits (omega (arith, q.fits)) in
    same_event s o (1 ∷ rest) (scn_at rest) (change_at 1 (source_at rest) (key_at rest) (len_at rest) (drop 22 rest)) (23 + len_at rest) n c m q.same
    (taken_at_put s o (source_at rest) (scn_at rest) (key_at rest) (len_at rest) rest spelled (spells_2 0 rest fits (omega (arith, q.fits))).below (spells_8 10 rest fits (omega (arith, q.fits))).below q.fits q.can)

none_of : (len : ℕ) → ◌≡◌ {A = ℕ} 2 1 ⊎ len ≡ 0 → len ≡ 0
none_of len (inl e) = absurd (omega arith)
none_of len (inr e) = e

taken_two : (s : Since) (o : Open) (rest : List ℕ) (n : ℕ) (c : Change) (m : ℕ) → IsBytes rest → event_front s o 2 rest ≡ AnEvent n c m → EventTaken s o (2 ∷ rest) n c m
unfolding number_at
taken_two s o rest n c m fits e =
    let q = seen_as_event s o 2 (source_at rest) (scn_at rest) (key_at rest) (len_at rest) (length rest) (drop 22 rest) n c m e in
    let spelled = fields_are rest fits (omega (arith, q.fits)) in
    same_event s o (2 ∷ rest) (scn_at rest) (change_at 2 (source_at rest) (key_at rest) (len_at rest) (drop 22 rest)) (23 + len_at rest) n c m q.same
    (taken_at_delete s o (source_at rest) (scn_at rest) (key_at rest) (len_at rest) rest spelled (spells_2 0 rest fits (omega (arith, q.fits))).below (spells_8 10 rest fits (omega (arith, q.fits))).below q.fits q.can
    (none_of (len_at rest) q.can.sized))

no_mark_is_an_event : (s : Since) (o : Open) (rest : List ℕ) (n : ℕ) (c : Change) (m : ℕ) → mark_front s o rest ≡ AnEvent n c m → ⊥
no_mark_is_an_event s o rest n c m e =
    let there = AMark (from_be_bytes w64 (take 8 rest)) (from_be_bytes w64 (take 8 (drop 8 rest))) in
    let tests = mark_stands s o (from_be_bytes w64 (take 8 rest)) (from_be_bytes w64 (take 8 (drop 8 rest))) in
    let p = event_then (ltb (length rest) 16) (cond tests there Refused) n c m e in
    let q = event_if tests there n c m p.1 in
    let same = q.1 in
    absurd cc

no_event_is_a_mark : (s : Since) (o : Open) (kind : ℕ) (rest : List ℕ) (n p : ℕ) → event_front s o kind rest ≡ AMark n p → ⊥
no_event_is_a_mark s o kind rest n p e =
    let there = AnEvent (scn_at rest) (change_at kind (source_at rest) (key_at rest) (len_at rest) (drop 22 rest)) (23 + len_at rest) in
    let tests = event_stands s o kind (scn_at rest) (len_at rest) in
    let short = ltb (length rest) (22 + len_at rest) in
    let a = mark_then (ltb (length rest) 22) (cond tests (cond short Unfinished there) Refused) n p e in
    let b = mark_if tests (cond short Unfinished there) n p a.1 in
    let c = mark_then short there n p b.1 in
    let same = c.1 in
    absurd cc

kind_then : (b t : Bool) (f g : Front) (n : ℕ) (c : Change) (m : ℕ) → (f ≡ AnEvent n c m → ⊥) → cond b f (cond t g Refused) ≡ AnEvent n c m → (t ≡ true) × (g ≡ AnEvent n c m)
kind_then true t f g n c m never e = absurd (never e)
kind_then false t f g n c m never e = event_if t g n c m e

kind_if : (b t : Bool) (f g : Front) (n p : ℕ) → (g ≡ AMark n p → ⊥) → cond b f (cond t g Refused) ≡ AMark n p → (b ≡ true) × (f ≡ AMark n p)
kind_if true t f g n p never e = (refl, e)
kind_if false t f g n p never e = absurd (never (mark_if t g n p e).1)

kind_of_event : (s : Since) (o : Open) (kind : ℕ) (rest : List ℕ) (n : ℕ) (c : Change) (m : ℕ) → front_of s o (kind ∷ rest) ≡ AnEvent n c m → ((kind ≡ 1) ⊎ (kind ≡ 2)) × (event_front s o kind rest ≡ AnEvent n c m)
unfolding front_of
kind_of_event s o kind rest n c m e =
    let k = kind_then (eqb kind 3) (eqb kind 1 || eqb kind 2) (mark_front s o rest) (event_front s o kind rest) n c m (no_mark_is_an_event s o rest n c m) e in
    (elim (or_cases (eqb kind 1) (eqb kind 2) k.0) [ inl put ↦ inl (eqb-true kind 1 put) | inr delete ↦ inr (eqb-true kind 2 delete) ], k.1)

-- an event that is seen is spelled so
pub event_taken : (s : Since) (o : Open) (bytes : List ℕ) (n : ℕ) (c : Change) (m : ℕ) → IsBytes bytes → front_of s o bytes ≡ AnEvent n c m → EventTaken s o bytes n c m
unfolding front_of
event_taken s o [] n c m fits e = absurd cc
event_taken s o (kind ∷ rest) n c m fits e =
    let k = kind_of_event s o kind rest n c m e in
    let behind : IsBytes rest = λ i. fits (suc i) in
    elim k.0 [
      | inl one ↦ subst (λ j. EventTaken s o (j ∷ rest) n c m) (sym one) (taken_one s o rest n c m behind (ap (λ j. event_front s o j rest) (sym one) ∙ k.1))
      | inr two ↦ subst (λ j. EventTaken s o (j ∷ rest) n c m) (sym two) (taken_two s o rest n c m behind (ap (λ j. event_front s o j rest) (sym two) ∙ k.1))
    ]

-- ---- marks

-- what the tests of a mark's numbers say
pub record MarkStands (s : Since) (o : Open) (n p : ℕ) : Type 0 where
  pub bound : n ≤ MAX_SCN
  pub order : p < n
  pub right : has_right_scn s o.scn n ≡ true
  pub chained : has_right_prev s p ≡ true

mark_can : (s : Since) (o : Open) (n p : ℕ) → mark_stands s o n p ≡ true → MarkStands s o n p
mark_can s o n p e =
    let a = and_parts (leb n MAX_SCN && ltb p n && has_right_scn s o.scn n) (has_right_prev s p) e in
    let b = and_parts (leb n MAX_SCN && ltb p n) (has_right_scn s o.scn n) a.0 in
    let c = and_parts (leb n MAX_SCN) (ltb p n) b.0 in
    record { bound = leb-true n MAX_SCN c.0; order = ltb-true p n c.1; right = b.1; chained = a.1 }

mark_does : (s : Since) (o : Open) (n p : ℕ) → MarkStands s o n p → mark_stands s o n p ≡ true
mark_does s o n p is = and_from _ _ (and_from _ _ (and_from _ _ (le-leb n MAX_SCN is.bound) (lt-ltb p n is.order)) is.right) is.chained

-- a mark that stands at the front
pub record MarkTaken (s : Since) (o : Open) (bytes : List ℕ) (n p : ℕ) : Type 0 where
  pub is : MarkStands s o n p
  pub long : 17 ≤ length bytes
  pub parts : bytes ≡ mark_bytes n p ++ drop 17 bytes

same_mark : (s : Since) (o : Open) (bytes : List ℕ) (n p k q : ℕ) → AMark n p ≡ AMark k q → MarkTaken s o bytes n p → MarkTaken s o bytes k q
same_mark s o bytes n p k q e taken =
    let a : n ≡ k = cc in
    let b : p ≡ q = cc in
    subst (λ (x : ℕ × ℕ). MarkTaken s o bytes x.0 x.1) (λ i. (a i, b i)) taken

mark_fields : (rest : List ℕ) → IsBytes rest → 16 ≤ length rest → rest ≡ to_be_bytes w64 (from_be_bytes w64 (take 8 rest)) ++ to_be_bytes w64 (from_be_bytes w64 (take 8 (drop 8 rest))) ++ drop 16 rest
unfolding number_at
mark_fields rest fits long =
    let a = (spells_8 0 rest fits (omega arith)).spelled in
    let b = (spells_8 8 rest fits (omega arith)).spelled in
    sym (
    ap (λ (x : List ℕ). x ++ to_be_bytes w64 (from_be_bytes w64 (take 8 (drop 8 rest))) ++ drop 16 rest) a
    ∙ ap (λ (x : List ℕ). take 8 rest ++ x ++ drop 16 rest) b
    ∙ append_assoc (take 8 rest) (take 8 (drop 8 rest)) (drop 16 rest)
    ∙ ap (λ (x : List ℕ). take 8 rest ++ x) (part_of 8 8 rest)
    ∙ take-append-drop 8 rest
    )

taken_three : (s : Since) (o : Open) (rest : List ℕ) (n p : ℕ) → IsBytes rest → mark_front s o rest ≡ AMark n p → MarkTaken s o (3 ∷ rest) n p
taken_three s o rest n p fits e =
    let k = from_be_bytes w64 (take 8 rest) in
    let q = from_be_bytes w64 (take 8 (drop 8 rest)) in
    let a = mark_then (ltb (length rest) 16) (cond (mark_stands s o k q) (AMark k q) Refused) n p e in
    let b = mark_if (mark_stands s o k q) (AMark k q) n p a.1 in
    let long : 16 ≤ length rest = ltb-false (length rest) 16 a.0 in
    same_mark s o (3 ∷ rest) k q n p b.1 (record { is = mark_can s o k q b.0; long = omega arith; parts = ap (λ (x : List ℕ). 3 ∷ x) (mark_fields rest fits long) })

-- a mark that is seen is spelled so
pub mark_taken : (s : Since) (o : Open) (bytes : List ℕ) (n p : ℕ) → IsBytes bytes → front_of s o bytes ≡ AMark n p → MarkTaken s o bytes n p
unfolding front_of
mark_taken s o [] n p fits e = absurd cc
mark_taken s o (kind ∷ rest) n p fits e =
    let k = kind_if (eqb kind 3) (eqb kind 1 || eqb kind 2) (mark_front s o rest) (event_front s o kind rest) n p (no_event_is_a_mark s o kind rest n p) e in
    subst (λ j. MarkTaken s o (j ∷ rest) n p) (sym (eqb-true kind 3 k.0)) (taken_three s o rest n p (λ i. fits (suc i)) k.1)

-- a mark that can stand is seen, whatever follows it
pub mark_seen : (s : Since) (o : Open) (n p : ℕ) (rest : List ℕ) → MarkStands s o n p → front_of s o (mark_bytes n p ++ rest) ≡ AMark n p
unfolding front_of
mark_seen s o n p rest is =
    let bytes = to_be_bytes w64 n ++ to_be_bytes w64 p ++ rest in
    let long : ltb (length bytes) 16 ≡ false = le-ltb _ _ (omega (arith, length-append (to_be_bytes w64 n ++ to_be_bytes w64 p) rest)) in
    let numbers : mark_front s o bytes ≡ cond (ltb (length bytes) 16) Unfinished (cond (mark_stands s o n p) (AMark n p) Refused) =
    (λ i. let k = from_be_bytes-to_be_bytes_8 n (omega (arith, is.bound)) i in let q = from_be_bytes-to_be_bytes_8 p (omega (arith, is.bound, is.order)) i in cond (ltb (length bytes) 16) Unfinished (cond (mark_stands s o k q) (AMark k q) Refused)) in
    numbers ∙ rw (long, mark_does s o n p is) refl
