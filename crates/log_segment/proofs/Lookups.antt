-- A window that is found by its SCN, and read again.
use Rattle.std.proofs.Common.{◌≡◌, inl, inr, ℕ, zero, suc, ◌+◌, ◌-◌, ◌<◌, ◌≤◌, true, false, leb, List, [], ◌∷◌, ◌++◌, length, get_or, take, drop, Option, Some, None, IfSome, refl, sym, ap, subst, ◌∙◌, append_assoc, length-append, arith}
use Rattle.std.specs.List.Sorted.{IsNonDecreasingBy, IsPartitionPoint}
use Rattle.std.proofs.lemmas.Bool.{cases_lt, leb-true, leb-false, lt-ltb, le-ltb}
use Rattle.std.proofs.lemmas.List.{take_at, drop_at, drop-drop, take-append-le, take-append-drop}
use Rattle.std.proofs.lemmas.Option.{same_Some}
use Rattle.std.specs.Int.{w32, to_be_bytes}
use Rattle.bus_types.specs.Window.{Span, span_size}
use Rattle.bus_types.specs.Timeline.{Follows, IsTimelineFrom, end_from}
use Rattle.bus_stores.specs.Log.{first_after}
use Rattle.event_codec.specs.Bytes.{window_bytes}
use Rattle.event_codec.proofs.WindowBytes.{one_window}
use Rattle.log_segment.specs.declared.segment.Entry.{Entry}
use Rattle.log_segment.specs.Image.{records, record_bytes, head_bytes, whole}
use Rattle.log_segment.specs.Looking.{ReadsOn}
use Rattle.log_segment.specs.Reading.{NoRecord, BeginsWith}
use Rattle.log_segment.specs.Segment.{RisesTo, entries}
use Rattle.log_segment.specs.Lookup.{scn_before, entry_after, FetchesAt}
use Rattle.log_segment.proofs.Images.{length-record, length-head}
use Rattle.log_segment.proofs.Records.{split_record}
use Rattle.log_segment.proofs.Scannings.{told_then}

-- ---- the search

above_at : (high low : ℕ) (es : List Entry) (j : ℕ) (d : Entry) → RisesTo high low es → j < length es → low < (get_or es j d).scn
above_at high low [] j d r lt = absurd (omega arith)
above_at high low (e ∷ es) zero d r lt = r.0
above_at high low (e ∷ es) (suc j) d r lt = omega (arith, above_at high e.scn es j d r.1 (omega arith), r.0)

-- SCNs that rise don't fall
pub in_order : (high low : ℕ) (es : List Entry) → RisesTo high low es → IsNonDecreasingBy (λ (e : Entry). e.scn) es
in_order high low [] r i j d le lt = absurd (omega arith)
in_order high low (e ∷ es) r zero zero d le lt = omega arith
in_order high low (e ∷ es) r zero (suc j) d le lt = omega (arith, above_at high e.scn es j d r.1 (omega arith))
in_order high low (e ∷ es) r (suc i) zero d le lt = absurd (omega arith)
in_order high low (e ∷ es) r (suc i) (suc j) d le lt = in_order high e.scn es r.1 i j d (omega arith) (omega arith)

rises_end : (high low : ℕ) (es : List Entry) → RisesTo high low es → low ≤ high
rises_end high low [] r = omega (arith, r)
rises_end high low (e ∷ es) r = omega (arith, r.0, rises_end high e.scn es r.1)

module _ (floor scn : ℕ) (e : Entry) (es : List Entry) where
  entry_here : scn < e.scn → entry_after floor scn (e ∷ es) ≡ Some (floor, e)
  entry_here lt = rw (lt-ltb scn e.scn lt) refl

  entry_later : e.scn ≤ scn → entry_after floor scn (e ∷ es) ≡ entry_after e.scn scn es
  entry_later le = rw (le-ltb scn e.scn le) refl

-- the place where an SCN parts entries
abbrev Parts : ℕ → List Entry → ℕ → Type 0
Parts scn es i = IsPartitionPoint (λ (e : Entry). leb e.scn scn ≡ true) (λ (e : Entry). leb e.scn scn ≡ false) es i

pub entry_in : (floor scn : ℕ) (es : List Entry) (i : ℕ) (d : Entry) → Parts scn es i → i < length es → ◌≡◌ {A = Option (ℕ × Entry)} (Some (scn_before floor i es, get_or es i d)) (entry_after floor scn es)
entry_in floor scn [] i d p lt = absurd (omega arith)
entry_in floor scn (e ∷ es) zero d p lt = sym (entry_here floor scn e es (leb-false e.scn scn (p.1 0 e (omega arith) (omega arith))))
entry_in floor scn (e ∷ es) (suc i) d p lt =
    entry_in e.scn scn es i d (λ k d low high. p.0 (suc k) d (omega arith) (omega arith), λ k d low high. p.1 (suc k) d (omega arith) (omega arith)) (omega arith)
    ∙ sym (entry_later floor scn e es (leb-true e.scn scn (p.0 0 e (omega arith) (omega arith))))

pub entry_out : (floor scn : ℕ) (es : List Entry) (i : ℕ) → Parts scn es i → length es ≤ i → ◌≡◌ {A = Option (ℕ × Entry)} None (entry_after floor scn es)
entry_out floor scn [] i p le = refl
entry_out floor scn (e ∷ es) zero p le = absurd (omega arith)
entry_out floor scn (e ∷ es) (suc i) p le =
    entry_out e.scn scn es i (λ k d low high. p.0 (suc k) d (omega arith) (omega arith), λ k d low high. p.1 (suc k) d (omega arith) (omega arith)) (omega arith)
    ∙ sym (entry_later floor scn e es (leb-true e.scn scn (p.0 0 e (omega arith) (omega arith))))

pub entry_found : (floor scn : ℕ) (es : List Entry) (i before : ℕ) (d : Entry) → Parts scn es i → i < length es → before ≡ scn_before floor i es → ◌≡◌ {A = Option (ℕ × Entry)} (Some (before, get_or es i d)) (entry_after floor scn es)
entry_found floor scn es i before d p lt is = (λ k. Some (is k, get_or es i d)) ∙ entry_in floor scn es i d p lt

before_in : (floor : ℕ) (es : List Entry) (i : ℕ) (d : Entry) → i < length es → (get_or es i d).scn ≡ scn_before floor (suc i) es
before_in floor [] i d lt = absurd (omega arith)
before_in floor (e ∷ es) zero d lt = refl
before_in floor (e ∷ es) (suc i) d lt = before_in e.scn es i d (omega arith)

pub before_at : (floor : ℕ) (es : List Entry) (i : ℕ) (d : Entry) → 0 < i → i ≤ length es → (get_or es (i - 1) d).scn ≡ scn_before floor i es
before_at floor es zero d some le = absurd (omega arith)
before_at floor es (suc i) d some le =
    let same : suc i - 1 ≡ i = omega arith in
    ap (λ (k : ℕ). (get_or es k d).scn) same ∙ before_in floor es i d (omega arith)

pub before_none : (floor : ℕ) (es : List Entry) (i : ℕ) → i ≡ 0 → floor ≡ scn_before floor i es
before_none floor es i is = sym (ap (λ (k : ℕ). scn_before floor k es) is)

some_none : {X : Type 0} (x : X) → ◌≡◌ {A = Option X} (Some x) None → ⊥
some_none x e = cc

pub none_some : {X : Type 0} (x : X) → ◌≡◌ {A = Option X} None (Some x) → ⊥
none_some x e = cc

pub some_after : (high floor scn p : ℕ) (e : Entry) (es : List Entry) → RisesTo high floor es → entry_after floor scn es ≡ Some (p, e) → (scn < e.scn) × (e.scn ≤ high)
some_after high floor scn p e [] r is = absurd (none_some (p, e) is)
some_after high floor scn p e (f ∷ es) r is = elim (cases_lt scn f.scn) [
  | inl lt ↦
      let same : (floor, f) ≡ (p, e) = same_Some (floor, f) (p, e) (sym (entry_here floor scn f es lt) ∙ is) in
      subst (λ (x : ℕ × Entry). (scn < x.1.scn) × (x.1.scn ≤ high)) same (lt, rises_end high f.scn es r.1)
  | inr le ↦ some_after high f.scn scn p e es r.1 (sym (entry_later floor scn f es le) ∙ is)
]

pub none_after : (high floor scn : ℕ) (es : List Entry) → RisesTo high floor es → entry_after floor scn es ≡ None → floor ≤ scn → high ≤ scn
none_after high floor scn [] r is low = omega (arith, r, low)
none_after high floor scn (f ∷ es) r is low = elim (cases_lt scn f.scn) [
  | inl lt ↦ absurd (some_none (floor, f) (sym (entry_here floor scn f es lt) ∙ is))
  | inr le ↦ none_after high f.scn scn es r.1 (sym (entry_later floor scn f es le) ∙ is) le
]

-- ---- the window of an entry

pub record Found (from place scn : ℕ) (ws : List Span) (p : ℕ) (e : Entry) : Type 0 where
  pub window : Span
  pub front : List Span
  pub back : List Span
  pub parts : ws ≡ front ++ window ∷ back
  pub prev_is : p ≡ end_from from front
  pub scn_is : e.scn ≡ window.scn
  pub place_is : e.place ≡ place + length (records front)
  pub first : first_after scn ws ≡ Some window

abbrev entry : ℕ → Span → Entry
entry place w = record { scn = w.scn; place = place }

first_here : (scn : ℕ) (v : Span) (ws : List Span) → scn < v.scn → first_after scn (v ∷ ws) ≡ Some v
first_here scn v ws lt = rw (lt-ltb scn v.scn lt) refl

first_later : (scn : ℕ) (v : Span) (ws : List Span) → v.scn ≤ scn → first_after scn (v ∷ ws) ≡ first_after scn ws
first_later scn v ws le = rw (le-ltb scn v.scn le) refl

pub found_entry : (from place scn : ℕ) (ws : List Span) (p : ℕ) (e : Entry) → entry_after from scn (entries place ws) ≡ Some (p, e) → Found from place scn ws p e
found_entry from place scn [] p e is = absurd (none_some (p, e) is)
found_entry from place scn (v ∷ ws) p e is = elim (cases_lt scn v.scn) [
  | inl lt ↦
      let same : (from, entry place v) ≡ (p, e) = same_Some (from, entry place v) (p, e) (sym (entry_here from scn (entry place v) (entries (place + span_size v + 5) ws) lt) ∙ is) in
      record {
        window = v;
        front = [];
        back = ws;
        parts = refl;
        prev_is = sym (ap (λ (x : ℕ × Entry). x.0) same);
        scn_is = sym (ap (λ (x : ℕ × Entry). x.1.scn) same);
        place_is = omega (arith, ap (λ (x : ℕ × Entry). x.1.place) same);
        first = first_here scn v ws lt;
      }
  | inr le ↦
      let f = found_entry v.scn (place + span_size v + 5) scn ws p e (sym (entry_later from scn (entry place v) (entries (place + span_size v + 5) ws) le) ∙ is) in
      record {
        window = f.window;
        front = v ∷ f.front;
        back = f.back;
        parts = ap (λ (l : List Span). v ∷ l) f.parts;
        prev_is = f.prev_is;
        scn_is = f.scn_is;
        place_is = omega (arith, f.place_is, length-append (record_bytes v) (records f.front), length-record v);
        first = first_later scn v ws le ∙ f.first;
      }
]

pub none_entry : (from place scn : ℕ) (ws : List Span) → entry_after from scn (entries place ws) ≡ None → first_after scn ws ≡ None
none_entry from place scn [] is = refl
none_entry from place scn (v ∷ ws) is = elim (cases_lt scn v.scn) [
  | inl lt ↦ absurd (some_none (from, entry place v) (sym (entry_here from scn (entry place v) (entries (place + span_size v + 5) ws) lt) ∙ is))
  | inr le ↦ first_later scn v ws le ∙ (none_entry v.scn (place + span_size v + 5) scn ws (sym (entry_later from scn (entry place v) (entries (place + span_size v + 5) ws) le) ∙ is))
]

pub chain_at : (from : ℕ) (front back : List Span) (w : Span) → IsTimelineFrom from (front ++ w ∷ back) → Follows (end_from from front) w
chain_at from [] back w t = t.0
chain_at from (v ∷ front) back w t = chain_at v.scn front back w t.1

records-append : (ws vs : List Span) → records (ws ++ vs) ≡ records ws ++ records vs
records-append [] vs = refl
records-append (w ∷ ws) vs = ap (λ (l : List ℕ). 165 ∷ (record_bytes w ++ l)) (records-append ws vs) ∙ ap (λ (l : List ℕ). 165 ∷ l) (sym (append_assoc (record_bytes w) (records ws) (records vs)))

module _ (from : ℕ) (front back : List Span) (w : Span) where
  whole_at : whole from (front ++ w ∷ back) ≡ whole from front ++ 165 ∷ (record_bytes w ++ records back)
  whole_at = ap (λ (l : List ℕ). 165 ∷ (head_bytes from ++ l)) (records-append front (w ∷ back)) ∙ ap (λ (l : List ℕ). 165 ∷ l) (sym (append_assoc (head_bytes from) (records front) (165 ∷ (record_bytes w ++ records back))))

  length_front : length (whole from front) ≡ 17 + length (records front)
  length_front = omega (arith, length-append (head_bytes from) (records front), length-head from)

  pub record_within : 18 + length (records front) + span_size w + 4 ≤ length (whole from (front ++ w ∷ back)) + 1
  record_within = omega (arith, ap length whole_at, length-append (whole from front) (165 ∷ (record_bytes w ++ records back)), length-append (record_bytes w) (records back), length-record w, length_front)

  pub record_at : (rest : List ℕ) → drop (18 + length (records front)) (whole from (front ++ w ∷ back) ++ rest) ≡ record_bytes w ++ (records back ++ rest)
  record_at rest =
      let before = whole from front ++ 165 ∷ [] in
      let parts : whole from (front ++ w ∷ back) ++ rest ≡ before ++ (record_bytes w ++ (records back ++ rest)) =
      ap (λ (l : List ℕ). l ++ rest) (whole_at ∙ sym (append_assoc (whole from front) (165 ∷ []) (record_bytes w ++ records back)))
      ∙ append_assoc before (record_bytes w ++ records back) rest
      ∙ ap (λ (l : List ℕ). before ++ l) (append_assoc (record_bytes w) (records back) rest) in
      ap (λ (l : List ℕ). drop (18 + length (records front)) l) parts
      ∙ drop_at before (record_bytes w ++ (records back ++ rest)) (18 + length (records front)) (omega (arith, length-append (whole from front) (165 ∷ []), length_front))

-- ---- the record at a place

-- a place's bytes begin with what is ahead
abbrev pub PartAt : ℕ → List ℕ → List ℕ → Type 0
PartAt place bytes a = (rest : List ℕ) × (drop place bytes ≡ a ++ rest)

pub one_record : (w v : Span) (x y : List ℕ) (p q : ℕ) → Follows p w → Follows q v → record_bytes w ++ x ≡ record_bytes v ++ y → w ≡ v
unfolding record_bytes
one_record w v x y p q is other same =
    let size = to_be_bytes w32 (span_size w) in
    let split = split_record size (window_bytes w ++ x) y v refl (sym (append_assoc size (window_bytes w) x) ∙ same) in
    (one_window w v x y is.within other.within split.1).0

module _ (place : ℕ) (bytes a : List ℕ) (part : PartAt place bytes a) where
  behind_part : drop (place + length a) bytes ≡ part.0
  behind_part = sym (drop-drop (length a) place bytes) ∙ ap (λ (l : List ℕ). drop (length a) l) part.1 ∙ drop_at a part.0 (length a) refl

  pub part_more : (end count : ℕ) (b : List ℕ) → ReadsOn place end count bytes a b → PartAt place bytes b
  part_more end count b on =
      let piece : b ≡ a ++ take count part.0 = on.parts ∙ ap (λ (l : List ℕ). a ++ l) (on.given ∙ ap (λ (l : List ℕ). take count l) behind_part) in
      (drop count part.0, part.1 ∙ ap (λ (l : List ℕ). a ++ l) (sym (take-append-drop count part.0)) ∙ sym (append_assoc a (take count part.0) (drop count part.0)) ∙ ap (λ (l : List ℕ). l ++ drop count part.0) (sym piece))

  module _ (end prev : ℕ) where
    pub fetched : (v : Span) → BeginsWith prev v a → FetchesAt end place prev bytes (Some v)
    fetched v begins w more follows stands fits =
        ap Some (one_record v w (begins.rest ++ part.0) more prev prev begins.follows follows
        (sym (append_assoc (record_bytes v) begins.rest part.0) ∙ ap (λ (l : List ℕ). l ++ part.0) (sym begins.parts) ∙ sym part.1 ∙ stands))

    pub not_there : ((more : List ℕ) → NoRecord prev (a ++ more)) → FetchesAt end place prev bytes None
    not_there none w more follows stands fits = absurd (none part.0 w more follows (sym part.1 ∙ stands))

    pub all_read : (count : ℕ) (b : List ℕ) → ReadsOn place end count bytes a b → count ≡ 0 → NoRecord prev a → FetchesAt end place prev bytes None
    all_read count b on none_more none w more follows stands fits =
        let size = length (record_bytes w) in
        let long : size ≤ length a = elim (cases_lt (place + length a) end) [
          | inl left ↦ absurd (omega (arith, none_more, on.some left))
          | inr done ↦ omega (arith, done, fits, length-record w)
        ] in
        let front : record_bytes w ≡ take size a = sym (take_at (record_bytes w) more size refl) ∙ ap (λ (l : List ℕ). take size l) (sym stands ∙ part.1) ∙ take-append-le size a part.0 long in
        absurd (none w (drop size a) follows (sym (take-append-drop size a) ∙ ap (λ (l : List ℕ). l ++ drop size a) (sym front)))

pub no_part : (seen : Option (List ℕ)) (end place : ℕ) (a : List ℕ) → a ≡ [] → IfSome seen (λ bytes. end ≤ length bytes → PartAt place bytes a)
no_part None end place a none = tt
no_part (Some bytes) end place a none = λ is. (drop place bytes, ap (λ (l : List ℕ). l ++ drop place bytes) (sym none))

module _ (seen now : Option (List ℕ)) (same : now ≡ seen) (end place : ℕ) (a : List ℕ) (so_far : IfSome seen (λ bytes. end ≤ length bytes → PartAt place bytes a)) where
  pub part_on : (count : ℕ) (b : List ℕ) → IfSome now (λ bytes. end ≤ length bytes → ReadsOn place end count bytes a b) → IfSome seen (λ bytes. end ≤ length bytes → PartAt place bytes b)
  part_on count b on = told_then seen now (λ bytes. end ≤ length bytes → PartAt place bytes a) (λ bytes. end ≤ length bytes → ReadsOn place end count bytes a b) (λ bytes. end ≤ length bytes → PartAt place bytes b) same
      (λ bytes p q is. part_more place bytes a (p is) end count b (q is)) so_far on

  pub told_all : (prev count : ℕ) (b : List ℕ) → count ≡ 0 → NoRecord prev a → IfSome now (λ bytes. end ≤ length bytes → ReadsOn place end count bytes a b) → IfSome seen (λ bytes. end ≤ length bytes → FetchesAt end place prev bytes None)
  told_all prev count b none_more none on = told_then seen now (λ bytes. end ≤ length bytes → PartAt place bytes a) (λ bytes. end ≤ length bytes → ReadsOn place end count bytes a b) (λ bytes. end ≤ length bytes → FetchesAt end place prev bytes None) same
      (λ bytes p q is. all_read place bytes a (p is) end prev count b (q is) none_more none) so_far on

module _ (end place : ℕ) (a : List ℕ) where
  pub told_there : (seen : Option (List ℕ)) (prev : ℕ) (v : Span) → BeginsWith prev v a → IfSome seen (λ bytes. end ≤ length bytes → PartAt place bytes a) → IfSome seen (λ bytes. end ≤ length bytes → FetchesAt end place prev bytes (Some v))
  told_there None prev v begins so_far = tt
  told_there (Some bytes) prev v begins so_far = λ is. fetched place bytes a (so_far is) end prev v begins

  pub told_not : (seen : Option (List ℕ)) (prev : ℕ) → ((more : List ℕ) → NoRecord prev (a ++ more)) → IfSome seen (λ bytes. end ≤ length bytes → PartAt place bytes a) → IfSome seen (λ bytes. end ≤ length bytes → FetchesAt end place prev bytes None)
  told_not None prev none so_far = tt
  told_not (Some bytes) prev none so_far = λ is. not_there place bytes a (so_far is) end prev none
