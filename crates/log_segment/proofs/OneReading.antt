-- The bytes of a segment are read in one way.
use Rattle.std.proofs.Common.{◌≡◌, ◌⊎◌, inl, inr, ℕ, ◌+◌, ◌≤◌, List, [], ◌∷◌, ◌++◌, length, take, drop, codes, Option, Some, None, IfSome, Result, Ok, Err, IfOk, refl, sym, ap, subst, ◌∙◌, append_assoc, arith}
use Rattle.std.proofs.lemmas.List.{append-nil, take_at, drop_at}
use Rattle.std.proofs.lemmas.Nat.{from_be_bytes-to_be_bytes_8}
use Rattle.std.specs.Int.{w64, from_be_bytes, to_be_bytes}
use Rattle.bus_types.specs.declared.limits.TheConstants.{MAX_SCN}
use Rattle.bus_types.specs.Window.{Span}
use Rattle.bus_types.specs.Timeline.{Follows, IsTimelineFrom, end_from}
use Rattle.log_segment.specs.Image.{HoldsInUse, records, record_bytes, head_bytes, whole, Ends, IsFree}
use Rattle.log_segment.specs.Reading.{NoRecord}
use Rattle.log_segment.specs.Faults.{IsNothing, HasNoTag, HasNoFloor, HasNoGate, HasNoRecord, IsBadAt}
use Rattle.log_segment.specs.Opening.{StandsAs, Finds, Opens}
use Rattle.log_segment.specs.declared.segment.SegmentFault.{SegmentFault}
use Rattle.log_disk.specs.Disk.{DiskState}
use Rattle.log_segment.specs.Segment.{SegmentParts, SegmentState, told, Stands, StandsFree}
use Rattle.log_segment.proofs.Lookups.{one_record}

-- ---- lists

not_nil : {X : Type 0} (x : X) (xs : List X) → [] ≡ x ∷ xs → ⊥
not_nil x xs e = cc

first_of : (d : ℕ) (xs : List ℕ) → ℕ
first_of d [] = d
first_of d (x ∷ xs) = x

same_first : (x y : ℕ) (xs ys : List ℕ) → x ∷ xs ≡ y ∷ ys → x ≡ y
unfolding first_of
same_first x y xs ys e = ap (first_of 0) e

same_rest : (x y : ℕ) (xs ys : List ℕ) → x ∷ xs ≡ y ∷ ys → xs ≡ ys
same_rest x y xs ys e = ap (λ (l : List ℕ). drop 1 l) e

-- ---- what may stand behind the records of a segment

-- nothing, a closed gate, or an open one and no record
abbrev IsEnd : ℕ → List ℕ → Type 0
IsEnd p tail = (tail ≡ []) ⊎ Ends [] tail ⊎ ((rest : List ℕ) × (tail ≡ 165 ∷ rest) × NoRecord p rest)

no_more : (p : ℕ) (tail : List ℕ) (v : Span) (others : List ℕ) → Follows p v → IsEnd p tail → tail ≡ 165 ∷ (record_bytes v ++ others) → ⊥
no_more p tail v others follows end is = elim end [
  | inl none ↦ not_nil 165 (record_bytes v ++ others) (sym none ∙ is)
  | inr (inl shut) ↦ shut.closed (same_first shut.gate 165 shut.rest (record_bytes v ++ others) (sym shut.parts ∙ is))
  | inr (inr wrong) ↦ wrong.2 v others follows (same_rest 165 165 wrong.0 (record_bytes v ++ others) (sym wrong.1 ∙ is))
]

record_first : (w : Span) (ws : List Span) (tail : List ℕ) → records (w ∷ ws) ++ tail ≡ 165 ∷ (record_bytes w ++ (records ws ++ tail))
record_first w ws tail = ap (λ (l : List ℕ). 165 ∷ l) (append_assoc (record_bytes w) (records ws) tail)

one_chain : (p : ℕ) (ws vs : List Span) (t u : List ℕ) → IsTimelineFrom p ws → IsTimelineFrom p vs → IsEnd (end_from p ws) t → IsEnd (end_from p vs) u → records ws ++ t ≡ records vs ++ u → (ws ≡ vs) × (t ≡ u)
one_chain p [] [] t u a b e f same = (refl, same)
one_chain p [] (v ∷ vs) t u a b e f same = absurd (no_more p t v (records vs ++ u) b.0 e (same ∙ record_first v vs u))
one_chain p (w ∷ ws) [] t u a b e f same = absurd (no_more p u w (records ws ++ t) a.0 f (sym same ∙ record_first w ws t))
one_chain p (w ∷ ws) (v ∷ vs) t u a b e f same =
    let records_same : record_bytes w ++ (records ws ++ t) ≡ record_bytes v ++ (records vs ++ u) = same_rest 165 165 _ _ (sym (record_first w ws t) ∙ same ∙ record_first v vs u) in
    let one : w ≡ v = one_record w v (records ws ++ t) (records vs ++ u) p p a.0 b.0 records_same in
    let behind : records ws ++ t ≡ records vs ++ u =
    sym (drop_at (record_bytes w) (records ws ++ t) (length (record_bytes w)) refl)
    ∙ ap (λ (l : List ℕ). drop (length (record_bytes w)) l) records_same
    ∙ drop_at (record_bytes v) (records vs ++ u) (length (record_bytes w)) (ap (λ (x : Span). length (record_bytes x)) (sym one)) in
    let rest = one_chain w.scn ws vs t u a.1 (subst (λ (x : Span). IsTimelineFrom x.scn vs) (sym one) b.1) e (subst (λ (x : Span). IsEnd (end_from x.scn vs) u) (sym one) f) behind in
    ((λ i. one i ∷ rest.0 i), rest.1)

-- ---- the front

abbrev tag : List ℕ
tag = codes "DBUSLOG1"

-- bytes were read as these windows and this end
record Read (bytes : List ℕ) (from : ℕ) (ws : List Span) (tail : List ℕ) : Type 0 where
  low : from ≤ MAX_SCN
  chained : IsTimelineFrom from ws
  parts : bytes ≡ whole from ws ++ tail
  ended : IsEnd (end_from from ws) tail

module _ (from : ℕ) (ws : List Span) (tail : List ℕ) where
  behind_tag : whole from ws ++ tail ≡ 165 ∷ (tag ++ (to_be_bytes w64 from ++ (records ws ++ tail)))
  unfolding head_bytes
  behind_tag = ap (λ (l : List ℕ). 165 ∷ l) (append_assoc (head_bytes from) (records ws) tail ∙ append_assoc tag (to_be_bytes w64 from) (records ws ++ tail))

module _ (bytes : List ℕ) (from other : ℕ) (ws vs : List Span) (t u : List ℕ) (a : Read bytes from ws t) (b : Read bytes other vs u) where
  numbers_same : to_be_bytes w64 from ++ (records ws ++ t) ≡ to_be_bytes w64 other ++ (records vs ++ u)
  numbers_same = ap (λ (l : List ℕ). drop 9 l) (sym (behind_tag from ws t) ∙ sym a.parts ∙ b.parts ∙ behind_tag other vs u)

  floors : from ≡ other
  floors =
      let spelled : to_be_bytes w64 from ≡ to_be_bytes w64 other =
      sym (take_at (to_be_bytes w64 from) (records ws ++ t) 8 refl) ∙ ap (λ (l : List ℕ). take 8 l) numbers_same ∙ take_at (to_be_bytes w64 other) (records vs ++ u) 8 refl in
      sym (from_be_bytes-to_be_bytes_8 from (omega (arith, a.low))) ∙ ap (from_be_bytes w64) spelled ∙ from_be_bytes-to_be_bytes_8 other (omega (arith, b.low))

  chains : records ws ++ t ≡ records vs ++ u
  chains = sym (drop_at (to_be_bytes w64 from) (records ws ++ t) 8 refl) ∙ ap (λ (l : List ℕ). drop 8 l) numbers_same ∙ drop_at (to_be_bytes w64 other) (records vs ++ u) 8 refl

  one_read : (from ≡ other) × (ws ≡ vs) × (t ≡ u)
  one_read =
      let same = one_chain from ws vs t u a.chained (subst (λ (p : ℕ). IsTimelineFrom p vs) (sym floors) b.chained) a.ended (subst (λ (p : ℕ). IsEnd (end_from p vs) u) (sym floors) b.ended) chains in
      (floors, same.0, same.1)

-- ---- what each reading is

read_in_use : (bytes : List ℕ) (from : ℕ) (ws : List Span) (h : HoldsInUse from ws bytes) → Read bytes from ws (h.ends.gate ∷ h.ends.rest)
read_in_use bytes from ws h = record { low = h.low; chained = h.chained; parts = h.ends.parts; ended = inr (inl (record { gate = h.ends.gate; rest = h.ends.rest; closed = h.ends.closed; parts = refl })) }

read_no_gate : (place : ℕ) (bytes : List ℕ) (h : HasNoGate place bytes) → Read bytes h.floor h.windows []
read_no_gate place bytes h = record { low = h.low; chained = h.chained; parts = h.parts ∙ sym (append-nil (whole h.floor h.windows)); ended = inl refl }

read_no_record : (place : ℕ) (bytes : List ℕ) (h : HasNoRecord place bytes) → Read bytes h.floor h.windows (165 ∷ h.rest)
read_no_record place bytes h = record { low = h.low; chained = h.chained; parts = h.parts; ended = inr (inr (h.rest, refl, h.none)) }

module _ (bytes : List ℕ) (place : ℕ) where
  -- a fault before the records
  not_early : (from : ℕ) (ws : List Span) (t : List ℕ) → Read bytes from ws t → IsNothing place bytes ⊎ HasNoTag place bytes ⊎ HasNoFloor place bytes → ⊥
  not_early from ws t read early = elim early [
    | inl nothing ↦ not_nil 165 _ (sym nothing.none ∙ read.parts ∙ behind_tag from ws t)
    | inr (inl no_tag) ↦ no_tag.wrong _ (same_rest 165 165 no_tag.rest _ (sym no_tag.parts ∙ read.parts ∙ behind_tag from ws t))
    | inr (inr no_floor) ↦ no_floor.wrong from (records ws ++ t) read.low (ap (λ (l : List ℕ). drop 9 l) (sym no_floor.parts ∙ read.parts ∙ behind_tag from ws t))
  ]

pub windows_one : (bytes : List ℕ) (from other : ℕ) (ws vs : List Span) → HoldsInUse from ws bytes → HoldsInUse other vs bytes → (from ≡ other) × (ws ≡ vs)
windows_one bytes from other ws vs a b =
    let one = one_read bytes from other ws vs _ _ (read_in_use bytes from ws a) (read_in_use bytes other vs b) in
    (one.0, one.1)

pub not_free : (bytes : List ℕ) (from : ℕ) (ws : List Span) → HoldsInUse from ws bytes → IsFree bytes → ⊥
not_free bytes from ws h free = free.closed (same_first free.gate 165 free.rest _ (sym free.parts ∙ h.ends.parts ∙ behind_tag from ws (h.ends.gate ∷ h.ends.rest)))

pub not_bad : (bytes : List ℕ) (from place : ℕ) (ws : List Span) → HoldsInUse from ws bytes → IsBadAt place bytes → ⊥
not_bad bytes from place ws h bad = elim bad [
  | inl nothing ↦ not_early bytes place from ws _ (read_in_use bytes from ws h) (inl nothing)
  | inr (inl no_tag) ↦ not_early bytes place from ws _ (read_in_use bytes from ws h) (inr (inl no_tag))
  | inr (inr (inl no_floor)) ↦ not_early bytes place from ws _ (read_in_use bytes from ws h) (inr (inr no_floor))
  | inr (inr (inr (inl no_gate))) ↦ not_nil h.ends.gate h.ends.rest (sym (one_read bytes from no_gate.floor ws no_gate.windows _ _ (read_in_use bytes from ws h) (read_no_gate place bytes no_gate)).2)
  | inr (inr (inr (inr no_record))) ↦ h.ends.closed (same_first h.ends.gate 165 h.ends.rest no_record.rest (one_read bytes from no_record.floor ws no_record.windows _ _ (read_in_use bytes from ws h) (read_no_record place bytes no_record)).2)
]

pub free_not_bad : (bytes : List ℕ) (place : ℕ) → IsFree bytes → IsBadAt place bytes → ⊥
free_not_bad bytes place free bad = elim bad [
  | inl nothing ↦ not_nil free.gate free.rest (sym nothing.none ∙ free.parts)
  | inr (inl no_tag) ↦ free.closed (same_first free.gate 165 free.rest no_tag.rest (sym free.parts ∙ no_tag.parts))
  | inr (inr (inl no_floor)) ↦ free.closed (same_first free.gate 165 free.rest _ (sym free.parts ∙ no_floor.parts))
  | inr (inr (inr (inl no_gate))) ↦ free.closed (same_first free.gate 165 free.rest _ (sym free.parts ∙ no_gate.parts))
  | inr (inr (inr (inr no_record))) ↦ free.closed (same_first free.gate 165 free.rest _ (sym free.parts ∙ no_record.parts ∙ behind_tag no_record.floor no_record.windows (165 ∷ no_record.rest)))
]

-- ---- the place of a fault

module _ (bytes : List ℕ) (place other : ℕ) where
  -- a fault before the records, and any
  early_place : IsNothing place bytes ⊎ HasNoTag place bytes ⊎ HasNoFloor place bytes → IsBadAt other bytes → place ≡ other
  early_place (inl a) (inl b) = a.place_is ∙ sym b.place_is
  early_place (inl a) (inr (inl b)) = absurd (not_nil 165 b.rest (sym a.none ∙ b.parts))
  early_place (inl a) (inr (inr (inl b))) = absurd (not_nil 165 _ (sym a.none ∙ b.parts))
  early_place (inr (inl a)) (inl b) = absurd (not_nil 165 a.rest (sym b.none ∙ a.parts))
  early_place (inr (inl a)) (inr (inl b)) = a.place_is ∙ sym b.place_is
  early_place (inr (inl a)) (inr (inr (inl b))) = absurd (a.wrong b.rest (same_rest 165 165 a.rest (tag ++ b.rest) (sym a.parts ∙ b.parts)))
  early_place (inr (inr a)) (inl b) = absurd (not_nil 165 _ (sym b.none ∙ a.parts))
  early_place (inr (inr a)) (inr (inl b)) = absurd (b.wrong a.rest (same_rest 165 165 b.rest (tag ++ a.rest) (sym b.parts ∙ a.parts)))
  early_place (inr (inr a)) (inr (inr (inl b))) = a.place_is ∙ sym b.place_is
  early_place early (inr (inr (inr (inl b)))) = absurd (not_early bytes place b.floor b.windows [] (read_no_gate other bytes b) early)
  early_place early (inr (inr (inr (inr b)))) = absurd (not_early bytes place b.floor b.windows (165 ∷ b.rest) (read_no_record other bytes b) early)

  late_gate : HasNoGate place bytes → HasNoGate other bytes → place ≡ other
  late_gate a b =
      let one = one_read bytes a.floor b.floor a.windows b.windows [] [] (read_no_gate place bytes a) (read_no_gate other bytes b) in
      a.place_is ∙ (λ i. length (whole (one.0 i) (one.1 i))) ∙ sym b.place_is

  late_record : HasNoRecord place bytes → HasNoRecord other bytes → place ≡ other
  late_record a b =
      let one = one_read bytes a.floor b.floor a.windows b.windows _ _ (read_no_record place bytes a) (read_no_record other bytes b) in
      a.place_is ∙ (λ i. length (whole (one.0 i) (one.1 i)) + 1) ∙ sym b.place_is

  never_both : HasNoGate place bytes → HasNoRecord other bytes → ⊥
  never_both a b = not_nil 165 b.rest (one_read bytes a.floor b.floor a.windows b.windows [] (165 ∷ b.rest) (read_no_gate place bytes a) (read_no_record other bytes b)).2

pub place_one : (bytes : List ℕ) (place other : ℕ) → IsBadAt place bytes → IsBadAt other bytes → place ≡ other
place_one bytes place other (inl a) b = early_place bytes place other (inl a) b
place_one bytes place other (inr (inl a)) b = early_place bytes place other (inr (inl a)) b
place_one bytes place other (inr (inr (inl a))) b = early_place bytes place other (inr (inr a)) b
place_one bytes place other a (inl b) = sym (early_place bytes other place (inl b) a)
place_one bytes place other a (inr (inl b)) = sym (early_place bytes other place (inr (inl b)) a)
place_one bytes place other a (inr (inr (inl b))) = sym (early_place bytes other place (inr (inr b)) a)
place_one bytes place other (inr (inr (inr (inl a)))) (inr (inr (inr (inl b)))) = late_gate bytes place other a b
place_one bytes place other (inr (inr (inr (inl a)))) (inr (inr (inr (inr b)))) = absurd (never_both bytes place other a b)
place_one bytes place other (inr (inr (inr (inr a)))) (inr (inr (inr (inl b)))) = absurd (never_both bytes other place b a)
place_one bytes place other (inr (inr (inr (inr a)))) (inr (inr (inr (inr b)))) = late_record bytes place other a b

-- ---- of bytes that a crash left, an opening gives the windows that they hold, whatever it was that left them

pub left_windows : (bytes : List ℕ) (from : ℕ) (ws : List Span) (s : SegmentState) → HoldsInUse from ws bytes → StandsAs bytes s → Stands from ws s
left_windows bytes from ws s h (inl free) = absurd (not_free bytes from ws h free.0)
left_windows bytes from ws s h (inr (other, vs, ends, stands)) =
    let one = windows_one bytes other from vs ws (record { low = stands.low; chained = stands.chained; ends = ends }) h in
    subst (λ (p : ℕ × List Span). Stands p.0 p.1 s) (λ i. (one.0 i, one.1 i)) stands

pub left_free : (bytes : List ℕ) (s : SegmentState) → IsFree bytes → StandsAs bytes s → StandsFree s
left_free bytes s free (inl stands) = stands.1
left_free bytes s free (inr (other, vs, ends, stands)) = absurd (not_free bytes other vs (record { low = stands.low; chained = stands.chained; ends = ends }) free)

finds : (bytes : List ℕ) (s : SegmentState) → StandsAs bytes s → Finds bytes s
finds bytes s stands = record { windows = λ from ws h. left_windows bytes from ws s h stands; free = λ free. left_free bytes s free stands }

finds_told : (seen : Option (List ℕ)) (s : SegmentState) → IfSome seen (λ bytes. StandsAs bytes s) → IfSome seen (λ bytes. Finds bytes s)
finds_told None s stands = tt
finds_told (Some bytes) s stands = finds bytes s stands

pub opens_finds : {D : Type 0} (st : D → DiskState) (disk : D) (r : Result (SegmentParts D) (SegmentFault × D)) → Opens st disk r → IfOk r (λ s. IfSome (st disk).seen (λ bytes. Finds bytes (told st s)))
opens_finds st disk (Ok s) opened = finds_told (st disk).seen (told st s) opened.stands
opens_finds st disk (Err x) opened = tt
