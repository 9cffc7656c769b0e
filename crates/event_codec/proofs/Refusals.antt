-- A complete head that can't stand doesn't stand, whatever follows it.
use Rattle.std.proofs.Common.{◌≡◌, ℕ, ◌+◌, ◌≤◌, Bool, true, false, cond, eqb, ltb, ◌||◌, List, [], ◌∷◌, ◌++◌, length, take, drop, refl, ap, ◌∙◌, append_assoc, arith}
use Rattle.std.specs.Int.{w32, w64, from_be_bytes}
use Rattle.std.proofs.lemmas.Bool.{ltb-false, le-ltb}
use Rattle.std.proofs.lemmas.List.{length-append, take-append-le, drop-append-le, length-drop}
use Rattle.bus_types.specs.declared.change.Change.{Change}
use Rattle.event_codec.specs.Bytes.{changes_bytes}
use Rattle.event_codec.specs.Items.{Since, Open, open_of, event_stands, mark_stands, Front, event_front, mark_front, front_of}
use Rattle.event_codec.specs.Items.Front.{Unfinished, Refused, AnEvent, AMark}
use Rattle.event_codec.specs.Streams.{Behind}

-- what is refused passed the first test and failed the second one
refused_then : (b : Bool) (f : Front) → cond b Unfinished f ≡ Refused → (b ≡ false) × (f ≡ Refused)
refused_then true f e = absurd cc
refused_then false f e = (refl, e)

event_refused : (b short : Bool) (n : ℕ) (c : Change) (m : ℕ) → cond b (cond short Unfinished (AnEvent n c m)) Refused ≡ Refused → b ≡ false
event_refused true true n c m e = absurd cc
event_refused true false n c m e = absurd cc
event_refused false short n c m e = refl

mark_refused : (b : Bool) (n p : ℕ) → cond b (AMark n p) Refused ≡ Refused → b ≡ false
mark_refused true n p e = absurd cc
mark_refused false n p e = refl

-- bytes at a place are the same, whatever follows
part_more : (n k : ℕ) (rest piece : List ℕ) → n + k ≤ length rest → take k (drop n (rest ++ piece)) ≡ take k (drop n rest)
part_more n k rest piece long = ap (take k) (drop-append-le n rest piece (omega arith)) ∙ take-append-le k (drop n rest) piece (omega (arith, length-drop n rest))

mark_refused_more : (s : Since) (o : Open) (rest piece : List ℕ) → mark_front s o rest ≡ Refused → mark_front s o (rest ++ piece) ≡ Refused
mark_refused_more s o rest piece e =
    let stands : List ℕ → List ℕ → Bool = λ scn prev. mark_stands s o (from_be_bytes w64 scn) (from_be_bytes w64 prev) in
    let seen : List ℕ → List ℕ → Front = λ scn prev. AMark (from_be_bytes w64 scn) (from_be_bytes w64 prev) in
    let a = refused_then (ltb (length rest) 16) (cond (stands (take 8 rest) (take 8 (drop 8 rest))) (seen (take 8 rest) (take 8 (drop 8 rest))) Refused) e in
    let long : 16 ≤ length rest = ltb-false (length rest) 16 a.0 in
    let longer : ltb (length (rest ++ piece)) 16 ≡ false = le-ltb _ _ (omega (arith, length-append rest piece)) in
    let scn : take 8 (rest ++ piece) ≡ take 8 rest = part_more 0 8 rest piece (omega arith) in
    let prev : take 8 (drop 8 (rest ++ piece)) ≡ take 8 (drop 8 rest) = part_more 8 8 rest piece (omega arith) in
    (λ i. cond (longer i) Unfinished (cond (stands (scn i) (prev i)) (seen (scn i) (prev i)) Refused)) ∙ a.1

event_refused_more : (s : Since) (o : Open) (kind : ℕ) (rest piece : List ℕ) → event_front s o kind rest ≡ Refused → event_front s o kind (rest ++ piece) ≡ Refused
event_refused_more s o kind rest piece e =
    let stands : List ℕ → List ℕ → Bool = λ scn len. event_stands s o kind (from_be_bytes w64 scn) (from_be_bytes w32 len) in
    let a = refused_then (ltb (length rest) 22) _ e in
    let b = event_refused (stands (take 8 (drop 2 rest)) (take 4 (drop 18 rest))) _ _ _ _ a.1 in
    let long : 22 ≤ length rest = ltb-false (length rest) 22 a.0 in
    let longer : ltb (length (rest ++ piece)) 22 ≡ false = le-ltb _ _ (omega (arith, length-append rest piece)) in
    let scn : take 8 (drop 2 (rest ++ piece)) ≡ take 8 (drop 2 rest) = part_more 2 8 rest piece (omega arith) in
    let len : take 4 (drop 18 (rest ++ piece)) ≡ take 4 (drop 18 rest) = part_more 18 4 rest piece (omega arith) in
    let same : stands (take 8 (drop 2 (rest ++ piece))) (take 4 (drop 18 (rest ++ piece))) ≡ false = (λ i. stands (scn i) (len i)) ∙ b in
    rw (longer, same) refl

refused_by_kind : (mark event : Bool) (f g h k : Front) → (f ≡ Refused → h ≡ Refused) → (g ≡ Refused → k ≡ Refused) → cond mark f (cond event g Refused) ≡ Refused → cond mark h (cond event k Refused) ≡ Refused
refused_by_kind true event f g h k one other e = one e
refused_by_kind false true f g h k one other e = other e
refused_by_kind false false f g h k one other e = refl

pub refused_more : (s : Since) (o : Open) (part piece : List ℕ) → front_of s o part ≡ Refused → front_of s o (part ++ piece) ≡ Refused
unfolding front_of
refused_more s o [] piece e = absurd cc
refused_more s o (kind ∷ rest) piece e =
    refused_by_kind (eqb kind 3) (eqb kind 1 || eqb kind 2) (mark_front s o rest) (event_front s o kind rest) (mark_front s o (rest ++ piece)) (event_front s o kind (rest ++ piece))
    (mark_refused_more s o rest piece) (event_refused_more s o kind rest piece) e

-- so what stands behind windows stays at fault, at the same place
abbrev pub behind_more : (s : Since) (rest piece : List ℕ) → Behind s rest Refused → Behind s (rest ++ piece) Refused
behind_more s rest piece behind = record {
  scn = behind.scn;
  changes = behind.changes;
  part = behind.part ++ piece;
  bytes = ap (λ (x : List ℕ). x ++ piece) behind.bytes ∙ append_assoc (changes_bytes behind.scn behind.changes) behind.part piece;
  begins = behind.begins;
  stops = refused_more s (open_of behind.scn behind.changes) behind.part piece behind.stops;
}
