-- A window that has begun, and the event or the mark that stands behind its events.
use Rattle.std.proofs.Common.{◌≡◌, ℕ, ◌+◌, ◌<◌, ◌≤◌, true, List, [], ◌∷◌, ◌++◌, length, take, drop, Some, None, refl, sym, ap, subst, ◌∙◌, append_assoc, arith}
use Rattle.std.proofs.lemmas.Bool.{ltb-true, eqb-true}
use Rattle.std.proofs.lemmas.List.{append-nil, take_at, drop_at, length-append, length-drop}
use Rattle.bus_types.specs.declared.change.Key.{Key}
use Rattle.bus_types.specs.declared.change.Key.TheVariants.{Long}
use Rattle.bus_types.specs.declared.change.Change.{Change}
use Rattle.bus_types.specs.declared.limits.TheConstants.{MAX_SCN, MAX_CHANGES, MAX_WINDOW}
use Rattle.bus_types.specs.Change.{IsChange, AreChanges, head_size, change_size, changes_size}
use Rattle.event_codec.specs.Bytes.{Event, IsEvent, event_bytes, mark_bytes, changes_bytes, window_bytes}
use Rattle.event_codec.proofs.Numbers.{IsBytes, IsBytes-drop}
use Rattle.event_codec.proofs.EventBytes.{event_length}
use Rattle.event_codec.specs.Items.{Since, Open, open_of, has_right_scn, Front, front_of}
use Rattle.event_codec.specs.Items.Front.{AnEvent, AMark}
use Rattle.event_codec.specs.Streams.{Comes, Begins, Begun, Behind}
use Rattle.event_codec.proofs.Fronts.{event_taken, mark_taken}

abbrev pub event : ℕ → Change → Event
event n c = record { scn = n; change = c }

pub is_event : (n : ℕ) (c : Change) → 0 < n → n ≤ MAX_SCN → IsChange c → IsEvent (event n c)
is_event n c positive bound is = record { positive = positive; scn = bound; source = is.source; key = is.key; payload = is.payload }

-- ---- one more change

head_is : (k : Key) → head_size k ≡ 23
head_is (Long n) = refl

pub change_positive : (c : Change) → 0 < change_size c
change_positive c = omega (arith, head_is c.key)

pub changes_bytes-push : (n : ℕ) (cs : List Change) (c : Change) → changes_bytes n (cs ++ c ∷ []) ≡ changes_bytes n cs ++ event_bytes (event n c)
changes_bytes-push n [] c = append-nil (event_bytes (event n c))
changes_bytes-push n (d ∷ cs) c = ap (λ (x : List ℕ). event_bytes (event n d) ++ x) (changes_bytes-push n cs c) ∙ sym (append_assoc (event_bytes (event n d)) (changes_bytes n cs) (event_bytes (event n c)))

pub changes_size-append : (cs ds : List Change) → changes_size (cs ++ ds) ≡ changes_size cs + changes_size ds
changes_size-append [] ds = omega arith
changes_size-append (c ∷ cs) ds = omega (arith, changes_size-append cs ds)

pub changes_length : (n : ℕ) (cs : List Change) → length (changes_bytes n cs) ≡ changes_size cs
changes_length n [] = refl
changes_length n (c ∷ cs) = omega (arith, length-append (event_bytes (event n c)) (changes_bytes n cs), event_length (event n c), changes_length n cs)

pub are_changes_push : (cs : List Change) (c : Change) → AreChanges cs → IsChange c → AreChanges (cs ++ c ∷ [])
are_changes_push [] c are is = (is, tt)
are_changes_push (d ∷ cs) c are is = (are.0, are_changes_push cs c are.1 is)

pub open_count : (n : ℕ) (cs : List Change) → (open_of n cs).count ≡ length cs
open_count n [] = refl
open_count n (c ∷ cs) = refl

pub open_size : (n : ℕ) (cs : List Change) → (open_of n cs).size ≡ changes_size cs
open_size n [] = refl
open_size n (c ∷ cs) = refl

open_scn-push : (n : ℕ) (cs : List Change) (c : Change) → (open_of n (cs ++ c ∷ [])).scn ≡ Some n
open_scn-push n [] c = refl
open_scn-push n (d ∷ cs) c = refl

pub open-push : (n : ℕ) (cs : List Change) (c : Change) → record { scn = Some n; count = length cs + 1; size = changes_size cs + change_size c } ≡ open_of n (cs ++ c ∷ [])
open-push n cs c =
    let scn = sym (open_scn-push n cs c) in
    let count : length cs + 1 ≡ (open_of n (cs ++ c ∷ [])).count = omega (arith, open_count n (cs ++ c ∷ []), length-append cs (c ∷ [])) in
    let size : changes_size cs + change_size c ≡ (open_of n (cs ++ c ∷ [])).size = omega (arith, open_size n (cs ++ c ∷ []), changes_size-append cs (c ∷ [])) in
    (λ i. record { scn = scn i; count = count i; size = size i })

-- the SCN of the item that stands behind the events is also theirs
pub right_scn : (s : Since) (k : ℕ) (cs : List Change) (n : ℕ) → Begins s k cs → has_right_scn s (open_of k cs).scn n ≡ true → (s.floor < n) × (changes_bytes k cs ≡ changes_bytes n cs)
right_scn s k [] n begins right = (ltb-true s.floor n right, refl)
right_scn s k (c ∷ cs) n begins right =
    let same : n ≡ k = eqb-true n k right in
    let above : s.floor < k = begins.above (omega arith) in
    (omega (arith, same, above), ap (λ j. changes_bytes j (c ∷ cs)) (sym same))

-- ---- what stands behind the events

module _ (s : Since) (o : Open) (rest : List ℕ) (begun : Begun s o rest) where
  pub size_is : o.size ≡ changes_size begun.changes
  size_is = ap (λ (x : Open). x.size) begun.known ∙ open_size begun.scn begun.changes

  count_is : o.count ≡ length begun.changes
  count_is = ap (λ (x : Open). x.count) begun.known ∙ open_count begun.scn begun.changes

  pub length_is : length (changes_bytes begun.scn begun.changes) ≡ o.size
  length_is = changes_length begun.scn begun.changes ∙ sym size_is

  pub behind_is : drop o.size rest ≡ begun.part
  behind_is = ap (drop o.size) begun.parts ∙ drop_at (changes_bytes begun.scn begun.changes) begun.part o.size length_is

  events_are : take o.size rest ≡ changes_bytes begun.scn begun.changes
  events_are = ap (take o.size) begun.parts ∙ take_at (changes_bytes begun.scn begun.changes) begun.part o.size length_is

  pub fits : o.size ≤ length rest
  fits = omega (arith, length_is, ap length begun.parts, length-append (changes_bytes begun.scn begun.changes) begun.part)

  pub small : o.size + 17 ≤ MAX_WINDOW
  small = omega (arith, size_is, begun.begins.size)

  pub few : o.count ≤ MAX_CHANGES
  few = omega (arith, count_is, begun.begins.count)

-- behind one more event
pub record EventMoves (s : Since) (o : Open) (rest : List ℕ) (n m : ℕ) : Type 0 where
  pub begun : Begun s (record { scn = Some n; count = o.count + 1; size = o.size + m }) rest
  pub positive : 0 < m
  pub long : o.size + m ≤ length rest

pub event_moves : (s : Since) (o : Open) (rest : List ℕ) (n : ℕ) (c : Change) (m : ℕ) → IsBytes rest → Begun s o rest → front_of s o (drop o.size rest) ≡ AnEvent n c m → EventMoves s o rest n m
event_moves s o rest n c m bytes begun e =
    let cs = begun.changes in
    let k = begun.scn in
    let behind = drop o.size rest in
    let taken = event_taken s o behind n c m (IsBytes-drop o.size rest bytes) e in
    let is = taken.is in
    let right : has_right_scn s (open_of k cs).scn n ≡ true = ap (λ (x : Open). has_right_scn s x.scn n) (sym begun.known) ∙ is.right in
    let scn = right_scn s k cs n begun.begins right in
    let size = size_is s o rest begun in
    let count = count_is s o rest begun in
    let parts : rest ≡ changes_bytes n (cs ++ c ∷ []) ++ drop m behind =
    begun.parts
    ∙ (λ i. scn.1 i ++ (sym (behind_is s o rest begun) ∙ taken.parts) i)
    ∙ sym (append_assoc (changes_bytes n cs) (event_bytes (event n c)) (drop m behind))
    ∙ ap (λ (x : List ℕ). x ++ drop m behind) (sym (changes_bytes-push n cs c)) in
    let known : record { scn = Some n; count = o.count + 1; size = o.size + m } ≡ open_of n (cs ++ c ∷ []) =
    (λ i. record { scn = Some n; count = count i + 1; size = size i + taken.size i }) ∙ open-push n cs c in
    record {
      begun = record {
        scn = n;
        changes = cs ++ c ∷ [];
        part = drop m behind;
        parts = parts;
        begins = record {
          above = λ _. scn.0;
          scn = is.within.scn;
          count = omega (arith, count, is.count, length-append cs (c ∷ []));
          size = omega (arith, size, is.room, changes_size-append cs (c ∷ []));
          changes = are_changes_push cs c begun.begins.changes (record { source = is.within.source; key = is.within.key; payload = is.within.payload });
        };
        known = known;
      };
      positive = omega (arith, taken.size, change_positive c);
      long = omega (arith, taken.long, length-drop o.size rest, fits s o rest begun);
    }

-- behind the mark
pub record MarkMoves (s : Since) (o : Open) (rest : List ℕ) (cs : List Change) (n p : ℕ) : Type 0 where
  pub comes : Comes s (record { scn = n; prev = p; changes = cs })
  pub parts : rest ≡ window_bytes (record { scn = n; prev = p; changes = cs }) ++ drop 17 (drop o.size rest)
  pub events : take o.size rest ≡ changes_bytes n cs
  pub long : o.size + 17 ≤ length rest

pub mark_moves : (s : Since) (o : Open) (rest : List ℕ) (n p : ℕ) → IsBytes rest → (begun : Begun s o rest) → front_of s o (drop o.size rest) ≡ AMark n p → MarkMoves s o rest begun.changes n p
mark_moves s o rest n p bytes begun e =
    let cs = begun.changes in
    let k = begun.scn in
    let behind = drop o.size rest in
    let taken = mark_taken s o behind n p (IsBytes-drop o.size rest bytes) e in
    let is = taken.is in
    let right : has_right_scn s (open_of k cs).scn n ≡ true = ap (λ (x : Open). has_right_scn s x.scn n) (sym begun.known) ∙ is.right in
    let scn = right_scn s k cs n begun.begins right in
    record {
      comes = record {
        within = record { scn = is.bound; prev = is.order; count = begun.begins.count; size = begun.begins.size; changes = begun.begins.changes };
        above = scn.0;
        chained = is.chained;
      };
      parts =
          begun.parts
          ∙ (λ i. scn.1 i ++ (sym (behind_is s o rest begun) ∙ taken.parts) i)
          ∙ sym (append_assoc (changes_bytes n cs) (mark_bytes n p) (drop 17 behind));
      events = events_are s o rest begun ∙ scn.1;
      long = omega (arith, taken.long, length-drop o.size rest, fits s o rest begun);
    }

-- a window of which nothing has come
pub begun_none : (s : Since) (rest : List ℕ) → Begun s (record { scn = None; count = 0; size = 0 }) rest
begun_none s rest = record {
  scn = 0;
  changes = [];
  part = rest;
  parts = refl;
  begins = record { above = λ h. absurd (omega (arith, h)); scn = omega arith; count = omega arith; size = omega arith; changes = tt };
  known = refl;
}

-- where a reading stops, as the bytes behind the windows say it
abbrev pub behind_of : (s t : Since) (o : Open) (rest : List ℕ) (f : Front) → s ≡ t → (begun : Begun s o rest) → front_of s o (drop o.size rest) ≡ f → Behind t rest f
behind_of s t o rest f same begun stops = record {
  scn = begun.scn;
  changes = begun.changes;
  part = begun.part;
  bytes = begun.parts;
  begins = subst (λ (q : Since). Begins q begun.scn begun.changes) same begun.begins;
  stops = sym (λ i. front_of (same i) (begun.known i) (behind_is s o rest begun i)) ∙ stops;
}
