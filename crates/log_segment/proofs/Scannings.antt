-- A segment that is read gate by gate.
use Rattle.std.proofs.Common.{◌≡◌, inl, inr, ℕ, ◌+◌, ◌<◌, ◌≤◌, Bool, true, false, List, [], ◌∷◌, ◌++◌, length, take, drop, Option, Some, None, Result, Ok, Err, IfOk, IfSome, sym, ap, subst, ◌∙◌, append_assoc, length-append, arith}
use Rattle.std.proofs.lemmas.List.{append-nil, drop_at, take-append-drop}
use Rattle.std.proofs.lemmas.Bool.{cases_lt}
use Rattle.bus_types.specs.Window.{Span, span_size}
use Rattle.bus_types.specs.Timeline.{Follows}
use Rattle.log_segment.specs.declared.segment.SegmentFault.{SegmentFault}
use Rattle.log_segment.specs.declared.segment.SegmentFault.TheVariants as opening
use Rattle.log_segment.specs.declared.scan.Scan.{Scan}
use Rattle.log_segment.specs.Image.{whole, record_bytes, IsFree}
use Rattle.log_segment.specs.Looking.{ReadsOn}
use Rattle.log_segment.specs.Reading.{NoRecord, IsShort, IsRefused, IsRecord}
use Rattle.log_segment.specs.Faults.{IsBadAt}
use Rattle.log_segment.specs.Scanning.{IsScan, left, Notes, ReachedAt, Reached, ScanStep, Scans, ScanEnd, ScansAll}
use Rattle.log_segment.proofs.Images.{length-record, length-push, whole-push, entries-push}
use Rattle.log_segment.proofs.Segments.{timeline-push, end_push, rises-push}
use Rattle.log_segment.proofs.Records.{empty}

-- ---- a record is taken

module _ (s : Scan) (w : Span) (a : List ℕ) (is : IsRecord s.high w a) where
  abbrev size : ℕ
  size = span_size w + 5

  abbrev front : List ℕ
  front = 165 ∷ record_bytes w

  front_long : length front ≡ size
  front_long = omega (arith, length-record w)

  parts : a ≡ front ++ is.begins.rest
  parts = is.parts ∙ ap (λ (l : List ℕ). 165 ∷ l) is.begins.parts

  pub record_fits : span_size w + 5 ≤ length a
  record_fits = omega (arith, front_long, ap length parts, length-append front is.begins.rest)

  module _ (t : Scan) (b : List ℕ) (n : Notes w.scn (span_size w + 5) s t) (behind : b ≡ drop (span_size w + 5) a) where
    behind_is : b ≡ is.begins.rest
    behind_is = behind ∙ ap (λ (l : List ℕ). drop size l) parts ∙ drop_at front is.begins.rest size front_long

    long : length a ≡ size + length b
    long = omega (arith, ap length parts, length-append front is.begins.rest, front_long, ap length behind_is)

    above : s.high < w.scn
    above = omega (arith, is.begins.follows.chained, is.begins.follows.within.prev)

    pub taken_scan : (end : ℕ) → IsScan end s a → IsScan end t b
    taken_scan end i = record {
      room = omega (arith, i.room, n.gate, long);
      rises = rw (n.high, n.floor, n.index) (rises-push s.high s.floor w.scn (s.gate + 1) s.index.items i.rises above);
      within = omega (arith, n.high, is.begins.follows.within.scn);
    }

    pub taken_less : (end : ℕ) → IsScan end s a → left end t.gate b < left end s.gate a
    taken_less end i = omega (arith, i.room, n.gate, long)

    reached_plain : (bytes : List ℕ) → Reached bytes s a → ReachedAt bytes s.floor w.scn (s.gate + size) (s.index.items ++ record { scn = w.scn; place = s.gate + 1 } ∷ []) b
    reached_plain bytes h = record {
      windows = h.windows ++ w ∷ [];
      low = h.low;
      chained = timeline-push s.floor h.windows w h.chained (subst (λ (p : ℕ). Follows p w) h.high is.begins.follows);
      high = sym (end_push s.floor h.windows w);
      gate = omega (arith, h.gate, length-push s.floor h.windows w);
      index = (λ i. h.index i ++ record { scn = w.scn; place = h.gate i + 1 } ∷ []) ∙ sym (entries-push s.floor h.windows w);
      rest = h.rest;
      parts =
          h.parts ∙ ap (λ (l : List ℕ). whole s.floor h.windows ++ (l ++ h.rest)) (parts ∙ ap (λ (l : List ℕ). front ++ l) (sym behind_is))
          ∙ ap (λ (l : List ℕ). whole s.floor h.windows ++ l) (append_assoc front b h.rest)
          ∙ sym (append_assoc (whole s.floor h.windows) front (b ++ h.rest))
          ∙ ap (λ (l : List ℕ). l ++ (b ++ h.rest)) (sym (whole-push s.floor h.windows w));
    }

    pub taken_reached : (bytes : List ℕ) → Reached bytes s a → Reached bytes t b
    taken_reached bytes h = rw (n.floor, n.high, n.gate, n.index) (reached_plain bytes h)

-- ---- it is read on

module _ (s : Scan) (bytes a : List ℕ) (h : Reached bytes s a) where
  front_end : length (whole s.floor h.windows ++ a) ≡ s.gate + length a
  front_end = omega (arith, length-append (whole s.floor h.windows) a, h.gate)

  all : length bytes ≡ s.gate + length a + length h.rest
  all = omega (arith, ap length h.parts, length-append (whole s.floor h.windows) (a ++ h.rest), length-append a h.rest, h.gate)

  behind_ahead : drop (s.gate + length a) bytes ≡ h.rest
  behind_ahead = ap (λ (l : List ℕ). drop (s.gate + length a) l) (h.parts ∙ sym (append_assoc (whole s.floor h.windows) a h.rest)) ∙ drop_at (whole s.floor h.windows ++ a) h.rest (s.gate + length a) front_end

  module _ (end count : ℕ) (b : List ℕ) (on : ReadsOn s.gate end count bytes a b) where
    ahead_is : a ++ h.rest ≡ b ++ drop count h.rest
    ahead_is =
        ap (λ (l : List ℕ). a ++ l) (sym (take-append-drop count h.rest)) ∙ sym (append_assoc a (take count h.rest) (drop count h.rest))
        ∙ ap (λ (l : List ℕ). l ++ drop count h.rest) (sym (on.parts ∙ ap (λ (l : List ℕ). a ++ l) (on.given ∙ ap (λ (l : List ℕ). take count l) behind_ahead)))

    pub read_reached : Reached bytes s b
    read_reached = record {
      windows = h.windows;
      low = h.low;
      chained = h.chained;
      high = h.high;
      gate = h.gate;
      index = h.index;
      rest = drop count h.rest;
      parts = h.parts ∙ ap (λ (l : List ℕ). whole s.floor h.windows ++ l) ahead_is;
    }

    nothing_left : end ≡ length bytes → count ≡ 0 → h.rest ≡ []
    nothing_left is none = empty h.rest (elim (cases_lt (s.gate + length a) end) [
      | inl more ↦ absurd (omega (arith, none, on.some more))
      | inr less ↦ omega (arith, less, is, all)
    ])

    ends : end ≡ length bytes → count ≡ 0 → bytes ≡ whole s.floor h.windows ++ a
    ends is none = h.parts ∙ ap (λ (l : List ℕ). whole s.floor h.windows ++ (a ++ l)) (nothing_left is none) ∙ ap (λ (l : List ℕ). whole s.floor h.windows ++ l) (append-nil a)

    pub at_end : (place : ℕ) → (length a ≡ 0 → place ≡ s.gate) → (0 < length a → place ≡ s.gate + 1) → end ≡ length bytes → count ≡ 0 → IsShort s.high a → IsBadAt place bytes
    at_end place before behind is none short = elim short [
      | inl nothing ↦ inr (inr (inr (inl (record {
        floor = s.floor;
        windows = h.windows;
        low = h.low;
        chained = h.chained;
        parts = ends is none ∙ ap (λ (l : List ℕ). whole s.floor h.windows ++ l) nothing ∙ append-nil (whole s.floor h.windows);
        place_is = before (ap length nothing) ∙ h.gate;
      }))))
      | inr begun ↦ inr (inr (inr (inr (record {
        floor = s.floor;
        windows = h.windows;
        rest = begun.rest;
        low = h.low;
        chained = h.chained;
        parts = ends is none ∙ ap (λ (l : List ℕ). whole s.floor h.windows ++ l) begun.parts;
        none = subst (λ (p : ℕ). NoRecord p begun.rest) h.high begun.none;
        place_is = omega (arith, behind (omega (arith, ap length begun.parts)), h.gate);
      }))))
    ]

  pub refused_at : IsRefused s.high a → IsBadAt (s.gate + 1) bytes
  refused_at refused = inr (inr (inr (inr (record {
    floor = s.floor;
    windows = h.windows;
    rest = refused.rest ++ h.rest;
    low = h.low;
    chained = h.chained;
    parts = h.parts ∙ ap (λ (l : List ℕ). whole s.floor h.windows ++ (l ++ h.rest)) refused.parts;
    none = subst (λ (p : ℕ). NoRecord p (refused.rest ++ h.rest)) h.high (refused.none h.rest);
    place_is = omega (arith, h.gate);
  }))))

-- the same, of a disk that may tell its bytes
module _ (s : Scan) (end count : ℕ) (a b : List ℕ) where
  pub goes_on : (seen : Option (List ℕ)) → IfSome seen (λ bytes. end ≤ length bytes → ReadsOn s.gate end count bytes a b) → IfSome seen (λ bytes. end ≡ length bytes → Scans (Ok false) bytes s a s b)
  goes_on None on = tt
  goes_on (Some bytes) on = λ is h. read_reached s bytes a h end count b (on (omega (arith, is)))

  pub stops : (seen : Option (List ℕ)) (place : ℕ) → (length a ≡ 0 → place ≡ s.gate) → (0 < length a → place ≡ s.gate + 1) → count ≡ 0 → IsShort s.high a
      → IfSome seen (λ bytes. end ≤ length bytes → ReadsOn s.gate end count bytes a b) → IfSome seen (λ bytes. end ≡ length bytes → Scans (Err (opening.Bad place)) bytes s a s b)
  stops None place before behind none short on = tt
  stops (Some bytes) place before behind none short on = λ is h. at_end s bytes a h end count b (on (omega (arith, is))) place before behind is none short

pub refused_told : (s : Scan) (end : ℕ) (a : List ℕ) → IsRefused s.high a → (seen : Option (List ℕ)) → IfSome seen (λ bytes. end ≡ length bytes → Scans (Err (opening.Bad (s.gate + 1))) bytes s a s a)
refused_told s end a refused None = tt
refused_told s end a refused (Some bytes) = λ is h. refused_at s bytes a h refused

pub closed_told : (s : Scan) (end : ℕ) (a : List ℕ) → IsFree a → (seen : Option (List ℕ)) → IfSome seen (λ bytes. end ≡ length bytes → Scans (Ok true) bytes s a s a)
closed_told s end a free None = tt
closed_told s end a free (Some bytes) = λ is h. (h, free)

-- a clause of every list of bytes
pub told_to : (seen : Option (List ℕ)) (end : ℕ) (P : List ℕ → Type 0) → ((bytes : List ℕ) → P bytes) → IfSome seen (λ bytes. end ≡ length bytes → P bytes)
told_to None end P each = tt
told_to (Some bytes) end P each = λ is. each bytes

pub notes_of : (w : Span) (scn bytes : ℕ) (s t : Scan) → scn ≡ w.scn → bytes ≡ span_size w → Notes scn (bytes + 5) s t → Notes w.scn (span_size w + 5) s t
notes_of w scn bytes s t same size_is n = subst (λ (k : ℕ). Notes k (span_size w + 5) s t) same (subst (λ (k : ℕ). Notes scn (k + 5) s t) size_is n)

pub behind_of : (w : Span) (bytes : ℕ) (a b : List ℕ) → bytes ≡ span_size w → b ≡ drop (bytes + 5) a → b ≡ drop (span_size w + 5) a
behind_of w bytes a b size_is is = is ∙ ap (λ (k : ℕ). drop (k + 5) a) size_is

-- ---- step by step

fault_end : (fault : SegmentFault) (bytes a b : List ℕ) (t : Scan) → ScanStep (Err fault) bytes t a → ScanEnd (Err fault) bytes b
fault_end opening.Failed bytes a b t bad = tt
fault_end (opening.Bad place) bytes a b t bad = bad
fault_end opening.NoMemory bytes a b t bad = tt

pub told_then : (seen now : Option (List ℕ)) (P Q R : List ℕ → Type 0) → now ≡ seen → ((bytes : List ℕ) → P bytes → Q bytes → R bytes) → IfSome seen P → IfSome now Q → IfSome seen R
told_then None None P Q R same so p q = tt
told_then None (Some b) P Q R same so p q = tt
told_then (Some bytes) now P Q R same so p q = so bytes p (subst (λ (o : Option (List ℕ)). IfSome o Q) same q)

module _ (seen now : Option (List ℕ)) (same : now ≡ seen) (end : ℕ) (from s t : Scan) (a0 a b : List ℕ)
    (so_far : IfSome seen (λ bytes. end ≡ length bytes → Reached bytes from a0 → Reached bytes s a)) where
  pub steps_fault : (fault : SegmentFault) → IfSome now (λ bytes. end ≡ length bytes → Scans (Err fault) bytes s a t b) → IfSome seen (λ bytes. end ≡ length bytes → ScansAll (Err fault) bytes from a0 b)
  steps_fault fault step = told_then seen now (λ bytes. end ≡ length bytes → Reached bytes from a0 → Reached bytes s a) (λ bytes. end ≡ length bytes → Scans (Err fault) bytes s a t b) (λ bytes. end ≡ length bytes → ScansAll (Err fault) bytes from a0 b) same
      (λ bytes p q is h. fault_end fault bytes b b t (q is (p is h))) so_far step

-- a gate takes a byte
pub free_some : (gate end : ℕ) (a : List ℕ) → IsFree a → gate + length a ≤ end → gate < end
free_some gate end a free room = omega (arith, room, ap length free.parts)

pub gate_of : (r : Result Bool SegmentFault) (gate end : ℕ) → IfOk r (λ done. (most : ℕ) → done ≡ true → gate < most) → IfOk r (λ done. done ≡ true → gate < end)
gate_of (Ok done) gate end each = each end
gate_of (Err fault) gate end each = tt
