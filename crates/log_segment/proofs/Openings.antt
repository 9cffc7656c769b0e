-- A segment that is opened.
use Rattle.std.proofs.Common.{◌≡◌, ◌⊎◌, ℕ, ◌≤◌, List, [], ◌++◌, length, drop, Option, Some, None, IfSome, Ok, Err, refl, sym, ap, subst, ◌∙◌, append_assoc, length-append, arith}
use Rattle.std.proofs.lemmas.List.{drop_at}
use Rattle.log_segment.specs.declared.segment.SegmentFault.{SegmentFault}
use Rattle.log_segment.specs.declared.segment.SegmentFault.TheVariants as opening
use Rattle.log_segment.specs.declared.scan.Scan.{Scan}
use Rattle.log_segment.specs.Image.{whole, IsFree}
use Rattle.log_segment.specs.Faults.{IsBadAt}
use Rattle.log_segment.specs.Heading.{BeginsInUse, Fills}
use Rattle.log_segment.specs.Scanning.{IsScan, ReachedAt, Reached, ScanEnd, ScansAll}
use Rattle.log_segment.specs.Opening.{HoldsWindows, OpensAs}
use Rattle.log_segment.proofs.Images.{length-begun}

-- all windows were read
holds_windows : (bytes ahead : List ℕ) (s : Scan) → Reached bytes s ahead → IsFree ahead → HoldsWindows bytes s
holds_windows bytes ahead s h free = record {
  windows = h.windows;
  low = h.low;
  chained = h.chained;
  high = h.high;
  gate = h.gate;
  index = h.index;
  ends = record { gate = free.gate; rest = free.rest ++ h.rest; closed = free.closed; parts = h.parts ∙ ap (λ (l : List ℕ). whole s.floor h.windows ++ (l ++ h.rest)) free.parts };
}

opens_fault : (fault : SegmentFault) (bytes ahead : List ℕ) → ScanEnd (Err fault) bytes ahead → OpensAs (Err fault) bytes
opens_fault opening.Failed bytes ahead bad = tt
opens_fault (opening.Bad place) bytes ahead bad = bad
opens_fault opening.NoMemory bytes ahead bad = tt

module _ (floor : ℕ) (a : List ℕ) (begins : BeginsInUse floor a) where
  pub front_fits : 17 ≤ length a
  front_fits = omega (arith, ap length begins.parts, length-append (whole floor []) begins.rest, length-begun floor)

  module _ (b : List ℕ) (behind : b ≡ drop 17 a) (s : Scan) (floor_is : s.floor ≡ floor) (high_is : s.high ≡ floor) (gate_is : s.gate ≡ 17) (none : s.index.items ≡ []) where
    rest_is : b ≡ begins.rest
    rest_is = behind ∙ ap (λ (l : List ℕ). drop 17 l) begins.parts ∙ drop_at (whole floor []) begins.rest 17 (length-begun floor)

    pub first_scan : (end : ℕ) → length a ≤ end → IsScan end s b
    first_scan end within = record {
      room = omega (arith, within, gate_is, ap length rest_is, ap length begins.parts, length-append (whole floor []) begins.rest, length-begun floor);
      rises = rw (high_is, floor_is, none) refl;
      within = omega (arith, high_is, begins.low);
    }

    first_plain : (bytes : List ℕ) → Fills bytes a → ReachedAt bytes floor floor 17 [] b
    first_plain bytes fills = record {
      windows = [];
      low = begins.low;
      chained = tt;
      high = refl;
      gate = sym (length-begun floor);
      index = refl;
      rest = fills.rest;
      parts = fills.parts ∙ ap (λ (l : List ℕ). l ++ fills.rest) (begins.parts ∙ ap (λ (l : List ℕ). whole floor [] ++ l) (sym rest_is)) ∙ append_assoc (whole floor []) b fills.rest;
    }

    first_reached : (bytes : List ℕ) → Fills bytes a → Reached bytes s b
    first_reached bytes fills = rw (floor_is, high_is, gate_is, none) (first_plain bytes fills)

    pub windows_told : (seen : Option (List ℕ)) (end : ℕ) (t : Scan) (d : List ℕ) → IfSome seen (λ bytes. end ≡ length bytes → ScansAll (Ok t) bytes s b d) → IfSome seen (λ bytes. end ≡ length bytes → Fills bytes a → HoldsWindows bytes t)
    windows_told None end t d told = tt
    windows_told (Some bytes) end t d told = λ is fills. let all = told is (first_reached bytes fills) in holds_windows bytes d t all.0 all.1

    pub fault_told : (seen : Option (List ℕ)) (end : ℕ) (fault : SegmentFault) (d : List ℕ) → IfSome seen (λ bytes. end ≡ length bytes → ScansAll (Err fault) bytes s b d) → IfSome seen (λ bytes. end ≡ length bytes → Fills bytes a → OpensAs (Err fault) bytes)
    fault_told None end fault d told = tt
    fault_told (Some bytes) end fault d told = λ is fills. opens_fault fault bytes d (told is (first_reached bytes fills))

pub head_fault : (seen : Option (List ℕ)) (end place : ℕ) (a : List ℕ) → ((more : List ℕ) → (17 ≤ length a) ⊎ (more ≡ []) → IsBadAt place (a ++ more)) → IfSome seen (λ bytes. end ≡ length bytes → Fills bytes a → IsBadAt place bytes)
head_fault None end place a bad = tt
head_fault (Some bytes) end place a bad = λ is fills. subst (IsBadAt place) (sym fills.parts) (bad fills.rest fills.enough)
