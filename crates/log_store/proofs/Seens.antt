-- The windows of a segment are those that are read from its bytes.
use Rattle.std.proofs.Common.{◌≡◌, ◌∙◌, ◌<◌, ◌≤◌, ℕ, Bool, true, false, List, [], ◌∷◌, ◌++◌, length, drop, Some, sym, ap, subst, refl, arith, append_assoc, length-append}
use Rattle.std.specs.Prelude.{◌==◌}
use Rattle.std.specs.Int.{w32, to_be_bytes}
use Rattle.std.proofs.lemmas.Bool.{cond-false, ne_eqb}
use Rattle.std.proofs.lemmas.List.{drop_at}
use Rattle.bus_types.specs.Window.{Span, span_size}
use Rattle.bus_types.specs.Timeline.{IsTimelineFrom}
use Rattle.event_codec.specs.Bytes.{window_bytes}
use Rattle.event_codec.specs.Parsing.{window_in_front}
use Rattle.event_codec.proofs.Parsings.{window_back}
use Rattle.log_segment.specs.Image.{record_bytes, records, head_bytes, HoldsInUse}
use Rattle.log_segment.specs.Segment.{SegmentState, Numbers, Stands, StandsFree}
use Rattle.log_segment.proofs.Images.{length-head}
use Rattle.log_store.specs.Seen.{and_behind, windows_within, windows_seen}
use Rattle.log_store.specs.Store.{StandsSeen}

window_behind : (w : Span) (more : List ℕ) → drop 4 (record_bytes w ++ more) ≡ window_bytes w ++ more
unfolding record_bytes
window_behind w more =
    ap (drop 4) (append_assoc (to_be_bytes w32 (span_size w)) (window_bytes w) more) ∙ drop_at (to_be_bytes w32 (span_size w)) (window_bytes w ++ more) 4 refl

within_back : (from : ℕ) (ws : List Span) (fuel : List ℕ) (gate : ℕ) (rest : List ℕ) → (gate ≡ 165 → ⊥) → IsTimelineFrom from ws → length ws < length fuel → windows_within fuel (records ws ++ gate ∷ rest) ≡ ws
within_back from ws [] gate rest closed chained lt = absurd (omega (arith, lt))
within_back from [] (x ∷ xs) gate rest closed chained lt = cond-false (gate == 165) _ [] (ne_eqb gate 165 closed)
within_back from (w ∷ ws) (x ∷ xs) gate rest closed chained lt =
    let more = records ws ++ gate ∷ rest in
    ap (λ (l : List ℕ). and_behind (windows_within xs) (window_in_front (drop 4 l))) (append_assoc (record_bytes w) (records ws) (gate ∷ rest))
    ∙ ap (λ (l : List ℕ). and_behind (windows_within xs) (window_in_front l)) (window_behind w more)
    ∙ ap (and_behind (windows_within xs)) (window_back w more chained.0.within)
    ∙ ap (λ (l : List Span). w ∷ l) (within_back w.scn ws xs gate rest closed chained.1 (omega (arith, lt)))

records_long : (ws : List Span) → length ws ≤ length (records ws)
records_long [] = omega arith
records_long (w ∷ ws) = omega (arith, records_long ws, length-append (record_bytes w) (records ws))

-- the windows of bytes that hold a segment in use
pub image_seen : (from : ℕ) (ws : List Span) (bytes : List ℕ) → HoldsInUse from ws bytes → windows_seen (Some bytes) ≡ ws
image_seen from ws bytes h =
    let front = 165 ∷ head_bytes from in
    let more = records ws ++ h.ends.gate ∷ h.ends.rest in
    let long : length front ≡ 17 = omega (arith, length-head from) in
    let parts : bytes ≡ front ++ more = h.ends.parts ∙ append_assoc front (records ws) (h.ends.gate ∷ h.ends.rest) in
    let enough : length ws < length bytes = omega (arith, ap length parts, length-append front more, length-append (records ws) (h.ends.gate ∷ h.ends.rest), records_long ws) in
    ap (λ (l : List ℕ). windows_within bytes l) (ap (drop 17) parts ∙ drop_at front more 17 long) ∙ within_back from ws bytes h.ends.gate h.ends.rest h.ends.closed h.chained enough

-- those of a segment that stands for them
pub stands_windows : (from : ℕ) (ws : List Span) (s : SegmentState) → Stands from ws s → windows_seen s.disk.seen ≡ ws
stands_windows from ws s h =
    ap windows_seen h.rests.rests.seen ∙ image_seen from ws h.rests.bytes (record { low = h.low; chained = h.chained; ends = h.rests.ends })

not_both : (b : Bool) → b ≡ true → b ≡ false → ⊥
not_both true t f = absurd cc
not_both false t f = absurd cc

pub stands_seen : (from : ℕ) (ws : List Span) (s : SegmentState) → Stands from ws s → StandsSeen s
stands_seen from ws s h = record {
  used = λ used.
      let floor = ap (λ (n : Numbers). n.floor) h.numbers in
      subst (λ (f : ℕ). Stands f (windows_seen s.disk.seen) s) (sym floor) (subst (λ (l : List Span). Stands from l s) (sym (stands_windows from ws s h)) h);
  free = λ free. absurd (not_both s.numbers.in_use (ap (λ (n : Numbers). n.in_use) h.numbers) free);
}

pub free_seen : (s : SegmentState) → StandsFree s → StandsSeen s
free_seen s h = record {
  used = λ used. absurd (not_both s.numbers.in_use used (ap (λ (n : Numbers). n.in_use) h.numbers));
  free = λ free. h;
}
