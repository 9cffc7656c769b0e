-- Windows and records read from the front of bytes.
use Rattle.std.proofs.Common.{◌≡◌, ◌≢◌, ℕ, ◌<◌, ◌≤◌, inr, List, [], ◌∷◌, ◌++◌, length, take, drop, Option, Some, None, Result, Ok, Err, IfOk, refl, sym, ap, subst, ◌∙◌, append_assoc, length-append, length-take, arith}
use Rattle.std.proofs.lemmas.List.{append-nil, take_at, drop_at, take-append-le, take-append-drop}
use Rattle.std.proofs.lemmas.Bool.{le-leb}
use Rattle.std.proofs.lemmas.Nat.{from_be_bytes-to_be_bytes_4, be_bytes_4}
use Rattle.std.specs.Int.{w32, from_be_bytes, to_be_bytes}
use Rattle.bus_types.specs.declared.limits.TheConstants.{MAX_WINDOW}
use Rattle.bus_types.specs.Window.{Span, IsSpan, span_size}
use Rattle.bus_types.specs.Timeline.{Follows}
use Rattle.event_codec.specs.Bytes.{window_bytes}
use Rattle.event_codec.specs.Items.{Since, open_of, front_of}
use Rattle.event_codec.specs.Items.Front.{Unfinished}
use Rattle.event_codec.specs.Streams.{Come, after_window, windows_bytes}
use Rattle.event_codec.proofs.Numbers.{IsBytes, IsBytes-take}
use Rattle.event_codec.proofs.Begun.{begun_none, behind_of}
use Rattle.event_codec.proofs.WindowBytes.{window_length}
use Rattle.window_stream.specs.Stream.{Split, above, ReadsAs, GoesOn}
use Rattle.window_stream.proofs.Whole.{one_split}
use Rattle.log_segment.specs.Image.{record_bytes, IsFree}
use Rattle.log_segment.proofs.Images.{length-record}
use Rattle.log_segment.specs.Reading.{IsNoWindow, IsWindow, FindsWindow, Splits, FindsOnly, NoRecord, BeginsWith, ShowsRecord, Shows}
use Rattle.log_segment.specs.declared.read.Front.{Front}
use Rattle.log_segment.specs.declared.read.Front.TheVariants as fronts

-- ---- a window is a stream of one

nothing_stops : (s : Since) → front_of s (open_of 0 []) [] ≡ Unfinished
unfolding front_of
nothing_stops s = refl

abbrev one_window : ℕ → Span → Split
one_window prev w = record { since = after_window (above prev) w; given = length (windows_bytes (w ∷ [])); rest = []; bad = None }

reads_one : (prev : ℕ) (w : Span) → Follows prev w → ReadsAs prev (window_bytes w) (w ∷ []) (one_window prev w)
reads_one prev w follows =
    let s = after_window (above prev) w in
    record {
      rest = [];
      parts = sym (append-nil (window_bytes w ++ []) ∙ append-nil (window_bytes w));
      come = (record { within = follows.within; above = omega (arith, follows.chained, follows.within.prev); chained = le-leb w.prev prev (omega (arith, follows.chained)) }, tt);
      stops = record { since = refl; given = refl; rest = refl; behind = behind_of s s (open_of 0 []) [] Unfinished refl (begun_none s []) (nothing_stops s) };
    }

pub empty : (bytes : List ℕ) → length bytes ≡ 0 → bytes ≡ []
empty [] none = refl
empty (b ∷ bytes) none = absurd (omega (arith, none))

not_none : (o : Option ℕ) (n : ℕ) → o ≡ Some n → o ≡ None → ⊥
not_none o n some none = cc

not_empty : (w : Span) → [] ≡ w ∷ [] → ⊥
not_empty w e = cc

module _ (prev : ℕ) (bytes : List ℕ) (windows : List Span) (split : Split) (goes : GoesOn prev bytes [] [] windows split) where
  same : (w : Span) → Follows prev w → bytes ≡ window_bytes w → (goes.others ≡ w ∷ []) × (split.bad ≡ None)
  same w follows is =
      let one = one_split prev bytes goes.others (w ∷ []) split (one_window prev w) goes.reads (subst (λ (b : List ℕ). ReadsAs prev b (w ∷ []) (one_window prev w)) (sym is) (reads_one prev w follows)) in
      (one.0, one.1)

  whole_window : (w : Span) → windows ≡ w ∷ [] → span_size w ≡ length bytes → (bytes ≡ window_bytes w) × IsSpan w
  whole_window w alone size =
      let others : goes.others ≡ w ∷ [] = sym goes.given ∙ alone in
      let parts : bytes ≡ (window_bytes w ++ []) ++ goes.reads.rest = goes.reads.parts ∙ ap (λ (ws : List Span). windows_bytes ws ++ goes.reads.rest) others in
      let none : length goes.reads.rest ≡ 0 = omega (arith, ap length parts, size, length-append (window_bytes w ++ []) goes.reads.rest, length-append (window_bytes w) [], window_length w) in
      let come = subst (λ (ws : List Span). Come (above prev) ws) others goes.reads.come in
      (parts ∙ ap (λ (l : List ℕ). (window_bytes w ++ []) ++ l) (empty goes.reads.rest none) ∙ append-nil (window_bytes w ++ []) ∙ append-nil (window_bytes w), come.0.within)

  pub splits : Splits prev bytes windows
  splits = record { each = λ w follows is. goes.given ∙ (same w follows is).0; back = whole_window }

  pub splits_bad : (place : ℕ) → split.bad ≡ Some place → Splits prev bytes []
  splits_bad place bad = record { each = λ w follows is. absurd (not_none split.bad place bad (same w follows is).1); back = λ w alone size. absurd (not_empty w alone) }

-- the window that was found alone is all of the bytes
pub found_window : (prev : ℕ) (bytes : List ℕ) (windows : List Span) (found : Option Span) → Splits prev bytes windows → FindsOnly prev (length bytes) windows found → FindsWindow prev bytes found
found_window prev bytes windows None splits none = λ w follows is.
    none w (record { alone = splits.each w follows is; chained = follows.chained; full = follows.full; size = sym (ap length is ∙ window_length w) })
found_window prev bytes windows (Some w) splits only =
    let back = splits.back w only.alone only.size in
    record { follows = record { chained = only.chained; full = only.full; within = back.1 }; spelled = back.0 }

-- ---- records

pub split_record : (front rest tail : List ℕ) (w : Span) → length front ≡ 4 → front ++ rest ≡ record_bytes w ++ tail → (front ≡ to_be_bytes w32 (span_size w)) × (rest ≡ window_bytes w ++ tail)
unfolding record_bytes
split_record front rest tail w long is =
    let size = to_be_bytes w32 (span_size w) in
    let parts : front ++ rest ≡ size ++ (window_bytes w ++ tail) = is ∙ append_assoc size (window_bytes w) tail in (
      sym (take_at front rest 4 long) ∙ ap (λ (l : List ℕ). take 4 l) parts ∙ take_at size (window_bytes w ++ tail) 4 refl,
      sym (drop_at front rest 4 long) ∙ ap (λ (l : List ℕ). drop 4 l) parts ∙ drop_at size (window_bytes w ++ tail) 4 refl,
    )

module _ (prev : ℕ) (bytes : List ℕ) where
  pub no_length : length bytes < 4 → NoRecord prev bytes
  no_length short w tail follows is = absurd (omega (arith, short, ap length is, length-append (record_bytes w) tail, length-record w))

  module _ (long : 4 ≤ length bytes) where
    -- the length that stands in front of a record, and what stands behind it
    more_parts : (more tail : List ℕ) (w : Span) → Follows prev w → bytes ++ more ≡ record_bytes w ++ tail → (from_be_bytes w32 (take 4 bytes) ≡ span_size w) × (drop 4 bytes ++ more ≡ window_bytes w ++ tail)
    more_parts more tail w follows is =
        let parts : take 4 bytes ++ (drop 4 bytes ++ more) ≡ bytes ++ more = sym (append_assoc (take 4 bytes) (drop 4 bytes) more) ∙ ap (λ (l : List ℕ). l ++ more) (take-append-drop 4 bytes) in
        let split = split_record (take 4 bytes) (drop 4 bytes ++ more) tail w (omega (arith, long, length-take 4 bytes)) (parts ∙ is) in
        (ap (from_be_bytes w32) split.0 ∙ from_be_bytes-to_be_bytes_4 (span_size w) (omega (arith, follows.within.size)), split.1)

    module _ (size : ℕ) (size_is : size ≡ from_be_bytes w32 (take 4 bytes)) where
      pub too_large : MAX_WINDOW < size → (more : List ℕ) → NoRecord prev (bytes ++ more)
      too_large above more w tail follows is = absurd (omega (arith, above, size_is, follows.within.size, (more_parts more tail w follows is).0))

      pub not_whole : length (drop 4 bytes) < size → NoRecord prev bytes
      not_whole short w tail follows is =
          let parts = more_parts [] tail w follows (append-nil bytes ∙ is) in
          absurd (omega (arith, short, size_is, parts.0, ap length parts.1, length-append (drop 4 bytes) [], length-append (window_bytes w) tail, window_length w))

      module _ (text : List ℕ) (text_is : text ≡ take size (drop 4 bytes)) (whole : size ≤ length (drop 4 bytes)) where
        pub not_window : IsNoWindow prev text → (more : List ℕ) → NoRecord prev (bytes ++ more)
        not_window none more w tail follows is =
            let parts = more_parts more tail w follows is in
            let long_window : length (window_bytes w) ≡ size = omega (arith, window_length w, size_is, parts.0) in
            none w follows (text_is ∙ sym (take-append-le size (drop 4 bytes) more whole) ∙ ap (λ (l : List ℕ). take size l) parts.1 ∙ take_at (window_bytes w) tail size long_window)

        pub is_record : IsBytes bytes → (w : Span) → IsWindow prev text w → BeginsWith prev w bytes
        unfolding record_bytes
        is_record fits w is =
            let size_of : size ≡ span_size w = omega (arith, ap length text_is, length-take size (drop 4 bytes), whole, ap length is.spelled, window_length w) in
            let front : to_be_bytes w32 (span_size w) ≡ take 4 bytes = be_bytes_4 (take 4 bytes) (span_size w) (omega (arith, long, length-take 4 bytes)) (IsBytes-take 4 bytes fits) (sym size_of ∙ size_is) in
            let behind : drop 4 bytes ≡ window_bytes w ++ drop size (drop 4 bytes) = sym (take-append-drop size (drop 4 bytes)) ∙ ap (λ (l : List ℕ). l ++ drop size (drop 4 bytes)) (sym text_is ∙ is.spelled) in
            record {
              rest = drop size (drop 4 bytes);
              follows = is.follows;
              parts = sym (take-append-drop 4 bytes) ∙ (λ i. sym front i ++ behind i) ∙ sym (append_assoc (to_be_bytes w32 (span_size w)) (window_bytes w) (drop size (drop 4 bytes)));
            }

-- ---- at a gate

module _ (prev : ℕ) where
  pub open_shows : (bytes rest : List ℕ) (front : Front) → bytes ≡ 165 ∷ rest → ShowsRecord front prev rest → Shows front prev bytes
  open_shows bytes rest fronts.Closed is shows = absurd shows
  open_shows bytes rest fronts.Short is none = inr (record { rest = rest; parts = is; none = none })
  open_shows bytes rest fronts.Refused is none = record { rest = rest; parts = is; none = none }
  open_shows bytes rest (fronts.Record window) is begins = record { rest = rest; parts = is; begins = begins }

  pub open_answers : {E : Type 0} (bytes rest : List ℕ) (r : Result Front E) → bytes ≡ 165 ∷ rest → IfOk r (λ front. ShowsRecord front prev rest) → IfOk r (λ front. Shows front prev bytes)
  open_answers bytes rest (Ok front) is shows = open_shows bytes rest front is shows
  open_answers bytes rest (Err e) is shows = tt

  pub closed_shows : (bytes rest : List ℕ) (gate : ℕ) → bytes ≡ gate ∷ rest → gate ≢ 165 → IsFree bytes
  closed_shows bytes rest gate is shut = record { gate = gate; rest = rest; closed = shut; parts = is }

pub ruleset shows = (open_answers, closed_shows)
