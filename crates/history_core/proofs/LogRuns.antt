-- Windows behind an SCN, taken step by step, and the relay's reply to who asks for them.
use Rattle.std.proofs.Common.{◌≡◌, ℕ, ◌+◌, ◌-◌, ◌*◌, ◌<◌, ◌≤◌, inl, inr, true, cond, nat_lt, nat_le, List, [], ◌∷◌, ◌++◌, length, take, drop, take-append-drop, refl, sym, ap, subst, ◌∙◌, arith}
use Rattle.std.proofs.Math.Seq.{take-add}
use Rattle.std.proofs.lemmas.Bool.{cases_lt, cond-false, le-ltb, lt-leb}
use Rattle.std.proofs.lemmas.List.{take_all, append_cancel_left}
use Rattle.bus_types.specs.declared.change.Change.{Change}
use Rattle.bus_types.specs.Change.{accepted}
use Rattle.bus_types.specs.Window.{Span, span_size}
use Rattle.bus_types.specs.Timeline.{IsTimeline, IsTimelineFrom, end_from, windows_between, total_size}
use Rattle.bus_types.specs.Cut.{cuts}
use Rattle.bus_types.specs.Relay.{Served, NotFound, Empty, TooSmall, Windows, Relay, is_place, most_windows, longest_run, fitting, stream, answer_of}
use Rattle.bus_types.proofs.Stretches.{Rises, end_from-append, timeline_rises, rises_run, rises_split, run_rises, run_within, rises_all, between_none, between_cases, between_timeline}
use Rattle.bus_types.proofs.Floors.{parted_at, rises_fore, between_fore, floor_is, stands_answers}
use Rattle.bus_types.proofs.Runs.{longest_run_is, run_takes}
use Rattle.partition_filter.specs.Selection.{test_of}
use Rattle.partition_filter.specs.Selection.Selection.{All}
use Rattle.event_codec.specs.declared.reply.Served.{Served as Told}
use Rattle.event_codec.specs.declared.reply.Served.TheVariants as told
use Rattle.event_codec.specs.Reply.{AreTold, IsServed, reply_bytes}
use Rattle.bus_wire.specs.Served.{Serves}
use Rattle.bus_wire.proofs.Replies.{relay_serves, place_is_window}
use Rattle.bootstrap_core.specs.Logging.{most_bytes, IsChained}
use Rattle.history_core.specs.Steps.{end_after}
use Rattle.history_core.specs.Booting.{HasNext, IsNextReply}

-- ---- step by step

-- so many windows in two steps
pub end_on : (ws : List Span) (scn end k n : ℕ) → IsTimeline ws → k ≤ n → end_after ws (end_after ws scn end k) end (n - k) ≡ end_after ws scn end n
end_on ws scn end k n t le =
    let stretch = windows_between scn end ws in
    let next = end_from scn (take k stretch) in
    elim (cases_lt end scn) [
      | inl past ↦
          let at : (m : ℕ) → end_after ws scn end m ≡ scn = λ m. ap (λ (vs : List Span). end_from scn (take m vs)) (between_none scn end ws (omega arith)) ∙ ap (end_from scn) (take_all m [] (omega arith)) in
          ap (λ (s : ℕ). end_after ws s end (n - k)) (at k) ∙ at (n - k) ∙ sym (at n)
      | inr within ↦
          let rising = timeline_rises 0 ws t in
          let same : windows_between scn next ws ≡ take k stretch = rises_run 0 scn end k ws rising in
          let low : scn ≤ next = run_rises 0 scn end k ws (take k stretch) t refl in
          let high : next ≤ end = run_within 0 scn end k ws (take k stretch) t within refl in
          let split : stretch ≡ take k stretch ++ windows_between next end ws = rises_split 0 scn next end ws rising low high ∙ ap (λ (front : List Span). front ++ windows_between next end ws) same in
          let rest : windows_between next end ws ≡ drop k stretch = append_cancel_left (take k stretch) (windows_between next end ws) (drop k stretch) (sym split ∙ sym (take-append-drop k stretch)) in
          let whole : k + (n - k) ≡ n = omega arith in
          ap (λ (vs : List Span). end_from next (take (n - k) vs)) rest
          ∙ sym (end_from-append scn (take k stretch) (take (n - k) (drop k stretch)))
          ∙ ap (end_from scn) (sym (take-add k (n - k) stretch))
          ∙ ap (λ (m : ℕ). end_from scn (take m stretch)) whole
    ]

-- no window
pub end_still : (ws : List Span) (scn end n : ℕ) → end ≤ scn → end_after ws scn end n ≡ scn
end_still ws scn end n past = ap (λ (vs : List Span). end_from scn (take n vs)) (between_none scn end ws past) ∙ ap (end_from scn) (take_all n [] (omega arith))

pub end_later : (ws : List Span) (scn end n : ℕ) → IsTimeline ws → scn ≤ end_after ws scn end n
end_later ws scn end n t = run_rises 0 scn end n ws (take n (windows_between scn end ws)) t refl

-- ---- sizes

-- windows of a timeline have at most so many bytes
pub total_bound : (prev : ℕ) (ws : List Span) → IsTimelineFrom prev ws → total_size ws ≤ 1048576 * length ws
total_bound prev [] t = omega arith
total_bound prev (w ∷ ws) t = omega (arith, t.0.within.size, total_bound w.scn ws t.1)

-- a stretch has at most as many windows as the whole
pub fewer_between : (low high : ℕ) (ws : List Span) → length (windows_between low high ws) ≤ length ws
fewer_between low high [] = omega arith
fewer_between low high (w ∷ ws) =
    let rest = fewer_between low high ws in
    between_cases (λ (kept : List Span). length kept ≤ length (w ∷ ws)) low high w ws (λ l h. omega arith) (λ l. omega arith) (λ h. omega arith)

-- ---- the windows behind a place

-- they follow it
pub place_follows : (ws : List Span) (scn end : ℕ) → IsTimeline ws → is_place scn ws ≡ true → IsTimelineFrom scn (windows_between scn end ws)
place_follows ws scn end t place =
    let parts = parted_at 0 scn ws place in
    let rising = subst (Rises 0) (sym parts.whole) (timeline_rises 0 ws t) in
    let upto : windows_between 0 scn ws ≡ parts.front =
    (λ i. windows_between 0 (sym parts.end i) (sym parts.whole i)) ∙ between_fore 0 0 parts.front parts.back rising
    ∙ rises_all 0 0 (end_from 0 parts.front) parts.front (rises_fore 0 parts.front parts.back rising) (omega arith) (omega arith) in
    subst (λ (n : ℕ). IsTimelineFrom n (windows_between scn end ws)) (ap (end_from 0) upto ∙ parts.end) (between_timeline 0 scn end ws t)

pub chained_of : (scn : ℕ) (ws : List Span) → IsTimelineFrom scn ws → IsChained scn ws
chained_of scn [] t = tt
chained_of scn (w ∷ ws) t = t.0.chained

-- ---- the relay's reply

accepted_all : (cs : List Change) → accepted (test_of All) cs ≡ cs
accepted_all [] = refl
accepted_all (c ∷ cs) = ap (λ ds. c ∷ ds) (accepted_all cs)

-- the filter of all leaves windows as they are
cuts_all : (ws : List Span) → cuts (test_of All) ws ≡ ws
cuts_all [] = refl
cuts_all (w ∷ ws) = (λ i. record { scn = w.scn; prev = w.prev; changes = accepted_all w.changes i } ∷ cuts_all ws i)

-- windows are served: the first of these
record ServesFirst (stretch : List Span) (served : Served) : Type 0 where
  windows : List Span
  is : served ≡ Windows windows
  front : windows ≡ take (length windows) stretch
  some : 0 < length windows

fitting_first : (scn : ℕ) (stretch : List Span) → IsTimelineFrom scn stretch → 0 < length stretch → ServesFirst stretch (fitting most_bytes stretch)
fitting_first scn [] t some = absurd (omega arith)
fitting_first scn (w ∷ stretch) t some =
    let run = longest_run most_windows most_bytes (w ∷ stretch) in
    let fits : span_size w ≤ most_bytes = omega (arith, t.0.within.size) in
    record {
      windows = run;
      is = cond-false (nat_lt most_bytes (span_size w)) (TooSmall (span_size w)) (Windows run) (le-ltb most_bytes (span_size w) fits);
      front = (longest_run_is most_windows most_bytes (w ∷ stretch)).front;
      some = subst (λ (vs : List Span). 0 < length vs) (sym (run_takes most_windows most_bytes w stretch (omega arith) fits)) (omega arith);
    }

module _ (ws : List Span) (r : Relay) (scn : ℕ) (has : HasNext ws r scn) where
  abbrev served : Served
  served = answer_of r scn (test_of All) most_bytes

  streamed : stream ws r.floor r.tail scn (test_of All) most_bytes ≡ fitting most_bytes (windows_between scn r.tail ws)
  streamed =
      let rest : Served = fitting most_bytes (cuts (test_of All) (windows_between scn r.tail ws)) in
      cond-false (nat_lt scn r.floor) (NotFound r.floor) (cond (nat_le r.tail scn) (Empty r.tail) rest) (le-ltb scn r.floor has.reach)
      ∙ cond-false (nat_le r.tail scn) (Empty r.tail) rest (lt-leb r.tail scn has.more)
      ∙ ap (fitting most_bytes) (cuts_all (windows_between scn r.tail ws))

  first : ServesFirst (windows_between scn r.tail ws) served
  first =
      subst (ServesFirst (windows_between scn r.tail ws)) (sym (stands_answers ws r scn (test_of All) most_bytes has.stands ∙ streamed))
      (fitting_first scn (windows_between scn r.tail ws) (place_follows ws scn r.tail has.stands.timeline has.place) (place_is_window scn r.tail ws has.stands.tail has.more))

  next_told : (found : Told) → IsServed found served → IsServed found (Windows first.windows)
  next_told found is = subst (IsServed found) first.is is

  -- windows are told of it
  pub told_windows : (found : Told) → IsServed found served → (count : ℕ) × (last : ℕ) × (size : ℕ) × (found ≡ told.Windows count last size)
  told_windows (told.Windows count last size) is = (count, last, size, refl)
  told_windows (told.NotFound n) is = absurd (next_told (told.NotFound n) is)
  told_windows (told.Empty n) is = absurd (next_told (told.Empty n) is)
  told_windows (told.TooSmall n) is = absurd (next_told (told.TooSmall n) is)

  pub next_reply : (count last size : ℕ) (bytes : List ℕ) → IsServed (told.Windows count last size) served → bytes ≡ reply_bytes served → IsNextReply ws r.tail scn bytes count
  next_reply count last size bytes is sent =
      let about : AreTold count last size first.windows = next_told (told.Windows count last size) is in
      record {
        windows = first.windows;
        behind = record {
          spelled = sent ∙ ap reply_bytes first.is;
          run = subst (Serves scn All most_bytes) first.is (relay_serves ws r scn All most_bytes has.stands);
        };
        counted = about.count;
        some = about.some;
        front = first.front ∙ ap (λ (n : ℕ). take n (windows_between scn r.tail ws)) (sym about.count);
        reply = record {
          floor = r.floor;
          end = r.tail;
          floor_place = subst (λ n. is_place n ws ≡ true) (sym has.stands.floor) (floor_is r.room ws r.tail has.stands.timeline has.stands.tail).place;
          end_place = has.stands.tail;
          is = sent ∙ ap reply_bytes (stands_answers ws r scn (test_of All) most_bytes has.stands);
        };
      }
