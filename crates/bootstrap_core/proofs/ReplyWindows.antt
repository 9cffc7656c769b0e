-- The windows of a reply: they follow each other, and its bytes are split into them.
use Rattle.std.proofs.Common.{◌≡◌, ℕ, zero, suc, true, inl, inr, List, [], ◌∷◌, length, take, refl, sym, subst, ◌∙◌, append-nil, arith}
use Rattle.std.specs.List.{AllByRecursion}
use Rattle.std.proofs.lemmas.Bool.{ltb-true, eqb-true}
use Rattle.bus_types.specs.declared.limits.TheConstants.{MAX_SCN}
use Rattle.bus_types.specs.Window.{Span, IsSpan}
use Rattle.bus_types.specs.Timeline.{IsTimelineFrom}
use Rattle.partition_filter.specs.Selection.Selection.{All}
use Rattle.event_codec.specs.Items.{Since, front_of}
use Rattle.event_codec.specs.Items.Front.{Unfinished, Refused}
use Rattle.event_codec.specs.Streams.{Come, after_window, after_windows, windows_bytes, Behind, IsReading}
use Rattle.event_codec.specs.Parsing.{AreWindows}
use Rattle.event_codec.proofs.Readings.{one_reading, one_place}
use Rattle.event_codec.proofs.Streams.{come_spans}
use Rattle.bus_wire.specs.Lawful.{IsAskedFor, after_floor, IsRun}
use Rattle.window_stream.specs.Stream.{Split, new_split, TakesAll, FindsBad}
use Rattle.bootstrap_core.specs.Logging.{AreWindowsBehind, IsChained}

-- ---- windows that follow each other

follow_on : (prev : ℕ) (ws : List Span) → Come (record { floor = prev; started = true }) ws → AllByRecursion (IsAskedFor MAX_SCN All) ws → IsTimelineFrom prev ws
follow_on prev [] come each = tt
follow_on prev (w ∷ ws) come each =
    (record { chained = eqb-true w.prev prev come.0.chained; full = ltb-true 0 (length w.changes) each.0.enough; within = come.0.within }, follow_on w.scn ws come.1 each.1)

-- the windows of a reply of which the first follows an SCN are a timeline from there
pub run_follows : (scn : ℕ) (ws : List Span) → IsRun scn MAX_SCN All ws → IsChained scn ws → IsTimelineFrom scn ws
run_follows scn [] run chained = tt
run_follows scn (w ∷ ws) run chained =
    let come = run.asked.come in
    let each = run.asked.each in
    (record { chained = chained; full = ltb-true 0 (length w.changes) each.0.enough; within = come.0.within }, follow_on w.scn ws come.1 each.1)

-- ---- the bytes of a reply, split

nothing_behind : (s : Since) → Behind s [] Unfinished
unfolding front_of
nothing_behind s = record {
  scn = 0;
  changes = [];
  part = [];
  bytes = refl;
  begins = record { above = λ h. absurd (omega (arith, h)); scn = omega arith; count = omega arith; size = omega arith; changes = tt };
  stops = refl;
}

-- windows that come, one after the other, behind an SCN
module _ (scn : ℕ) (bytes : List ℕ) (ws : List Span) (come : Come (after_floor scn) ws) (spelled : bytes ≡ windows_bytes ws) where
  read : IsReading (after_floor scn) bytes ws []
  read = record {
    parts = spelled ∙ sym (append-nil (windows_bytes ws));
    come = come;
    stops = inl (nothing_behind (after_windows (after_floor scn) ws));
  }

  -- they are given
  pub split_whole : (new : Split) (found : List Span) → TakesAll (new_split scn) bytes new [] found → found ≡ ws
  split_whole new found takes =
      let gives = takes.gives in
      let behind : Behind (after_windows (after_floor scn) gives.windows) new.rest Unfinished = subst (λ (s : Since). Behind s new.rest Unfinished) takes.since takes.behind in
      let given : IsReading (after_floor scn) bytes gives.windows new.rest = record { parts = gives.bytes; come = gives.come; stops = inl behind } in
      let same = one_reading (after_floor scn) bytes ws gives.windows [] new.rest read given in
      gives.given ∙ sym same.0

  -- no head is bad
  pub split_good : (place : ℕ) (new : Split) (found : List Span) → FindsBad (new_split scn) bytes place new [] found → ⊥
  split_good place new found bad =
      let gives = bad.gives in
      let since = after_windows (after_floor scn) gives.windows in
      let given : IsReading (after_floor scn) bytes gives.windows bad.rest = record { parts = gives.bytes; come = gives.come; stops = inr bad.behind } in
      let same = one_reading (after_floor scn) bytes ws gives.windows [] bad.rest read given in
      let whole : Behind since bad.rest Unfinished = subst (λ (rest : List ℕ). Behind since rest Unfinished) same.1 (nothing_behind since) in
      let fronts = one_place since bad.rest Unfinished Refused whole bad.behind (inl refl) (inr refl) in
      absurd (cc (fronts.0))

-- the first so many windows come too
pub come_first : (n : ℕ) (s : Since) (ws : List Span) → Come s ws → Come s (take n ws)
come_first zero s ws come = tt
come_first (suc n) s [] come = tt
come_first (suc n) s (w ∷ ws) come = (come.0, come_first n (after_window s w) ws come.1)

-- the bytes of a reply are its windows
pub reply_windows : (scn : ℕ) (bytes : List ℕ) (ws : List Span) → AreWindowsBehind scn bytes ws → AreWindows ws bytes
reply_windows scn bytes ws are = record { within = come_spans (after_floor scn) ws are.run.asked.come; spelled = are.spelled }
