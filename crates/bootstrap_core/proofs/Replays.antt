-- A replay that is taken window by window is the longest run that fits.
use Rattle.std.proofs.Common.{◌≡◌, ℕ, ◌+◌, ◌-◌, ◌<◌, ◌≤◌, inl, inr, true, false, nat_lt, nat_le, List, [], ◌∷◌, ◌++◌, length, take, length-append, append_assoc, append-nil, Option, Some, None, IfSome, is_some, true≢false, refl, sym, ap, subst, ◌∙◌, arith}
use Rattle.std.proofs.lemmas.Bool.{cond_both, cond-true, cond-false, lt-ltb, le-ltb, le-leb, lt-leb, cases_lt}
use Rattle.std.proofs.lemmas.List.Concat.{flat_map-append}
use Rattle.bus_types.specs.declared.limits.TheConstants.{MAX_WINDOW}
use Rattle.bus_types.specs.Change.{Test}
use Rattle.bus_types.specs.Window.{Span, span_size, IsSpan}
use Rattle.bus_types.specs.Timeline.{end_from, windows_between}
use Rattle.bus_types.specs.Cut.{cut, cuts}
use Rattle.bus_types.specs.Relay.{longest_run, most_windows}
use Rattle.bus_types.proofs.Stretches.{Rises, between_in, between_below, between_above, rises_from, rises_before, timeline_rises, end_from-append}
use Rattle.bus_types.proofs.Runs.{run_takes, run_full, run_ends}
use Rattle.event_codec.specs.declared.answer.Answer.TheVariants.{TooSmall}
use Rattle.event_codec.specs.declared.reply.Shape.{Shape}
use Rattle.event_codec.specs.declared.reply.Shape.TheVariants.{Windows, Only}
use Rattle.event_codec.specs.Bytes.{window_bytes}
use Rattle.event_codec.specs.Streams.{windows_bytes}
use Rattle.event_codec.specs.Questions.Reply.{Windows as SomeWindows, Only as OneAnswer}
use Rattle.event_codec.specs.Forms.{bytes_of, shape_of}
use Rattle.event_codec.proofs.WindowBytes.{window_length}
use Rattle.bus_wire.proofs.Replies.{cut_span}
use Rattle.bus_wire.specs.True.{reply_of, replay_of}
use Rattle.bus_stores.specs.Log.{LogState, SameLog, Holds, first_after}
use Rattle.snapshot_scan.specs.Chunk.{Appends}
use Rattle.snapshot_scan.specs.Filling.{Extends, tail_of}
use Rattle.snapshot_scan.proofs.Appending.{extends_none, cut_back}
use Rattle.bootstrap_core.specs.Replaying.{span_upto, Replayed, with_window, HasNone, IsReplay, no_window, replay_shape, with_cut}

-- ---- the next window of a stretch

-- the windows of a stretch are its oldest one and those behind it
next_in : (prev scn upto : ℕ) (ws : List Span) (w : Span) → Rises prev ws → Some w ≡ span_upto upto (first_after scn ws) → windows_between scn upto ws ≡ w ∷ windows_between w.scn upto ws
next_in prev scn upto [] w r e = absurd cc
next_in prev scn upto (v ∷ ws) w r e =
    elim (cases_lt scn v.scn) [
      | inl l ↦
          let is = e ∙ ap (span_upto upto) (cond-true (nat_lt scn v.scn) (Some v) (first_after scn ws) (lt-ltb scn v.scn l)) in
          elim (cases_lt upto v.scn) [
            | inl h ↦ let none = is ∙ cond-false (nat_le v.scn upto) (Some v) None (lt-leb v.scn upto h) in absurd cc
            | inr h ↦
                let some = is ∙ cond-true (nat_le v.scn upto) (Some v) None (le-leb v.scn upto h) in
                let same : v ≡ w = cc in
                between_in scn upto v ws l h
                ∙ ap (λ kept. v ∷ kept) (rises_from v.scn scn v.scn upto ws r.1 (omega arith) (omega arith) ∙ sym (between_below v.scn upto v ws (omega arith)))
                ∙ ap (λ (u : Span). u ∷ windows_between u.scn upto (v ∷ ws)) same
          ]
      | inr l ↦
          let later = e ∙ ap (span_upto upto) (cond-false (nat_lt scn v.scn) (Some v) (first_after scn ws) (le-ltb scn v.scn l)) in
          between_below scn upto v ws l ∙ next_in v.scn scn upto ws w r.1 later ∙ ap (λ kept. w ∷ kept) (sym (past upto ws w v (below scn upto ws w v.scn l later)))
    ]
  where
    past : (upto : ℕ) (ws : List Span) (w v : Span) → v.scn ≤ w.scn → windows_between w.scn upto (v ∷ ws) ≡ windows_between w.scn upto ws
    past upto ws w v h = between_below w.scn upto v ws h

    below : (scn upto : ℕ) (ws : List Span) (w : Span) (n : ℕ) → n ≤ scn → Some w ≡ span_upto upto (first_after scn ws) → n ≤ w.scn
    below scn upto [] w n l e = absurd cc
    below scn upto (v ∷ ws) w n l e =
        elim (cases_lt scn v.scn) [
          | inl h ↦
              let is = e ∙ ap (span_upto upto) (cond-true (nat_lt scn v.scn) (Some v) (first_after scn ws) (lt-ltb scn v.scn h)) in
              elim (cases_lt upto v.scn) [
                | inl k ↦ let none = is ∙ cond-false (nat_le v.scn upto) (Some v) None (lt-leb v.scn upto k) in absurd cc
                | inr k ↦
                    let some = is ∙ cond-true (nat_le v.scn upto) (Some v) None (le-leb v.scn upto k) in
                    let same : v ≡ w = cc in
                    let scns : v.scn ≡ w.scn = ap (λ (u : Span). u.scn) same in
                    omega arith
              ]
          | inr h ↦ below scn upto ws w n l (e ∙ ap (span_upto upto) (cond-false (nat_lt scn v.scn) (Some v) (first_after scn ws) (le-ltb scn v.scn h)))
        ]

-- a stretch without a next window has none
next_none : (prev scn upto : ℕ) (ws : List Span) → Rises prev ws → None ≡ span_upto upto (first_after scn ws) → windows_between scn upto ws ≡ []
next_none prev scn upto [] r e = refl
next_none prev scn upto (w ∷ ws) r e =
    elim (cases_lt scn w.scn) [
      | inl l ↦
          let is = e ∙ ap (span_upto upto) (cond-true (nat_lt scn w.scn) (Some w) (first_after scn ws) (lt-ltb scn w.scn l)) in
          elim (cases_lt upto w.scn) [
            | inl h ↦ between_above scn upto w ws h ∙ rises_before w.scn scn upto ws r.1 (omega arith)
            | inr h ↦ let some = is ∙ cond-true (nat_le w.scn upto) (Some w) None (le-leb w.scn upto h) in absurd cc
          ]
      | inr l ↦ between_below scn upto w ws l ∙ next_none w.scn scn upto ws r.1 (e ∙ ap (span_upto upto) (cond-false (nat_lt scn w.scn) (Some w) (first_after scn ws) (le-ltb scn w.scn l)))
    ]

-- ---- a run that goes on

-- cut windows were taken, and from the rest what still fits completes the longest run
pub record RunsSo (at most : ℕ) (before : List ℕ) (left rest : List Span) (r : Replayed) : Type 0 where
  pub taken : List Span
  pub bytes : r.bytes ≡ before ++ windows_bytes taken
  pub count : r.count ≡ length taken
  pub last : r.last ≡ end_from at taken
  pub whole : taken ++ longest_run (most_windows - r.count) r.room rest ≡ longest_run most_windows most left
  pub none : r.count ≡ 0 → (left ≡ rest) × (r.room ≡ most)
  pub fits : r.unfit ≡ None

begun : (at most : ℕ) (before : List ℕ) (left : List Span) → RunsSo at most before left left (record { bytes = before; count = 0; last = at; room = most; unfit = None })
begun at most before left = record { taken = []; bytes = sym (append-nil before); count = refl; last = refl; whole = refl; none = λ e. (refl, refl); fits = refl }

run_of_none : (count room : ℕ) (ws : List Span) → count ≤ 0 → longest_run count room ws ≡ []
run_of_none count room [] h = refl
run_of_none count room (w ∷ ws) h = run_full count room w ws h

-- nothing more is taken
ended : (at most : ℕ) (before : List ℕ) (left rest : List Span) (r : Replayed) → RunsSo at most before left rest r → longest_run (most_windows - r.count) r.room rest ≡ [] → (r.count ≡ 0 → HasNone most r.unfit left) → IsReplay at most before left r
ended at most before left rest r s e none = record {
  taken = s.taken;
  bytes = s.bytes;
  count = s.count;
  last = s.last;
  longest = sym (append-nil s.taken) ∙ ap (λ l. s.taken ++ l) (sym e) ∙ s.whole;
  none = none;
}

more_bytes : (before : List ℕ) (taken : List Span) (w : Span) (bytes : List ℕ) → bytes ≡ before ++ windows_bytes taken → bytes ++ window_bytes w ≡ before ++ windows_bytes (taken ++ w ∷ [])
more_bytes before taken w bytes e =
    ap (λ l. l ++ window_bytes w) e ∙ append_assoc before (windows_bytes taken) (window_bytes w)
    ∙ ap (λ l. before ++ l) (ap (λ l. windows_bytes taken ++ l) (sym (append-nil (window_bytes w))) ∙ sym (flat_map-append window_bytes taken (w ∷ [])))

-- one window more
taken_more : (at most : ℕ) (before : List ℕ) (left rest : List Span) (r : Replayed) (w : Span) → RunsSo at most before left (w ∷ rest) r → r.count < most_windows → span_size w ≤ r.room
    → RunsSo at most before left rest (record { bytes = r.bytes ++ window_bytes w; count = r.count + 1; last = w.scn; room = r.room - span_size w; unfit = r.unfit })
taken_more at most before left rest r w s few fits =
    let fewer : most_windows - (r.count + 1) ≡ most_windows - r.count - 1 = omega arith in
    record {
      taken = s.taken ++ w ∷ [];
      bytes = more_bytes before s.taken w r.bytes s.bytes;
      count = omega (arith, s.count, length-append s.taken (w ∷ []));
      last = sym (end_from-append at s.taken (w ∷ []));
      whole =
          append_assoc s.taken (w ∷ []) (longest_run (most_windows - (r.count + 1)) (r.room - span_size w) rest)
          ∙ ap (λ n. s.taken ++ w ∷ longest_run n (r.room - span_size w) rest) fewer
          ∙ ap (λ l. s.taken ++ l) (sym (run_takes (most_windows - r.count) r.room w rest (omega arith) fits))
          ∙ s.whole;
      none = λ e. absurd (omega arith);
      fits = s.fits;
    }

-- a window more, which fitted
goes_on : (at most : ℕ) (before : List ℕ) (left rest : List Span) (r now : Replayed) (w : Span) → RunsSo at most before left (w ∷ rest) r → r.count < most_windows → now ≡ with_window r w → is_some now.unfit ≡ false → RunsSo at most before left rest now
goes_on at most before left rest r now w s few e fits =
    elim (cases_lt r.room (span_size w)) [
      | inl large ↦
          let is : now ≡ record r { unfit = Some (span_size w) } = e ∙ cond-false (nat_le (span_size w) r.room) _ _ (lt-leb (span_size w) r.room large) in
          absurd (true≢false (ap (λ (x : Replayed). is_some x.unfit) (sym is) ∙ fits))
      | inr small ↦
          let is = e ∙ cond-true (nat_le (span_size w) r.room) _ _ (le-leb (span_size w) r.room small) in
          subst (RunsSo at most before left rest) (sym is) (taken_more at most before left rest r w s few small)
    ]

-- a window that fitted is the last one
pub fitted : (r now : Replayed) (w : Span) → now ≡ with_window r w → is_some now.unfit ≡ false → (now.last ≡ w.scn) × (now.count ≡ r.count + 1) × (now.unfit ≡ r.unfit)
fitted r now w e fits =
    elim (cases_lt r.room (span_size w)) [
      | inl large ↦
          let is : now ≡ record r { unfit = Some (span_size w) } = e ∙ cond-false (nat_le (span_size w) r.room) _ _ (lt-leb (span_size w) r.room large) in
          absurd (true≢false (ap (λ (x : Replayed). is_some x.unfit) (sym is) ∙ fits))
      | inr small ↦
          let is = e ∙ cond-true (nat_le (span_size w) r.room) _ _ (le-leb (span_size w) r.room small) in
          (ap (λ (x : Replayed). x.last) is, ap (λ (x : Replayed). x.count) is, ap (λ (x : Replayed). x.unfit) is)
    ]

-- bytes only grow
pub window_extends : (r now : Replayed) (w : Span) → now ≡ with_window r w → Extends r.bytes now.bytes
window_extends r now w e =
    subst (λ (x : Replayed). Extends r.bytes x.bytes) (sym e)
    (cond_both (nat_le (span_size w) r.room) _ _ (λ (x : Replayed). Extends r.bytes x.bytes) (λ fits. record { more = window_bytes w; is = refl }) (λ large. extends_none r.bytes))

unfit_none : (most count room : ℕ) (w : Span) (rest left : List Span) → (count ≡ 0 → (left ≡ w ∷ rest) × (room ≡ most)) → room < span_size w → count ≡ 0 → HasNone most (Some (span_size w)) left
unfit_none most count room w rest left none large e =
    let n = none e in
    subst (HasNone most (Some (span_size w))) (sym n.0) (refl, omega (arith, n.1))

-- a window that didn't fit
stops : (at most : ℕ) (before : List ℕ) (left rest : List Span) (r now : Replayed) (w : Span) → RunsSo at most before left (w ∷ rest) r → now ≡ with_window r w → is_some now.unfit ≡ true → IsReplay at most before left now
stops at most before left rest r now w s e unfit =
    elim (cases_lt r.room (span_size w)) [
      | inl large ↦
          let is : now ≡ record r { unfit = Some (span_size w) } = e ∙ cond-false (nat_le (span_size w) r.room) _ _ (lt-leb (span_size w) r.room large) in
          subst (IsReplay at most before left) (sym is) (record {
            taken = s.taken;
            bytes = s.bytes;
            count = s.count;
            last = s.last;
            longest = sym (append-nil s.taken) ∙ ap (λ l. s.taken ++ l) (sym (run_ends (most_windows - r.count) r.room w rest large)) ∙ s.whole;
            none = unfit_none most r.count r.room w rest left s.none large;
          })
      | inr small ↦
          let is = e ∙ cond-true (nat_le (span_size w) r.room) _ _ (le-leb (span_size w) r.room small) in
          absurd (true≢false (sym unfit ∙ ap (λ (x : Replayed). is_some x.unfit) is ∙ ap is_some s.fits))
    ]

-- no window is left
runs_out : (at most : ℕ) (before : List ℕ) (left : List Span) (r : Replayed) → RunsSo at most before left [] r → IsReplay at most before left r
runs_out at most before left r s =
    ended at most before left [] r s refl (λ e. subst (λ (u : Option ℕ). HasNone most u left) (sym s.fits) (s.none e).0)

-- there is no place for one
fills_up : (at most : ℕ) (before : List ℕ) (left rest : List Span) (r : Replayed) → RunsSo at most before left rest r → most_windows ≤ r.count → IsReplay at most before left r
fills_up at most before left rest r s full = ended at most before left rest r s (run_of_none (most_windows - r.count) r.room rest (omega arith)) (λ e. absurd (omega arith))

-- ---- over a log that tells its windows

-- so it runs over the windows that are told
abbrev pub Running : Test → ℕ → ℕ → ℕ → List ℕ → Option (List Span) → Replayed → Type 0
Running test at target most before told r = IfSome told (λ ws. RunsSo at most before (cuts test (windows_between at target ws)) (cuts test (windows_between r.last target ws)) r)

abbrev pub Replays : Test → ℕ → ℕ → ℕ → List ℕ → Option (List Span) → Replayed → Type 0
Replays test at target most before told r = IfSome told (λ ws. IsReplay at most before (cuts test (windows_between at target ws)) r)

module _ (test : Test) (at target most : ℕ) (before : List ℕ) where
  pub begins : (told : Option (List Span)) → Running test at target most before told (record { bytes = before; count = 0; last = at; room = most; unfit = None })
  begins None = tt
  begins (Some ws) = begun at most before (cuts test (windows_between at target ws))

  module _ (floor high : ℕ) (r : Replayed) where
    pub one_more : (told : Option (List Span)) (now : Replayed) (w : Span) → IfSome told (λ ws. Holds floor high ws) → IfSome told (λ ws. Some w ≡ span_upto target (first_after r.last ws)) → Running test at target most before told r
        → r.count < most_windows → now ≡ with_window r (cut test w) → is_some now.unfit ≡ false → Running test at target most before told now
    one_more None now w h n s few e fits = tt
    one_more (Some ws) now w h n s few e fits =
        let left = cuts test (windows_between at target ws) in
        let next = next_in floor r.last target ws w (timeline_rises floor ws h.chained) n in
        subst (λ m. RunsSo at most before left (cuts test (windows_between m target ws)) now) (sym (fitted r now (cut test w) e fits).0)
        (goes_on at most before left (cuts test (windows_between w.scn target ws)) r now (cut test w) (subst (λ stretch. RunsSo at most before left (cuts test stretch) r) next s) few e fits)

    pub one_unfit : (told : Option (List Span)) (now : Replayed) (w : Span) → IfSome told (λ ws. Holds floor high ws) → IfSome told (λ ws. Some w ≡ span_upto target (first_after r.last ws)) → Running test at target most before told r
        → now ≡ with_window r (cut test w) → is_some now.unfit ≡ true → Replays test at target most before told now
    one_unfit None now w h n s e unfit = tt
    one_unfit (Some ws) now w h n s e unfit =
        let left = cuts test (windows_between at target ws) in
        let next = next_in floor r.last target ws w (timeline_rises floor ws h.chained) n in
        stops at most before left (cuts test (windows_between w.scn target ws)) r now (cut test w) (subst (λ stretch. RunsSo at most before left (cuts test stretch) r) next s) e unfit

    pub none_left : (told : Option (List Span)) → IfSome told (λ ws. Holds floor high ws) → IfSome told (λ ws. None ≡ span_upto target (first_after r.last ws)) → Running test at target most before told r → Replays test at target most before told r
    none_left None h n s = tt
    none_left (Some ws) h n s =
        let left = cuts test (windows_between at target ws) in
        let none = next_none floor r.last target ws (timeline_rises floor ws h.chained) n in
        runs_out at most before left r (subst (λ stretch. RunsSo at most before left (cuts test stretch) r) none s)

    pub none_more : (told : Option (List Span)) → Running test at target most before told r → most_windows ≤ r.count → Replays test at target most before told r
    none_more None s full = tt
    none_more (Some ws) s full = fills_up at most before (cuts test (windows_between at target ws)) (cuts test (windows_between r.last target ws)) r s full

-- ---- its reply

-- the longest run of windows is the reply, where it has one
replies_windows : (high most : ℕ) (left : List Span) (w : Span) (ws : List Span) → w ∷ ws ≡ longest_run most_windows most left → replay_of high most left ≡ SomeWindows (w ∷ ws)
replies_windows high most [] w ws e = absurd cc
replies_windows high most (v ∷ left) w ws e =
    elim (cases_lt most (span_size v)) [
      | inl large ↦ let none = e ∙ run_ends most_windows most v left large in absurd cc
      | inr small ↦ ap reply_of (cond-false (nat_lt most (span_size v)) _ _ (le-ltb most (span_size v) small)) ∙ ap SomeWindows (sym e)
    ]

replies_none : (high most : ℕ) (unfit : Option ℕ) (left : List Span) → HasNone most unfit left → replay_of high most left ≡ OneAnswer (no_window high unfit)
replies_none high most None left h = ap (replay_of high most) h
replies_none high most (Some size) [] h = absurd h
replies_none high most (Some size) (w ∷ ws) h =
    ap reply_of (cond-true (nat_lt most (span_size w)) _ _ (lt-ltb most (span_size w) (omega (arith, h.0, h.1)))) ∙ ap (λ n. OneAnswer (TooSmall n)) (sym h.0)

-- a replay's reply, by the windows that were taken
replies_taken : (high at most : ℕ) (before : List ℕ) (left taken : List Span) (r : Replayed) (s : Shape) (new : List ℕ)
    → r.bytes ≡ before ++ windows_bytes taken → r.count ≡ length taken → r.last ≡ end_from at taken → taken ≡ longest_run most_windows most left → (r.count ≡ 0 → HasNone most r.unfit left)
    → s ≡ replay_shape high r.count r.last r.unfit → new ≡ r.bytes ++ tail_of s → Appends (replay_of high most left) s before new
replies_taken high at most before left [] r s new bytes count last longest none told written =
    let is : s ≡ Only (no_window high r.unfit) = told ∙ cond-false (nat_lt 0 r.count) _ _ (le-ltb 0 r.count (omega (arith, count))) in
    let reply = replies_none high most r.unfit left (none count) in
    record {
      told = is ∙ ap shape_of (sym reply);
      bytes = written ∙ ap (λ l. l ++ tail_of s) (bytes ∙ append-nil before) ∙ ap (λ t. before ++ tail_of t) is ∙ ap (λ t. before ++ bytes_of t) (sym reply);
    }
replies_taken high at most before left (w ∷ ws) r s new bytes count last longest none told written =
    let is : s ≡ Windows r.count r.last = told ∙ cond-true (nat_lt 0 r.count) _ _ (lt-ltb 0 r.count (omega (arith, count))) in
    let reply = replies_windows high most left w ws longest in
    record {
      told = is ∙ (λ i. Windows (count i) (last i)) ∙ ap shape_of (sym reply);
      bytes = written ∙ ap (λ t. r.bytes ++ tail_of t) is ∙ append-nil r.bytes ∙ bytes ∙ ap (λ t. before ++ bytes_of t) (sym reply);
    }

-- the reply of a replay
pub replies : (high at most : ℕ) (before : List ℕ) (left : List Span) (r : Replayed) (s : Shape) (new : List ℕ) → IsReplay at most before left r
    → s ≡ replay_shape high r.count r.last r.unfit → new ≡ r.bytes ++ tail_of s → Appends (replay_of high most left) s before new
replies high at most before left r s new h told written =
    replies_taken high at most before left h.taken r s new h.bytes h.count h.last h.longest h.none told written

-- ---- one cut window

-- bytes behind which a window was written
pub cut_long : (before out : List ℕ) (w : Span) (n m : ℕ) → out ≡ before ++ window_bytes w → n ≡ length out → m ≡ length before → n - m ≡ span_size w
cut_long before out w n m e long short = omega (arith, long, short, ap length e, length-append before (window_bytes w), window_length w)

pub cut_fits : (before out : List ℕ) (w : Span) (room size : ℕ) → out ≡ before ++ window_bytes w → size ≡ span_size w → size ≤ room → out ≡ with_cut room w before
cut_fits before out w room size e is fits = e ∙ sym (cond-true (nat_le (span_size w) room) _ _ (le-leb (span_size w) room (omega (arith, is))))

pub cut_back_off : (before out now : List ℕ) (w : Span) (room size n : ℕ) → out ≡ before ++ window_bytes w → size ≡ span_size w → room < size → n ≡ length before → now ≡ take n out → now ≡ with_cut room w before
cut_back_off before out now w room size n e is large short cut =
    cut ∙ cut_back before out n short (record { more = window_bytes w; is = e }) ∙ sym (cond-false (nat_le (span_size w) room) _ _ (lt-leb (span_size w) room (omega (arith, is))))

-- a cut window is within its limits
pub cut_small : (test : Test) (w : Span) (size : ℕ) → IsSpan w → size ≡ span_size (cut test w) → size ≤ MAX_WINDOW
cut_small test w size is e = omega (arith, e, (cut_span test w is).size)

-- ---- a log that is read meanwhile

-- what is told of the windows now was told of them before
pub told_before : (old now : LogState) (P : List Span → Type 0) → SameLog old now → IfSome now.windows P → IfSome old.windows P
told_before old now P same h = subst (λ (windows : Option (List Span)). IfSome windows P) (ap (λ (l : LogState). l.windows) same) h
