-- A bootstrap that stands for a timeline still does after a reply that is true of it.
use Rattle.std.proofs.Common.{◌≡◌, ℕ, ◌≤◌, inl, inr, Bool, true, false, cond, ltb, leb, List, [], ◌∷◌, ◌++◌, length, take, drop, take-append-drop, Option, Some, None, Result, Ok, Err, refl, sym, ap, subst, ◌∙◌, arith}
use Rattle.std.specs.Prelude.{IfSome, option_map}
use Rattle.std.proofs.lemmas.List.{take_all}
use Rattle.bus_types.specs.declared.change.Change.{Change}
use Rattle.bus_types.specs.declared.limits.TheConstants.{MAX_SCN}
use Rattle.bus_types.specs.Change.{accepted}
use Rattle.bus_types.specs.Window.{Span, span_size}
use Rattle.bus_types.specs.Timeline.{IsTimeline, end_from, end_of, windows_between}
use Rattle.bus_types.specs.Cut.{cuts}
use Rattle.bus_types.specs.Relay.{Served, NotFound, Empty, TooSmall, Windows, most_windows, longest_run, fitting, stream, is_place}
use Rattle.bus_types.proofs.Stretches.{Rises, timeline_rises, rises_all, rises_front, end_from-append, between-split, between_run, run_rises}
use Rattle.bus_types.proofs.Floors.{rises_fore, between_fore, parted_at, end_is_place}
use Rattle.bus_types.proofs.Runs.{longest_run_is}
use Rattle.partition_filter.specs.Selection.{test_of}
use Rattle.partition_filter.specs.Selection.Selection.{All}
use Rattle.event_codec.specs.declared.answer.Answer.{Answer}
use Rattle.event_codec.specs.declared.reply.Shape.TheVariants as shapes
use Rattle.event_codec.specs.Reply.{reply_bytes}
use Rattle.bus_wire.specs.Lawful.{IsLawful}
use Rattle.bus_wire.specs.Served.{Serves}
use Rattle.bus_wire.proofs.Walk.{one_run}
use Rattle.bus_wire.proofs.Uniqueness.{one_shape}
use Rattle.bus_wire.proofs.Replies.{place_bound, stream_serves}
use Rattle.bootstrap_core.specs.declared.fault.TakeLog.{TakeLog}
use Rattle.bootstrap_core.specs.declared.fault.TakeLog.TheVariants.{BadReply, Gap, Full, LogFailed, Halted, NoMemory}
use Rattle.bootstrap_core.specs.Boot.{BootState, StandsForBoot, Stands}
use Rattle.bootstrap_core.specs.Logging.{most_bytes, log_ask, AreWindowsBehind, Logged, TakesLog, IsRelayReply}

-- ---- the windows of a true reply

accepted_all : (cs : List Change) → accepted (test_of All) cs ≡ cs
accepted_all [] = refl
accepted_all (c ∷ cs) = ap (λ ds. c ∷ ds) (accepted_all cs)

-- the filter of all leaves windows as they are
cuts_all : (ws : List Span) → cuts (test_of All) ws ≡ ws
cuts_all [] = refl
cuts_all (w ∷ ws) = (λ i. record { scn = w.scn; prev = w.prev; changes = accepted_all w.changes i } ∷ cuts_all ws i)

either : (P : Served → Type 0) (b : Bool) (x y : Served) → P x → P y → P (cond b x y)
either P true x y p q = p
either P false x y p q = q

-- what is served is a run of these windows, where it is windows
abbrev Runs : List Span → List Span → Served → Type 0
Runs left vs served = served ≡ Windows vs → (k : ℕ) × (vs ≡ take k left)

fitting_runs : (max : ℕ) (left vs : List Span) → Runs left vs (fitting max left)
fitting_runs max [] vs = λ e. (0, cc)
fitting_runs max (w ∷ left) vs =
    let run = longest_run most_windows max (w ∷ left) in
    either (Runs (w ∷ left) vs) (ltb max (span_size w)) (TooSmall (span_size w)) (Windows run) (λ e. absurd cc)
    (λ e. let same : run ≡ vs = cc in (length run, sym same ∙ (longest_run_is most_windows max (w ∷ left)).front))

stream_runs : (ws : List Span) (floor end scn max : ℕ) (vs : List Span) → Runs (windows_between scn end ws) vs (stream ws floor end scn (test_of All) max)
stream_runs ws floor end scn max vs =
    let stretch = windows_between scn end ws in
    let left = cuts (test_of All) stretch in
    either (Runs stretch vs) (ltb scn floor) (NotFound floor) (cond (leb end scn) (Empty end) (fitting max left)) (λ e. absurd cc)
    (either (Runs stretch vs) (leb end scn) (Empty end) (fitting max left) (λ e. absurd cc)
    (λ e. let run = fitting_runs max left vs e in (run.0, run.1 ∙ ap (take run.0) (cuts_all stretch))))

no_answer : (scn : ℕ) (bytes : List ℕ) (vs : List Span) (answer : Answer) → AreWindowsBehind scn bytes vs → IsLawful (log_ask scn) bytes (shapes.Only answer) → ⊥
no_answer scn bytes vs answer are lawful =
    let run : IsLawful (log_ask scn) bytes (shapes.Windows (length vs) (end_of vs)) = record { windows = vs; spelled = are.spelled; run = are.run; counted = refl; ends = refl } in
    let same = one_shape (log_ask scn) bytes (shapes.Windows (length vs) (end_of vs)) (shapes.Only answer) run lawful in
    cc

-- bytes that are windows were served as those
served_windows : (scn : ℕ) (bytes : List ℕ) (vs : List Span) (served : Served) → AreWindowsBehind scn bytes vs → bytes ≡ reply_bytes served → Serves scn All most_bytes served → served ≡ Windows vs
served_windows scn bytes vs (NotFound floor) are spelled serves = absurd (no_answer scn bytes vs _ are (spelled, serves))
served_windows scn bytes vs (Empty end) are spelled serves = absurd (no_answer scn bytes vs _ are (spelled, serves))
served_windows scn bytes vs (TooSmall need) are spelled serves = absurd (no_answer scn bytes vs _ are (spelled, serves))
served_windows scn bytes vs (Windows ws) are spelled serves = ap Windows (one_run scn MAX_SCN All bytes ws vs serves are.run spelled are.spelled)

-- they are a run of the timeline
reply_runs : (ws : List Span) (scn : ℕ) (bytes : List ℕ) (vs : List Span) → IsTimeline ws → AreWindowsBehind scn bytes vs → IsRelayReply ws scn bytes → (end : ℕ) × (k : ℕ) × (vs ≡ take k (windows_between scn end ws))
reply_runs ws scn bytes vs t are r =
    let served = stream ws r.floor r.end scn (test_of All) most_bytes in
    let serves = stream_serves ws r.floor r.end scn All most_bytes t r.end_place (place_bound r.floor ws t r.floor_place) in
    let run = stream_runs ws r.floor r.end scn most_bytes vs (served_windows scn bytes vs served are r.is serves) in
    (r.end, run.0, run.1)

-- ---- a run of a timeline is appended

-- it ends at a place
run_ends_at_place : (ws : List Span) (scn end k : ℕ) (run : List Span) → IsTimeline ws → is_place scn ws ≡ true → run ≡ take k (windows_between scn end ws) → is_place (end_from scn run) ws ≡ true
run_ends_at_place ws scn end k run t place is =
    let last = end_from scn run in
    let rises = timeline_rises 0 ws t in
    let parts = parted_at 0 scn ws place in
    let both = subst (Rises 0) (sym parts.whole) rises in
    let upto : windows_between 0 scn ws ≡ parts.front =
    (λ i. windows_between 0 (sym parts.end i) (sym parts.whole i)) ∙ between_fore 0 0 parts.front parts.back both
    ∙ rises_all 0 0 (end_from 0 parts.front) parts.front (rises_fore 0 parts.front parts.back both) (omega arith) (omega arith) in
    let all : windows_between 0 last ws ≡ parts.front ++ run =
    between-split 0 0 scn last ws t (omega arith) (run_rises 0 scn end k ws run t is) ∙ (λ i. upto i ++ between_run 0 scn end k ws run t is i) in
    let n = length (windows_between 0 last ws) in
    let ends : end_from 0 (take n ws) ≡ last =
    ap (end_from 0) (sym (rises_front 0 last ws rises) ∙ all) ∙ end_from-append 0 parts.front run ∙ ap (λ m. end_from m run) parts.end in
    subst (λ m. is_place m ws ≡ true) ends (subst (λ (xs : List Span). is_place (end_from 0 (take n ws)) xs ≡ true) (take-append-drop n ws) (end_is_place 0 (take n ws) (drop n ws)))

held_more : (ws : List Span) (floor high floor' high' : ℕ) (run : List Span) (told : Option (List Span)) → windows_between floor' high' ws ≡ windows_between floor high ws ++ run → IfSome told (λ held. held ≡ windows_between floor high ws)
    → IfSome (option_map (λ held. held ++ run) told) (λ held. held ≡ windows_between floor' high' ws)
held_more ws floor high floor' high' run None split e = tt
held_more ws floor high floor' high' run (Some held) split e = ap (λ hs. hs ++ run) e ∙ sym split

module _ (ws : List Span) (t : IsTimeline ws) (old new : BootState) (s : Stands ws old) where
  run_stands : (end k : ℕ) (run : List Span) → run ≡ take k (windows_between old.log.high end ws) → Logged run old new → Stands ws new
  run_stands end k run is l =
      let high = old.log.high in
      let same : windows_between high (end_from high run) ws ≡ run = between_run 0 high end k ws run t is in
      let later : high ≤ end_from high run = run_rises 0 high end k ws run t is in
      let low = s.between.low in
      let order = s.between.order in
      let below = s.between.high in
      let ends = l.high in
      let begins = l.floor in
      let split : windows_between new.log.floor new.log.high ws ≡ windows_between old.log.floor high ws ++ run =
      (λ i. windows_between (l.floor i) (l.high i) ws) ∙ between-split 0 old.log.floor high (end_from high run) ws t (omega arith) later ∙ ap (λ vs. windows_between old.log.floor high ws ++ vs) same in
      let moved : StandsForBoot ws new.log old.keeper old.mark = record {
        lawful = record {
          applied = s.lawful.applied;
          high = omega arith;
          base_place = s.lawful.base_place;
          applied_place = s.lawful.applied_place;
          high_place = subst (λ n. is_place n ws ≡ true) (sym l.high) (run_ends_at_place ws high end k run t s.lawful.high_place is);
        };
        between = record { low = omega arith; order = order; high = omega arith };
        stretch = record {
          floor = subst (λ n. is_place n ws ≡ true) (sym l.floor) s.stretch.floor;
          windows = subst (λ told. IfSome told (λ held. held ≡ windows_between new.log.floor new.log.high ws)) (sym l.windows) (held_more ws old.log.floor high new.log.floor new.log.high run old.log.windows split s.stretch.windows);
        };
        table = s.table;
      } in
      subst (λ m. StandsForBoot ws new.log new.keeper m) (sym l.mark) (subst (λ k. StandsForBoot ws new.log k old.mark) (sym l.keeper) moved)

  same_stands : new ≡ old → Stands ws new
  same_stands same = subst (λ (b : BootState). Stands ws b) (sym same) s

  module _ (bytes : List ℕ) (r : IsRelayReply ws old.log.high bytes) where
    -- the first windows of the reply were appended
    front_stands : (vs : List Span) (n : ℕ) → AreWindowsBehind old.log.high bytes vs → Logged (take n vs) old new → Stands ws new
    front_stands vs n are l =
        let run = reply_runs ws old.log.high bytes vs t are r in
        let last = end_from old.log.high vs in
        let whole : windows_between old.log.high last ws ≡ vs = between_run 0 old.log.high run.0 run.1 ws vs t run.2 in
        run_stands last n (take n vs) (ap (take n) (sym whole)) l

    pub stands_taken : (result : Result ℕ TakeLog) (count : ℕ) → TakesLog result count bytes old new → new.halted ≡ false → Stands ws new
    stands_taken (Ok scn) count takes runs =
        elim takes.are [
          | inl none ↦
              let empty : take count takes.windows ≡ [] = ap (take count) none.2 ∙ take_all count [] (omega arith) in
              run_stands 0 0 (take count takes.windows) empty takes.logged
          | inr some ↦ front_stands takes.windows count some.0 takes.logged
        ]
    stands_taken (Err (BadReply place)) count takes runs = same_stands takes.0
    stands_taken (Err (Gap floor)) count takes runs = same_stands takes.0
    stands_taken (Err (Full need)) count takes runs = front_stands takes.windows takes.done takes.are takes.logged
    stands_taken (Err LogFailed) count takes runs = (let halted = takes.1.halted in absurd cc)
    stands_taken (Err Halted) count takes runs = same_stands takes
    stands_taken (Err NoMemory) count takes runs = front_stands takes.windows takes.done takes.are takes.logged
