-- Who replays what changed since its scan began: each reply of a bootstrap that is true of the timeline keeps the rows right.
use Rattle.std.proofs.Common.{◌≡◌, ℕ, ◌<◌, ◌≤◌, true, false, cond, ◌==◌, nat_lt, List, Option, Some, None, is_some, refl, sym, ap, subst, ◌∙◌, arith, true≢false}
use Rattle.std.proofs.lemmas.Bool.{cond_both, cond-true, cond-false, eqb-true, eqb-false}
use Rattle.bus_types.specs.declared.change.Change.{Change}
use Rattle.bus_types.specs.declared.change.RowName.{RowName}
use Rattle.bus_types.specs.Change.{Test, accepted}
use Rattle.bus_types.specs.Window.{Span}
use Rattle.bus_types.specs.Timeline.{IsTimeline, end_from, windows_between, changes_between}
use Rattle.bus_types.specs.Table.{RowList, table, rows_after, payload_at, later, last_between}
use Rattle.bus_types.specs.Cut.{cuts}
use Rattle.bus_types.specs.Relay.{most_windows}
use Rattle.bus_types.proofs.TableLaws.{payload_after, payload_at-after, rows_after-ordered, last_change-accepted}
use Rattle.event_codec.specs.declared.answer.Answer.TheVariants.{Behind, LogGone}
use Rattle.checkpoint.specs.declared.mark.Mark.TheVariants.{Online, Catchup as Replaying}
use Rattle.checkpoint.specs.Mark.{IsMark}
use Rattle.event_codec.specs.Questions.{Catchup, Reply, Windows, Only}
use Rattle.client_switch.specs.Moves.{changes_of}
use Rattle.client_switch.specs.Good.{IsAsAt, IsAsWithin, changed, Good}
use Rattle.bus_wire.specs.True.{replay_of, IsBootedBy}
use Rattle.client_switch.proofs.Payloads.{last_between-split, changed_at, unchanged, view_is}
use Rattle.client_switch.proofs.Runs.{IsRun, run_low, run_high, run_above, run_changes}
use Rattle.client_switch.proofs.Replies.{Keeps, good_small, good_behind, good_gone, replay_cases}
use Rattle.client_switch.proofs.GoodOnline.{good_view}

-- what a replay that has come to an SCN makes of a row
abbrev IsReplayed : List Span → RowList → RowName → ℕ → ℕ → ℕ → Type 0
IsReplayed ws rows q start target at = (changed ws q start at ≡ true → IsAsAt ws rows q at) × (changed ws q start at ≡ false → IsAsWithin ws rows q start target)

-- one more stretch, by the last change of the row in it
replayed_more : (ws : List Span) (rows next : RowList) (q : RowName) (start target at last : ℕ) (found : Option Change) → IsTimeline ws → start ≤ at → at ≤ last → last_between ws q at last ≡ found → payload_at next q ≡ payload_after found (payload_at rows q) → IsReplayed ws rows q start target at → IsReplayed ws next q start target last
replayed_more ws rows next q start target at last None t l h e n was =
    let same : changed ws q start last ≡ changed ws q start at = ap is_some (last_between-split ws q start at last t l h ∙ ap (later (last_between ws q start at)) e) in
    let stays : payload_at (table ws last) q ≡ payload_at (table ws at) q = changed_at ws q at last t h ∙ ap (λ found. payload_after found (payload_at (table ws at) q)) e in (
      (λ c. n ∙ was.0 (sym same ∙ c) ∙ sym stays),
      (λ c. let within = was.1 (sym same ∙ c) in record { at = within.at; low = within.low; high = within.high; same = n ∙ within.same }),
    )
replayed_more ws rows next q start target at last (Some c) t l h e n was =
    let moves : changed ws q start last ≡ true = ap is_some (last_between-split ws q start at last t l h ∙ ap (later (last_between ws q start at)) e) in (
      (λ _. n ∙ sym (changed_at ws q at last t h ∙ ap (λ found. payload_after found (payload_at (table ws at) q)) e)),
      (λ f. absurd (true≢false (sym moves ∙ f))),
    )

-- the accepted changes up to a later SCN
good_replayed : (ws : List Span) (test : Test) (since start target at last : ℕ) (rows : RowList) → IsTimeline ws → start ≤ at → at ≤ last → last ≤ target → Good ws test (Replaying since start target at) rows → Good ws test (Replaying since start target last) (rows_after rows (accepted test (changes_between at last ws)))
good_replayed ws test since start target at last rows t l h within g =
    let cs = accepted test (changes_between at last ws) in
    let moved = λ (q : RowName). payload_at-after rows cs q g.ordered ∙ ap (λ found. payload_after found (payload_at rows q)) (last_change-accepted test (changes_between at last ws) q) in
    record {
      ordered = rows_after-ordered rows cs g.ordered;
      accepted = λ q f. moved q ∙ ap (λ found. payload_after found (payload_at rows q)) (cond-false (test q.source q.key) (last_between ws q at last) None f) ∙ g.accepted q f;
      come = omega (arith, g.come);
      right = (
        g.right.0,
        λ q e.
            replayed_more ws rows (rows_after rows cs) q start target at last (last_between ws q at last) t l h refl
            (moved q ∙ ap (λ found. payload_after found (payload_at rows q)) (cond-true (test q.source q.key) (last_between ws q at last) None e))
            (g.right.1 q e),
      );
    }

-- at its target
good_caught_up : (ws : List Span) (test : Test) (since start target : ℕ) (rows : RowList) → IsTimeline ws → start ≤ target → Good ws test (Replaying since start target target) rows → Good ws test (Online target) rows
good_caught_up ws test since start target rows t h g =
    good_view ws test target rows (omega (arith, g.come))
    (view_is test ws target rows g.ordered g.accepted (λ q e.
    elim (changed ws q start target) as (λ b. changed ws q start target ≡ b → IsAsAt ws rows q target) [
      | true ↦ λ c. (g.right.1 q e).0 c
      | false ↦ λ c.
          let was = (g.right.1 q e).1 c in
          was.same ∙ unchanged ws q start target was.at t c was.low was.high ∙ sym (unchanged ws q start target target t c h (omega arith))
    ] refl))

good_replay_windows : (ws : List Span) (test : Test) (since start target at most : ℕ) (rows : RowList) (run : List Span) → IsTimeline ws → IsMark (Replaying since start target at) → Good ws test (Replaying since start target at) rows → IsRun ws test most_windows most at target run → Keeps ws test (Replaying since start target at) rows (Windows run)
good_replay_windows ws test since start target at most rows run t m g e =
    let last = end_from at run in
    let from : start ≤ at = m.0 in
    let before : at < target = m.1 in
    let low = run_low ws test most_windows most at target run t e in
    let high = run_high ws test most_windows most at target run t (omega arith) e in
    let next = rows_after rows (changes_of run) in
    let further : Good ws test (Replaying since start target last) next =
    subst (λ (cs : List Change). Good ws test (Replaying since start target last) (rows_after rows cs)) (sym (run_changes ws test most_windows most at target run t e))
    (good_replayed ws test since start target at last rows t from low high g) in
    record {
      good = cond_both (last == target) (Online target) (Replaying since start target last) (λ mark. Good ws test mark next)
          (λ same. good_caught_up ws test since start target next t (omega arith) (subst (λ n. Good ws test (Replaying since start target n) next) (eqb-true last target same) further))
          (λ _. further);
      marked = cond_both (last == target) (Online target) (Replaying since start target last) IsMark
          (λ _. m.3)
          (λ e.
          let other = eqb-false last target e in
          (omega arith, omega arith, m.2, m.3));
      wished = tt;
      lawful = run_above ws test most_windows most at target run e;
    }

-- each reply to who asks for the windows of a replay
pub good_replay : (ws : List Span) (test : Test) (since start target at most : ℕ) (rows : RowList) (reply : Reply) → IsTimeline ws → IsMark (Replaying since start target at) → Good ws test (Replaying since start target at) rows → IsBootedBy ws test (Catchup at target most) reply → Keeps ws test (Replaying since start target at) rows reply
good_replay ws test since start target at most rows reply t m g s =
    let b = s.boot in
    let mark = Replaying since start target at in
    let P : Reply → Type 0 = Keeps ws test mark rows in
    let cut_windows = cuts test (windows_between at target ws) in
    subst P (sym s.is)
    (cond_both (nat_lt at b.base) (Only (LogGone b.base)) (cond (nat_lt b.high target) (Only (Behind b.high)) (replay_of b.high most cut_windows)) P
    (λ _. good_gone ws test mark rows m g b.base)
    (λ _. cond_both (nat_lt b.high target) (Only (Behind b.high)) (replay_of b.high most cut_windows) P
    (λ _. good_behind ws test mark rows m g b.high)
    (λ _. replay_cases P b.high most cut_windows (good_behind ws test mark rows m g b.high) (good_small ws test mark rows m g)
    (λ run e. good_replay_windows ws test since start target at most rows run t m g e))))
