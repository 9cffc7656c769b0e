-- Who is online asks the relay: each reply that is true of the timeline keeps the rows right.
use Rattle.std.proofs.Common.{◌≡◌, ℕ, ◌≤◌, cond, nat_lt, nat_le, List, sym, ap, subst, ◌∙◌, arith}
use Rattle.std.specs.FinMap.{is_sorted}
use Rattle.std.proofs.lemmas.Bool.{cond_both, leb-false}
use Rattle.bus_types.specs.Change.{Test, name_cmp}
use Rattle.bus_types.specs.Window.{Span}
use Rattle.bus_types.specs.Timeline.{IsTimeline, end_of, end_from, windows_between}
use Rattle.bus_types.specs.Table.{RowList, table, rows_after}
use Rattle.bus_types.specs.View.{view}
use Rattle.bus_types.specs.Cut.{cuts}
use Rattle.bus_types.specs.Relay.{Served, fitting, most_windows}
use Rattle.bus_types.specs.Relay.Served.{NotFound as NoWindow, Empty as NothingNew}
use Rattle.bus_types.proofs.TableLaws.{table-ordered, shown-ordered}
use Rattle.bus_types.proofs.Runs.{view_replies}
use Rattle.event_codec.specs.declared.answer.Answer.TheVariants.{NotFound}
use Rattle.checkpoint.specs.declared.mark.Mark.TheVariants.{Online}
use Rattle.checkpoint.specs.Mark.{IsMark}
use Rattle.event_codec.specs.Questions.{Reply, Windows, Only}
use Rattle.client_switch.specs.Moves.{changes_of}
use Rattle.client_switch.specs.Good.{Good}
use Rattle.bus_wire.specs.True.{reply_of, IsServedBy}
use Rattle.client_switch.proofs.Payloads.{view_lacks}
use Rattle.client_switch.proofs.Ranges.{end_below}
use Rattle.client_switch.proofs.Runs.{IsRun, place_within, run_high, run_above}
use Rattle.client_switch.proofs.Replies.{Keeps, good_empty, good_small, fitting_cases}

-- the view is good for who is online
pub good_view : (ws : List Span) (test : Test) (scn : ℕ) (rows : RowList) → scn ≤ end_of ws → rows ≡ view test ws scn → Good ws test (Online scn) rows
good_view ws test scn rows h e = record {
  ordered = ap (is_sorted name_cmp) e ∙ shown-ordered test (table ws scn) (table-ordered ws scn);
  accepted = λ name f. view_lacks test ws scn rows name e f;
  come = h;
  right = e;
}

-- where windows after its SCN are gone
good_evicted : (ws : List Span) (test : Test) (scn : ℕ) (rows : RowList) (floor : ℕ) → IsMark (Online scn) → Good ws test (Online scn) rows → Keeps ws test (Online scn) rows (Only (NotFound floor))
good_evicted ws test scn rows floor m g = record { good = g; marked = m; wished = tt; lawful = tt }

-- windows
good_windows : (ws : List Span) (test : Test) (scn end most : ℕ) (rows : RowList) (run : List Span) → IsTimeline ws → end ≤ end_of ws → scn ≤ end → Good ws test (Online scn) rows → IsRun ws test most_windows most scn end run → Keeps ws test (Online scn) rows (Windows run)
good_windows ws test scn end most rows run t h le g e =
    let high = run_high ws test most_windows most scn end run t le e in
    let below = end_below ws t in
    record {
      good = good_view ws test (end_from scn run) (rows_after rows (changes_of run)) (omega arith)
          (ap (λ (l : RowList). rows_after l (changes_of run)) g.right ∙ view_replies test most_windows most scn end ws run t e);
      marked = omega arith;
      wished = tt;
      lawful = run_above ws test most_windows most scn end run e;
    }

-- each reply of a relay
pub good_stream : (ws : List Span) (test : Test) (scn most : ℕ) (rows : RowList) (reply : Reply) → IsTimeline ws → IsMark (Online scn) → Good ws test (Online scn) rows → IsServedBy ws test scn most reply → Keeps ws test (Online scn) rows reply
good_stream ws test scn most rows reply t m g s =
    let P : Served → Type 0 = λ served. Keeps ws test (Online scn) rows (reply_of served) in
    let fits = fitting most (cuts test (windows_between scn s.end ws)) in
    subst (Keeps ws test (Online scn) rows) (sym s.is)
    (cond_both (nat_lt scn s.floor) (NoWindow s.floor) (cond (nat_le s.end scn) (NothingNew s.end) fits) P
    (λ _. good_evicted ws test scn rows s.floor m g)
    (λ _. cond_both (nat_le s.end scn) (NothingNew s.end) fits P
    (λ _. good_empty ws test (Online scn) rows m g s.end)
    (λ e.
    let later = leb-false s.end scn e in
    fitting_cases P most (cuts test (windows_between scn s.end ws)) (good_small ws test (Online scn) rows m g)
    (λ run r. good_windows ws test scn s.end most rows run t (place_within s.end ws t s.end_place) (omega arith) g r))))
