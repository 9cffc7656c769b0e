-- Rows that are good for a mark and a timeline stay so while the source commits.
use Rattle.std.proofs.Common.{◌≡◌, ℕ, ◌≤◌, List, [], ◌∷◌, ◌++◌, is_some, sym, ap, ◌∙◌, arith}
use Rattle.bus_types.specs.declared.change.RowName.{RowName}
use Rattle.bus_types.specs.Change.{Test}
use Rattle.bus_types.specs.Window.{Span}
use Rattle.bus_types.specs.Timeline.{Follows, end_of}
use Rattle.bus_types.specs.Table.{RowList, rows_after, payload_at, last_change}
use Rattle.bus_types.specs.View.{shown}
use Rattle.bus_types.proofs.Stretches.{between_none, between_stays, table_stays, view_stays, end_from-append}
use Rattle.checkpoint.specs.declared.mark.Mark.{Mark}
use Rattle.checkpoint.specs.declared.mark.Mark.TheVariants.{Online, Delta, Snapshot, Scanned, Catchup}
use Rattle.client_switch.specs.Moves.{changes_of}
use Rattle.client_switch.specs.Good.{IsAsAt, IsAsWithin, greatest, changed, AreRight, Good}
use Rattle.client_switch.proofs.GoodOnline.{good_view}

-- no rows are good for who is online at 0
pub good_new : (ws : List Span) (test : Test) → Good ws test (Online 0) []
good_new ws test = good_view ws test 0 [] (omega arith) (sym (ap (λ (stretch : List Span). shown test (rows_after [] (changes_of stretch))) (between_none 0 0 ws (omega arith))))

module _ (ws : List Span) (w : Span) (f : Follows (end_of ws) w) where
  abbrev more : List Span
  more = ws ++ w ∷ []

  as_at_stays : (rows : RowList) (name : RowName) (scn : ℕ) → scn ≤ end_of ws → IsAsAt ws rows name scn → IsAsAt more rows name scn
  as_at_stays rows name scn h e = e ∙ ap (λ (l : RowList). payload_at l name) (sym (table_stays ws w scn f h))

  within_stays : (rows : RowList) (name : RowName) (from upto : ℕ) → upto ≤ end_of ws → IsAsWithin ws rows name from upto → IsAsWithin more rows name from upto
  within_stays rows name from upto h was =
      let high = was.high in
      record { at = was.at; low = was.low; high = was.high; same = as_at_stays rows name was.at (omega arith) was.same }

  changed_stays : (name : RowName) (low high : ℕ) → high ≤ end_of ws → changed more name low high ≡ changed ws name low high
  changed_stays name low high h = ap (λ (stretch : List Span). is_some (last_change name (changes_of stretch))) (between_stays low high ws w f h)

  right_stays : (test : Test) (mark : Mark) (rows : RowList) → greatest mark ≤ end_of ws → AreRight ws test mark rows → AreRight more test mark rows
  right_stays test (Online scn) rows h r = r ∙ sym (view_stays test ws w scn f h)
  right_stays test (Delta since target cursor) rows h r = λ name t. (
    (λ e. as_at_stays rows name target (omega arith) ((r name t).0 e)),
    (λ e. as_at_stays rows name since (omega arith) ((r name t).1 e)),
  )
  right_stays test (Snapshot since start top cursor) rows h r = λ name t. (
    (λ e. within_stays rows name start top (omega arith) ((r name t).0 e)),
    (r name t).1,
  )
  right_stays test (Scanned since start top) rows h r = λ name t. within_stays rows name start top (omega arith) (r name t)
  right_stays test (Catchup since start target at) rows h r = (
    r.0,
    λ name t. (
      (λ e. as_at_stays rows name at (omega arith) ((r.1 name t).0 (sym (changed_stays name start at (omega arith)) ∙ e))),
      (λ e. within_stays rows name start target (omega arith) ((r.1 name t).1 (sym (changed_stays name start at (omega arith)) ∙ e))),
    ),
  )

  pub good_stays : (test : Test) (mark : Mark) (rows : RowList) → Good ws test mark rows → Good more test mark rows
  good_stays test mark rows g = record {
    ordered = g.ordered;
    accepted = g.accepted;
    come = omega (arith, g.come, end_from-append 0 ws (w ∷ []), f.chained, f.within.prev);
    right = right_stays test mark rows g.come g.right;
  }
