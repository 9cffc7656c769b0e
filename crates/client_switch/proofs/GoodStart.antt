-- Who begins again: each reply of a bootstrap that is true of the timeline keeps the rows right.
use Rattle.std.proofs.Common.{ℕ, ◌<◌, ◌≤◌, cond, nat_lt, nat_le, List, true, false, true≢false, refl, sym, subst, arith}
use Rattle.std.proofs.lemmas.Bool.{cond_both, leb-false}
use Rattle.bus_types.specs.Change.{Test}
use Rattle.bus_types.specs.Window.{Span}
use Rattle.bus_types.specs.Timeline.{IsTimeline, end_of}
use Rattle.bus_types.specs.Table.{RowList}
use Rattle.event_codec.specs.declared.answer.Answer.TheVariants.{Behind, StartDelta, StartSnapshot}
use Rattle.checkpoint.specs.declared.mark.Mark.{Mark}
use Rattle.checkpoint.specs.declared.mark.Mark.TheVariants.{Online, Delta, Snapshot, Scanned, Catchup}
use Rattle.checkpoint.specs.Mark.{IsMark, floor_of}
use Rattle.event_codec.specs.Questions.{Start, Reply, Only}
use Rattle.client_switch.specs.Good.{Good, greatest}
use Rattle.bus_wire.specs.True.{IsBootedBy}
use Rattle.client_switch.proofs.Payloads.{view_has}
use Rattle.client_switch.proofs.Ranges.{end_below}
use Rattle.client_switch.proofs.Runs.{place_within}
use Rattle.client_switch.proofs.Replies.{Keeps, good_behind}

-- a mark's floor is one of its SCNs
pub floor_within : (mark : Mark) → floor_of mark ≤ greatest mark
floor_within (Online scn) = omega arith
floor_within (Delta since target cursor) = omega arith
floor_within (Snapshot since start top cursor) = omega arith
floor_within (Scanned since start top) = omega arith
floor_within (Catchup since start target at) = omega arith

-- a delta from where who is online stands
good_begun_delta : (ws : List Span) (test : Test) (scn high : ℕ) (rows : RowList) → IsTimeline ws → scn < high → high ≤ end_of ws → Good ws test (Online scn) rows → Keeps ws test (Online scn) rows (Only (StartDelta high))
good_begun_delta ws test scn high rows t lt h g = record {
  good = record {
    ordered = g.ordered;
    accepted = g.accepted;
    come = omega (arith, g.come);
    right = λ name t. (λ f. absurd (true≢false f), λ _. view_has test ws scn rows name g.right t);
  };
  marked = (lt, omega (arith, end_below ws t), tt);
  wished = tt;
  lawful = tt;
}

-- a scan from nothing
good_begun_scan : (ws : List Span) (test : Test) (mark : Mark) (rows : RowList) (applied : ℕ) → IsTimeline ws → applied ≤ end_of ws → Good ws test mark rows → Keeps ws test mark rows (Only (StartSnapshot applied))
good_begun_scan ws test mark rows applied t h g = record {
  good = record {
    ordered = refl;
    accepted = λ name f. refl;
    come = omega (arith, g.come, floor_within mark);
    right = λ name t. (λ f. absurd (true≢false f), λ _. refl);
  };
  marked = (omega arith, omega (arith, g.come, floor_within mark, end_below ws t), omega (arith, end_below ws t), tt);
  wished = tt;
  lawful = tt;
}

-- each reply to who is online and wishes to begin again from its SCN
pub good_start : (ws : List Span) (test : Test) (scn : ℕ) (rows : RowList) (reply : Reply) → IsTimeline ws → IsMark (Online scn) → Good ws test (Online scn) rows → IsBootedBy ws test (Start scn false) reply → Keeps ws test (Online scn) rows reply
good_start ws test scn rows reply t m g s =
    let b = s.boot in
    let P : Reply → Type 0 = Keeps ws test (Online scn) rows in
    subst P (sym s.is)
    (cond_both (nat_le b.high scn) (Only (Behind b.high)) (cond (nat_le b.base scn) (Only (StartDelta b.high)) (Only (StartSnapshot b.applied))) P
    (λ _. good_behind ws test (Online scn) rows m g b.high)
    (λ e. cond_both (nat_le b.base scn) (Only (StartDelta b.high)) (Only (StartSnapshot b.applied)) P
    (λ _. good_begun_delta ws test scn b.high rows t (leb-false b.high scn e) (place_within b.high ws t s.lawful.high_place) g)
    (λ _. good_begun_scan ws test (Online scn) rows b.applied t (place_within b.applied ws t s.lawful.applied_place) g)))

-- each reply to who wishes to begin again from nothing
pub good_fresh : (ws : List Span) (test : Test) (mark : Mark) (rows : RowList) (reply : Reply) → IsTimeline ws → IsMark mark → Good ws test mark rows → IsBootedBy ws test (Start (floor_of mark) true) reply → Keeps ws test mark rows reply
good_fresh ws test mark rows reply t m g s =
    let b = s.boot in
    let P : Reply → Type 0 = Keeps ws test mark rows in
    subst P (sym s.is)
    (cond_both (nat_lt b.high (floor_of mark)) (Only (Behind b.high)) (Only (StartSnapshot b.applied)) P
    (λ _. good_behind ws test mark rows m g b.high)
    (λ _. good_begun_scan ws test mark rows b.applied t (place_within b.applied ws t s.lawful.applied_place) g))
