use Rattle.std.proofs.Common.{subst, ap, ◌∙◌, arith}
use Rattle.partition_filter.specs.Selection.{test_of}
use Rattle.bus_stores.proofs.Ahead.{unmoved_none, unmoved_more, rests_on}
use Rattle.delta_consolidate.specs.Latest.{kept_after}
use Rattle.delta_consolidate.specs.Gathering.{FindsNext}
use Rattle.delta_consolidate.proofs.Stretch.{none_walked, more_walked, upto_walked}
use Rattle.delta_consolidate.proofs.gathering.gather.Goals as goal

pub windows-init : goal.windows-init
windows-init g c = record {
  unmoved = unmoved_none (g.G.WindowLog.state c.args.log.now);
  crash = c.high-within.ensures.crash;
  walked = none_walked (test_of c.args.filter.now) c.args.cursor.now c.args.most c.args.since c.args.target (g.G.WindowLog.state c.args.log.now) c.new-latest.result.entries c.new-latest.ensures.empty;
  few = omega (arith, c.new-latest.ensures.len);
}

pub windows-preserved : goal.windows-preserved
windows-preserved g c =
    let test = test_of c.args.filter.now in
    let old = g.G.WindowLog.state c.args.log.now in
    let now = g.G.WindowLog.state c.windows.log in
    let new = g.G.WindowLog.state c.next_upto.new.log in
    let next = subst (λ found. FindsNext c.windows.at c.args.target now found) c.in-Some.is c.in_ok-window.ensures.found in
    let taken = c.in_ok-take_changes.ensures.ok ∙ ap (kept_after test c.args.cursor.now c.args.most c.windows.latest.entries) c.into_changes.ensures in
    let more = more_walked test c.args.cursor.now c.args.most c.args.since c.windows.at c.args.target old now c.in-Some.window c.windows.latest.entries c.take_changes.new.latest.entries c.windows.invariant.unmoved.same next taken c.windows.invariant.walked in
    record {
      unmoved = unmoved_more old now new _ c.windows.invariant.unmoved c.next_upto.ensures.reads.counts c.next_upto.ensures.reads.same;
      crash = rests_on (λ ws b. g.G.WindowLog.passes ws b c.args.log.now c.windows.log) (λ ws b. g.G.WindowLog.passes ws b c.windows.log c.next_upto.new.log) (λ ws b. g.G.WindowLog.passes ws b c.args.log.now c.next_upto.new.log)
          old now (λ ws b p q. g.met.G.WindowLog.passes_on ws b c.args.log.now c.windows.log c.next_upto.new.log p q) c.windows.invariant.unmoved.same c.windows.invariant.crash c.next_upto.ensures.crash;
      walked = rw c.scn-at.ensures.value more;
      few = c.take_changes.ensures.few;
    }

pub returns-clause-gathered : goal.returns-clause-gathered
returns-clause-gathered g c =
    upto_walked (test_of c.args.filter.now) c.args.cursor.now c.args.most c.args.since c.windows.at c.args.target (g.G.WindowLog.state c.args.log.now) c.windows.latest.entries (omega (arith, c.windows-test.false)) c.windows.invariant.walked
