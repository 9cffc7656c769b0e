use Rattle.std.proofs.Common.{◌≡◌, ◌∙◌, ◌<◌, Ok, Some, None, sym, subst, arith}
use Rattle.bus_types.specs.Relay.{most_windows}
use Rattle.bus_types.specs.Cut.{cut}
use Rattle.partition_filter.specs.Selection.{test_of}
use Rattle.bus_stores.specs.Log.{first_after}
use Rattle.bus_stores.proofs.Ahead.{unmoved_more, rests_on}
use Rattle.snapshot_scan.proofs.Appending.{extends_on}
use Rattle.bootstrap_core.specs.Replaying.{ReadsWithin, replayed, span_upto}
use Rattle.bootstrap_core.proofs.Replays.{fitted, window_extends, one_more, one_unfit, none_left, none_more, told_before}
use Rattle.bootstrap_core.proofs.replaying.take_windows.Goals as goal

pub returns-in_default-clause-replays : goal.returns-in_default-clause-replays
returns-in_default-clause-replays g c =
    let old = g.G.WindowLog.state c.args.log.now in
    let now = g.G.WindowLog.state c.loop-taken.log in
    let new = g.G.WindowLog.state c.next_within.new.log in
    let reads = subst (λ found. ReadsWithin c.loop-taken.replay.last c.args.target now new (Ok found)) c.in_default.is c.in_ok-window.ensures.reads in
    let next = told_before old now (λ ws. None ≡ span_upto c.args.target (first_after c.loop-taken.replay.last ws)) c.loop-taken.invariant.unmoved.same reads.told in
    none_left (test_of c.args.filter.now) c.args.at c.args.target c.args.max c.args.reply.now.items old.floor old.high (replayed c.loop-taken.reply.items c.loop-taken.replay) old.windows
    c.high-rising.ensures.log.holds next c.loop-taken.invariant.run

pub returns-then-is_some-clause-replays : goal.returns-then-is_some-clause-replays
returns-then-is_some-clause-replays g c =
    let old = g.G.WindowLog.state c.args.log.now in
    let now = g.G.WindowLog.state c.loop-taken.log in
    let new = g.G.WindowLog.state c.next_within.new.log in
    let test = test_of c.args.filter.now in
    let w = c.in-Some.window in
    let r = replayed c.loop-taken.reply.items c.loop-taken.replay in
    let reads = subst (λ found. ReadsWithin c.loop-taken.replay.last c.args.target now new (Ok found)) c.in-Some.is c.in_ok-window.ensures.reads in
    let next = told_before old now (λ ws. Some w ≡ span_upto c.args.target (first_after c.loop-taken.replay.last ws)) c.loop-taken.invariant.unmoved.same reads.told in
    one_unfit test c.args.at c.args.target c.args.max c.args.reply.now.items old.floor old.high r old.windows (replayed c.take_window.new.reply.items c.take_window.new.replay) w
    c.high-rising.ensures.log.holds next c.loop-taken.invariant.run c.in_ok-take_window.ensures.ok (sym c.is_some.ensures ∙ c.if-is_some.true)

pub loop-taken-preserved : goal.loop-taken-preserved
loop-taken-preserved g c =
    let old = g.G.WindowLog.state c.args.log.now in
    let now = g.G.WindowLog.state c.loop-taken.log in
    let new = g.G.WindowLog.state c.next_within.new.log in
    let test = test_of c.args.filter.now in
    let w = c.in-Some.window in
    let r = replayed c.loop-taken.reply.items c.loop-taken.replay in
    let r' = replayed c.take_window.new.reply.items c.take_window.new.replay in
    let reads = subst (λ found. ReadsWithin c.loop-taken.replay.last c.args.target now new (Ok found)) c.in-Some.is c.in_ok-window.ensures.reads in
    let next = told_before old now (λ ws. Some w ≡ span_upto c.args.target (first_after c.loop-taken.replay.last ws)) c.loop-taken.invariant.unmoved.same reads.told in
    let fits = sym c.is_some.ensures ∙ c.if-is_some.false in
    let few : c.loop-taken.replay.count < most_windows = omega (arith, c.loop-taken.invariant.count, c.loop-taken-test.true) in
    let took = fitted r r' (cut test w) c.in_ok-take_window.ensures.ok fits in
    record {
      unmoved = unmoved_more old now new _ c.loop-taken.invariant.unmoved reads.reads.counts reads.reads.same;
      crash =
          rests_on (λ ws b. g.G.WindowLog.passes ws b c.args.log.now c.loop-taken.log) (λ ws b. g.G.WindowLog.passes ws b c.loop-taken.log c.next_within.new.log) (λ ws b. g.G.WindowLog.passes ws b c.args.log.now c.next_within.new.log)
          (g.G.WindowLog.state c.args.log.now) (g.G.WindowLog.state c.loop-taken.log) (λ ws b p q. g.met.G.WindowLog.passes_on ws b c.args.log.now c.loop-taken.log c.next_within.new.log p q) c.loop-taken.invariant.unmoved.same c.loop-taken.invariant.crash c.next_within.ensures.crash;
      low = omega (arith, c.loop-taken.invariant.low, took.0, reads.within.0);
      count = omega (arith, took.1, c.loop-taken.invariant.count);
      fits = took.2 ∙ c.loop-taken.invariant.fits;
      run =
          one_more test c.args.at c.args.target c.args.max c.args.reply.now.items old.floor old.high r old.windows r' w
          c.high-rising.ensures.log.holds next c.loop-taken.invariant.run few c.in_ok-take_window.ensures.ok fits;
      front = extends_on _ _ _ c.loop-taken.invariant.front (window_extends r r' (cut test w) c.in_ok-take_window.ensures.ok);
    }

pub returns-clause-replays : goal.returns-clause-replays
returns-clause-replays g c =
    let old = g.G.WindowLog.state c.args.log.now in
    none_more (test_of c.args.filter.now) c.args.at c.args.target c.args.max c.args.reply.now.items old.floor old.high (replayed c.loop-taken.reply.items c.loop-taken.replay) old.windows
    c.loop-taken.invariant.run (omega (arith, c.loop-taken.invariant.count, c.loop-taken-test.false))

pub returns-in_default-clause-crash : goal.returns-in_default-clause-crash
returns-in_default-clause-crash g c =
    rests_on (λ ws b. g.G.WindowLog.passes ws b c.args.log.now c.loop-taken.log) (λ ws b. g.G.WindowLog.passes ws b c.loop-taken.log c.next_within.new.log) (λ ws b. g.G.WindowLog.passes ws b c.args.log.now c.next_within.new.log)
    (g.G.WindowLog.state c.args.log.now) (g.G.WindowLog.state c.loop-taken.log) (λ ws b p q. g.met.G.WindowLog.passes_on ws b c.args.log.now c.loop-taken.log c.next_within.new.log p q) c.loop-taken.invariant.unmoved.same c.loop-taken.invariant.crash c.next_within.ensures.crash

pub returns-then-is_some-clause-crash : goal.returns-then-is_some-clause-crash
returns-then-is_some-clause-crash g c =
    rests_on (λ ws b. g.G.WindowLog.passes ws b c.args.log.now c.loop-taken.log) (λ ws b. g.G.WindowLog.passes ws b c.loop-taken.log c.next_within.new.log) (λ ws b. g.G.WindowLog.passes ws b c.args.log.now c.next_within.new.log)
    (g.G.WindowLog.state c.args.log.now) (g.G.WindowLog.state c.loop-taken.log) (λ ws b p q. g.met.G.WindowLog.passes_on ws b c.args.log.now c.loop-taken.log c.next_within.new.log p q) c.loop-taken.invariant.unmoved.same c.loop-taken.invariant.crash c.next_within.ensures.crash

pub returns-in_err-window-clause-crash : goal.returns-in_err-window-clause-crash
returns-in_err-window-clause-crash g c =
    rests_on (λ ws b. g.G.WindowLog.passes ws b c.args.log.now c.loop-taken.log) (λ ws b. g.G.WindowLog.passes ws b c.loop-taken.log c.next_within.new.log) (λ ws b. g.G.WindowLog.passes ws b c.args.log.now c.next_within.new.log)
    (g.G.WindowLog.state c.args.log.now) (g.G.WindowLog.state c.loop-taken.log) (λ ws b p q. g.met.G.WindowLog.passes_on ws b c.args.log.now c.loop-taken.log c.next_within.new.log p q) c.loop-taken.invariant.unmoved.same c.loop-taken.invariant.crash c.next_within.ensures.crash

pub returns-in_err-take_window-clause-crash : goal.returns-in_err-take_window-clause-crash
returns-in_err-take_window-clause-crash g c =
    rests_on (λ ws b. g.G.WindowLog.passes ws b c.args.log.now c.loop-taken.log) (λ ws b. g.G.WindowLog.passes ws b c.loop-taken.log c.next_within.new.log) (λ ws b. g.G.WindowLog.passes ws b c.args.log.now c.next_within.new.log)
    (g.G.WindowLog.state c.args.log.now) (g.G.WindowLog.state c.loop-taken.log) (λ ws b p q. g.met.G.WindowLog.passes_on ws b c.args.log.now c.loop-taken.log c.next_within.new.log p q) c.loop-taken.invariant.unmoved.same c.loop-taken.invariant.crash c.next_within.ensures.crash
