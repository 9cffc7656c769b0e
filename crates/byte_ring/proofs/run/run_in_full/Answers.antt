use Rattle.std.proofs.Common.{◌≡◌, ◌+◌, ◌<◌, ◌≤◌, length, subst, arith}
use Rattle.bus_types.specs.Relay.{most_windows}
use Rattle.byte_ring.proofs.Running.{InFull, full_none, full_more, full_over, full_most}
use Rattle.byte_ring.proofs.run.run_in_full.Goals as goal

pub loop-count-init : goal.loop-count-init
loop-count-init c = record {
  within = omega arith;
  small = omega arith;
  few = omega (arith, c.requires);
  run = λ test. full_none test c.args.kept.now.windows c.args.from c.args.max;
}

pub overflow_add-bytes : goal.overflow_add-bytes
overflow_add-bytes c = omega (arith, c.loop-count-test.true, c.loop-count.invariant.small, c.window-at.ensures.there.size, c.window-at.ensures.there.is.size)

pub loop-count-preserved : goal.loop-count-preserved
loop-count-preserved c =
    let l = c.loop-count in
    let ws = c.args.kept.now.windows in
    let slot = c.window-at.result.1.now in
    let there = c.window-at.ensures.there in
    let few : l.count < most_windows = omega (arith, c.loop-count-test.true) in
    let lt : c.args.from + l.count < length ws = omega (arith, c.if-place-end.false, c.len-end.ensures) in
    let within : l.bytes + slot.size ≤ c.args.max = omega (arith, c.if-bytes-max.false) in
    record {
      within = within;
      small = omega (arith, l.invariant.small, there.size, there.is.size);
      few = omega (arith, lt);
      run = λ test. full_more test ws c.args.from l.count l.bytes c.args.max slot.size slot.window.value few lt c.window-at.ensures.window there.is there.size within (l.invariant.run test);
    }

pub returns-then-place-end-clause-run : goal.returns-then-place-end-clause-run
returns-then-place-end-clause-run c =
    let l = c.loop-count in
    let kept = c.args.kept.now in
    let past : length kept.windows ≤ c.args.from + l.count = omega (arith, c.if-place-end.true, c.len-end.ensures) in
    let some : 0 < l.count = omega (arith, past, c.requires) in
    λ test. full_over test kept.windows c.args.from c.args.max l.count l.bytes c.run_up_to.result.count c.run_up_to.result.last kept.floor past some c.run_up_to.ensures.count c.run_up_to.ensures.last (l.invariant.run test)

pub returns-clause-run : goal.returns-clause-run
returns-clause-run c =
    let l = c.loop-count in
    let kept = c.args.kept.now in
    let full : l.count ≡ 32 = omega arith in
    λ test. full_most test kept.windows c.args.from c.args.max 32 l.bytes c.run_up_to-2.result.count c.run_up_to-2.result.last kept.floor (omega arith) c.run_up_to-2.ensures.count c.run_up_to-2.ensures.last (subst (λ n. InFull test kept.windows c.args.from n l.bytes c.args.max) full (l.invariant.run test))
