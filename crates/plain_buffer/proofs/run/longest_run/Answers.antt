use Rattle.std.proofs.Common.{◌≡◌, ◌+◌, ◌-◌, ◌<◌, ◌≤◌, [], drop, subst, arith}
use Rattle.bus_types.specs.Cut.{cuts}
use Rattle.bus_types.specs.Relay.{longest_run, most_windows}
use Rattle.plain_buffer.specs.Run.{Tells}
use Rattle.plain_buffer.proofs.Runs.{tells_all, run_of_none, run_step}
use Rattle.plain_buffer.proofs.run.longest_run.Goals as goal

pub loop-count-preserved : goal.loop-count-preserved
loop-count-preserved g c =
    let test = g.F.Accepts.test c.args.filter.now in
    let ws = c.args.windows.now.items in
    let run = longest_run most_windows c.args.max (cuts test (drop c.args.from ws)) in
    let size = c.cut_size-size.result in
    let within = c.in-Some.ensures.item.3.0 in
    let few : c.loop-count.count < most_windows = omega arith in
    let fits : size ≤ c.args.max - c.loop-count.bytes = omega arith in
    let told = run_step test ws run c.args.from c.loop-count.count c.loop-count.last c.loop-count.bytes c.args.max size c.in-Some.window.now few c.loop-count.invariant.within within c.in-Some.ensures.lookup c.cut_size-size.ensures.value fits c.loop-count.invariant.tells in
    record {
      within = omega arith;
      range = omega (arith, c.scn-last.ensures.value, c.scn-last.ensures.fits.scn);
      few = omega arith;
      tells = rw c.scn-last.ensures.value told;
    }

pub returns-clause-tells : goal.returns-clause-tells
returns-clause-tells g c =
    let test = g.F.Accepts.test c.args.filter.now in
    let ws = c.args.windows.now.items in
    let told = c.loop-count.invariant.tells in
    let full : c.loop-count.count ≡ 32 = omega arith in
    let run = longest_run most_windows c.args.max (cuts test (drop c.args.from ws)) in
    let none = run_of_none (most_windows - c.loop-count.count) (c.args.max - c.loop-count.bytes) (cuts test (drop (c.args.from + c.loop-count.count) ws)) (omega arith) in
    subst (λ n. Tells n c.loop-count.last c.loop-count.bytes [] run) full (tells_all c.loop-count.count c.loop-count.last c.loop-count.bytes _ run none told)
