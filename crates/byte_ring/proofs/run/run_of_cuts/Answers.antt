use Rattle.std.proofs.Common.{◌≡◌, ◌+◌, ◌-◌, ◌<◌, ◌≤◌, List, drop, ap, sym, subst, arith}
use Rattle.std.proofs.lemmas.List.{drop_all}
use Rattle.std.proofs.lemmas.Option.{get_or_from_slice_get}
use Rattle.bus_types.specs.Window.{Span}
use Rattle.bus_types.specs.Cut.{cuts, cut_size}
use Rattle.bus_types.specs.Relay.{longest_run, most_windows}
use Rattle.plain_buffer.proofs.Runs.{tells_all, run_of_none, run_step}
use Rattle.byte_ring.specs.Runs.{run_from, IsRun}
use Rattle.byte_ring.proofs.Running.{run_over, is_run}
use Rattle.byte_ring.proofs.run.run_of_cuts.Goals as goal

pub returns-then-place-end-clause-run : goal.returns-then-place-end-clause-run
returns-then-place-end-clause-run g c =
    let test = g.F.Accepts.test c.args.filter.now in
    let ws = c.args.kept.now.windows in
    let l = c.loop-count in
    let none = ap (λ (left : List Span). longest_run (most_windows - l.count) (c.args.max - l.bytes) (cuts test left)) (drop_all (c.args.from + l.count) ws (omega (arith, c.if-place-end.true, c.len-end.ensures))) in
    is_run test ws c.args.from c.args.max l.count l.last l.bytes (tells_all l.count l.last l.bytes _ (run_from test ws c.args.from c.args.max) none l.invariant.tells)

pub returns-then-size-max-clause-run : goal.returns-then-size-max-clause-run
returns-then-size-max-clause-run g c =
    let test = g.F.Accepts.test c.args.filter.now in
    let ws = c.args.kept.now.windows in
    let w = c.window-at.result.1.now.window.value in
    let l = c.loop-count in
    let is = sym (get_or_from_slice_get ws (c.args.from + l.count) w w c.window-at.ensures.window) in
    let large : c.args.max - l.bytes < cut_size test w = omega (arith, c.cut_size-size.ensures.value, c.if-size-max.true) in
    is_run test ws c.args.from c.args.max l.count l.last l.bytes (run_over test ws (run_from test ws c.args.from c.args.max) c.args.from l.count l.last l.bytes c.args.max w (omega (arith, c.if-place-end.false, c.len-end.ensures)) is large l.invariant.tells)

pub loop-count-preserved : goal.loop-count-preserved
loop-count-preserved g c =
    let test = g.F.Accepts.test c.args.filter.now in
    let ws = c.args.kept.now.windows in
    let w = c.window-at.result.1.now.window.value in
    let is = sym (get_or_from_slice_get ws (c.args.from + c.loop-count.count) w w c.window-at.ensures.window) in
    let size = c.cut_size-size.result in
    let few : c.loop-count.count < most_windows = omega arith in
    let fits : size ≤ c.args.max - c.loop-count.bytes = omega (arith, c.if-size-max.false) in
    let told = run_step test ws (run_from test ws c.args.from c.args.max) c.args.from c.loop-count.count c.loop-count.last c.loop-count.bytes c.args.max size w few c.loop-count.invariant.within (omega (arith, c.if-place-end.false, c.len-end.ensures)) is c.cut_size-size.ensures.value fits c.loop-count.invariant.tells in
    record {
      within = omega arith;
      range = c.scn_at-last.ensures.range;
      few = omega arith;
      tells = rw c.scn_at-last.ensures.value told;
    }

pub returns-clause-run : goal.returns-clause-run
returns-clause-run g c =
    let test = g.F.Accepts.test c.args.filter.now in
    let ws = c.args.kept.now.windows in
    let l = c.loop-count in
    let full : l.count ≡ 32 = omega arith in
    let none = run_of_none (most_windows - l.count) (c.args.max - l.bytes) (cuts test (drop (c.args.from + l.count) ws)) (omega arith) in
    let run = is_run test ws c.args.from c.args.max l.count l.last l.bytes (tells_all l.count l.last l.bytes _ (run_from test ws c.args.from c.args.max) none l.invariant.tells) in
    subst (λ n. IsRun test ws c.args.from c.args.max n l.last) full run
