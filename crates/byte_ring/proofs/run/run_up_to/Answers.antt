use Rattle.std.proofs.Common.{◌≡◌, ◌+◌, ◌-◌, take, ap, ◌∙◌, arith}
use Rattle.bus_types.specs.Timeline.{end_from}
use Rattle.byte_ring.proofs.run.run_up_to.Goals as goal

pub returns-clause-last : goal.returns-clause-last
returns-clause-last c =
    let kept = c.args.kept.now in
    let place : c.args.from + c.args.count ≡ ((c.args.from + c.args.count) - 1) + 1 = omega (arith, c.requires.some) in
    ap (λ n. end_from kept.floor (take n kept.windows)) place ∙ c.scn-last.ensures.end
