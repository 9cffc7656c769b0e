use Rattle.std.proofs.Common.{◌≡◌, suc, ◌+◌, take, ap, sym, ◌∙◌, arith}
use Rattle.bus_types.specs.Timeline.{end_from}
use Rattle.bus_types.proofs.Stretches.{end_at}
use Rattle.byte_ring.proofs.kept.Kept.scn.Goals as goal

pub returns-clause-end : goal.returns-clause-end
returns-clause-end c =
    let kept = c.args.self.now in
    let one : c.args.i + 1 ≡ suc c.args.i = omega arith in
    ap (λ n. end_from kept.floor (take n kept.windows)) one ∙ end_at kept.floor c.args.i kept.windows _ c.window-at.ensures.window ∙ sym c.scn_at.ensures.value
