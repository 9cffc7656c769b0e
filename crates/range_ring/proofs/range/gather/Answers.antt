use Rattle.std.proofs.Common.{◌+◌, ap, arith, rules}
use Rattle.range_ring.proofs.Gathering.{begins, grows_on}
use Rattle.range_ring.proofs.range.gather.Goals as goal

pub loop-range-init : goal.loop-range-init
loop-range-init g c =
    let entry = c.position-position.ensures.fits in
    (begins g.T.Timeline.told c.args.published (g.F.Accepts.test c.args.filter.now) c.args.max c.cut_size-size.result c.args.filter.now c.new-range.result _ c.args.first entry (ap (λ n. n + 1) c.position-position.ensures.value) c.requires (c.cut_size-size.ensures.value entry) c.if-size-max.false c.new-range.ensures, search rules)

pub loop-range-preserved : goal.loop-range-preserved
loop-range-preserved g c =
    let entry = c.in_ok-shown.ensures.entry in
    let few = c.loop-range-test.true in
    let counted = c.count.ensures in
    let size = ap (λ r. r.size) c.range.view_is in
    let fits = c.if-more-max.false in
    (grows_on g.T.Timeline.told c.args.first.position c.args.published (g.F.Accepts.test c.args.filter.now) c.args.max c.cut_size-more.result c.args.filter.now c.loop-range.range c.push.new.self c.loop-range.position c.in_ok-shown.shown entry c.loop-range.invariant.0 (omega arith) c.if-position-published.true c.in_ok-shown.ensures.position (c.cut_size-more.ensures.value entry) (omega arith) c.push.ensures, search rules)
