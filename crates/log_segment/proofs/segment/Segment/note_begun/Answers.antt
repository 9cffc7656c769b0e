use Rattle.std.proofs.Common.{◌≡◌, ◌+◌, [], length, true, arith}
use Rattle.log_segment.specs.Image.{whole}
use Rattle.log_segment.proofs.Images.{length-begun}
use Rattle.log_segment.proofs.segment.Segment.note_begun.Goals as goal

pub returns-clause-numbers : goal.returns-clause-numbers
returns-clause-numbers g c =
    let used : 18 ≡ length (whole c.args.floor []) + 1 = omega (arith, length-begun c.args.floor) in
    rw (← c.self.view_is) (λ i. record { used = used i; in_use = true; floor = c.args.floor; high = c.args.floor; index = c.clear.ensures.items i; lost = c.self.inside.lost })
