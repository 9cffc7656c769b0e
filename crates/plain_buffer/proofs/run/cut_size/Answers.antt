use Rattle.std.proofs.Common.{ap, arith}
use Rattle.bus_types.specs.Change.{changes_size}
use Rattle.plain_buffer.proofs.Runs.{accepted_fits}
use Rattle.plain_buffer.proofs.run.cut_size.Goals as goal

pub overflow_add-result : goal.overflow_add-result
overflow_add-result g c =
    let few = accepted_fits (g.F.Accepts.test c.args.filter.now) c.changes.result.now in
    let same = ap changes_size c.changes.ensures in
    omega (arith, c.accepted_sizes.ensures, c.size-whole.ensures.fits.size)

pub returns-clause-small : goal.returns-clause-small
returns-clause-small g c =
    let few = accepted_fits (g.F.Accepts.test c.args.filter.now) c.changes.result.now in
    let same = ap changes_size c.changes.ensures in
    omega (arith, c.accepted_sizes.ensures, c.size-whole.ensures.fits.size)
