use Rattle.snapshot_applier.proofs.Advancing.{after_last, after_lawful, after_advances}
use Rattle.snapshot_applier.proofs.applying.mark_after.Goals as goal

pub returns-in-Some-clause-after : goal.returns-in-Some-clause-after
returns-in-Some-clause-after c = after_last c.args.mark.now c.scn.result c.args.windows.now c.in-Some.last.now c.scn.ensures.value c.in-Some.ensures.value

pub returns-in-Some-clause-lawful : goal.returns-in-Some-clause-lawful
returns-in-Some-clause-lawful c =
    after_lawful c.args.mark.now c.scn.result c.requires.rising.0 c.args.windows.now c.in-Some.last.now c.requires.mark c.requires.rising.1 c.scn.ensures.fits.scn c.scn.ensures.value c.in-Some.ensures.value

pub returns-in-Some-clause-advances : goal.returns-in-Some-clause-advances
returns-in-Some-clause-advances c high h r =
    after_advances c.args.mark.now c.scn.result high c.args.windows.now c.in-Some.last.now c.requires.mark h r c.scn.ensures.fits.scn c.scn.ensures.value c.in-Some.ensures.value
