use Rattle.log_boot.proofs.Reopened.{opens_over, runs_again, not_again}
use Rattle.log_boot.proofs.opening.open_boot.Goals as goal

pub returns-in-Ok-clause-opens : goal.returns-in-Ok-clause-opens
returns-in-Ok-clause-opens g c =
    opens_over g.D.Disk.state g.K.Keeper.state c.args.disks.items c.args.keeper c.in-Ok.log c.over_log.result c.in-Ok.ensures.opens c.over_log.ensures.opens

pub returns-in-Ok-clause-survives : goal.returns-in-Ok-clause-survives
returns-in-Ok-clause-survives g c ws least content images timeline tell tells s =
    runs_again g.D.Disk.state g.K.Keeper.state c.args.disks.items c.args.keeper ws least content images timeline tell tells s c.in-Ok.log c.over_log.result c.in-Ok.ensures.finds c.over_log.ensures.opens c.over_log.ensures.stands

pub returns-in-Err-clause-survives : goal.returns-in-Err-clause-survives
returns-in-Err-clause-survives g c ws least content images timeline tell tells s = λ some.
    not_again g.D.Disk.state g.K.Keeper.state c.args.disks.items c.args.keeper ws least content images timeline tell tells s c.in-Err.fault c.in-Err.disks c.in-Err.ensures.finds
