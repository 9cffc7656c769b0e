use Rattle.std.proofs.Common.{Ok, Err, refl, arith}
use Rattle.bus_stores.specs.declared.boot_fault.BootFault.TheVariants.{StoreFailed}
use Rattle.snapshot_applier.proofs.Stands.{stands_after, applied_by, unapplied_by}
use Rattle.snapshot_applier.proofs.applying.apply.Goals as goal

pub returns-in-Ok-apply_windows-clause-table : goal.returns-in-Ok-apply_windows-clause-table
returns-in-Ok-apply_windows-clause-table g c ws t is h =
    let log = g.G.WindowLog.state c.args.log.now in
    let old = g.K.Keeper.state c.args.keeper.now in
    let new = g.K.Keeper.state c.apply_windows.new.keeper in
    let applied =
    applied_by c.args.mark.now c.in-Ok-apply_windows.next c.args.n log c.in-Ok.windows.items c.in-Ok.windows.items old new refl c.in-Ok.ensures.reads.found c.in-Ok.ensures.reads.told
    c.in-Ok-apply_windows.ensures.takes c.in-Ok-apply_windows.ensures.next in
    stands_after ws (Ok c.in-Ok-apply_windows.next) c.args.mark.now c.args.n log log old new applied c.requires.low (record { order = c.requires.order; within = omega (arith, c.requires.high, c.high-within.ensures.log.within) }) t is h

pub returns-in-Err-Failed-apply_windows-clause-table : goal.returns-in-Err-Failed-apply_windows-clause-table
returns-in-Err-Failed-apply_windows-clause-table g c ws t is h =
    let log = g.G.WindowLog.state c.args.log.now in
    let old = g.K.Keeper.state c.args.keeper.now in
    let new = g.K.Keeper.state c.apply_windows.new.keeper in
    let unapplied =
    unapplied_by c.args.mark.now c.args.n log c.in-Ok.windows.items c.in-Ok.windows.items old new c.in-Err-Failed-apply_windows.field-0 refl c.in-Ok.ensures.reads.found c.in-Ok.ensures.reads.told
    c.in-Err-Failed-apply_windows.ensures.takes c.in-Err-Failed-apply_windows.field-0-is in
    stands_after ws (Err StoreFailed) c.args.mark.now c.args.n log log old new unapplied c.requires.low (record { order = c.requires.order; within = omega (arith, c.requires.high, c.high-within.ensures.log.within) }) t is h
