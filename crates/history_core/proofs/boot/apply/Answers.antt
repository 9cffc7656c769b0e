use Rattle.std.proofs.Common.{refl}
use Rattle.history_core.proofs.BootMoves.{applied_booted}
use Rattle.history_core.proofs.boot.apply.Goals as goal

pub returns-in-Ok : goal.returns-in-Ok
returns-in-Ok c ws t h = applied_booted ws c.args.boot.now c.apply.new.self h c.in-Ok.field-0 c.args.count c.in-Ok.ensures.applies (c.apply.ensures.stands ws t h.stands refl)
