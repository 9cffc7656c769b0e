use Rattle.std.proofs.Common.{refl}
use Rattle.history_core.proofs.BootMoves.{trimmed_booted}
use Rattle.history_core.proofs.boot.trim.Goals as goal

pub returns-in-Ok : goal.returns-in-Ok
returns-in-Ok c ws t h = trimmed_booted ws c.args.boot.now c.trim.new.self h c.in-Ok.field-0 c.args.scn t c.in-Ok.ensures.trims (c.trim.ensures.stands ws t h.stands refl)
