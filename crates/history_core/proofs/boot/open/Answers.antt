use Rattle.std.proofs.Common.{rules, refl}
use Rattle.history_core.proofs.BootMoves.{stand, opened_again, open_fault}
use Rattle.history_core.proofs.boot.open.Goals as goal

pub unreachable-requires : goal.unreachable-requires
unreachable-requires c =
    let may = open_fault c.requires.0 c.requires.1 c.args.log c.args.keeper c.requires.2 c.in-Err.field-0.2 c.in-Err.ensures.back.1 c.in-Err.field-0.0 c.in-Err.ensures.fault in
    search rules

pub returns-in-Ok : goal.returns-in-Ok
returns-in-Ok c ws b are = opened_again ws b c.args.log c.args.keeper are c.in-Ok.boot c.in-Ok.ensures.opened c.in-Ok.ensures.log (c.in-Ok.ensures.stands ws b.mark (stand ws b c.args.log c.args.keeper are) refl)
