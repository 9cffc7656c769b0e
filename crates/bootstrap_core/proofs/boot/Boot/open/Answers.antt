use Rattle.bootstrap_core.proofs.Opened.{stands_again}
use Rattle.bootstrap_core.proofs.boot.Boot.open.Goals as goal

pub returns-in-None-clause-stands : goal.returns-in-None-clause-stands
returns-in-None-clause-stands g c ws mark stands told =
    stands_again ws (g.G.WindowLog.state c.args.log) (g.K.Keeper.state c.args.keeper) (g.K.Keeper.state c.stored_mark.new.keeper) c.in-Ok.mark mark c.in-Ok.ensures.stored c.stored_mark.ensures.same stands told
