use Rattle.std.proofs.Common.{Err, subst}
use Rattle.bus_stores.specs.Log.{DropsWindows}
use Rattle.bootstrap_core.proofs.BaseFloors.{dropped_none}
use Rattle.bootstrap_core.proofs.moving.drop_or_keep.Goals as goal

pub returns-in-Err-NoMemory-clause-drops : goal.returns-in-Err-NoMemory-clause-drops
returns-in-Err-NoMemory-clause-drops g c =
    let old = g.G.WindowLog.state c.args.log.now in
    let new = g.G.WindowLog.state c.drop_through.new.self in
    dropped_none c.args.scn old new c.floor-begins.ensures.log (subst (λ fault. DropsWindows c.args.scn old new (Err fault)) c.in-Err-NoMemory.field-0-is c.in-Err-NoMemory.ensures.drops)
