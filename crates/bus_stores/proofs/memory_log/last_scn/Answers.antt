use Rattle.std.proofs.Common.{sym, ◌∙◌}
use Rattle.bus_stores.proofs.KeptWindows.{end_from-last}
use Rattle.bus_stores.proofs.memory_log.last_scn.Goals as goal

pub returns-in-Some : goal.returns-in-Some
returns-in-Some c =
    c.scn.ensures.value ∙ sym (end_from-last c.args.floor _ c.args.windows.now.items c.in-Some.newest.now c.args.windows.now.ok.0 c.in-Some.ensures.item.3.0 c.in-Some.ensures.lookup)
