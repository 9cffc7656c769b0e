use Rattle.std.proofs.Common.{sym, ◌∙◌}
use Rattle.source_db.proofs.Places.{end_from-none, end_from-last}
use Rattle.source_db.proofs.source.last_scn.Goals as goal

pub returns-in-None : goal.returns-in-None
returns-in-None c = sym (end_from-none 0 c.args.windows.now c.in-None.ensures.item.3)

pub returns-in-Some : goal.returns-in-Some
returns-in-Some c = c.scn.ensures.value ∙ sym (end_from-last 0 c.args.windows.now _ (sym c.in-Some.ensures.value))
