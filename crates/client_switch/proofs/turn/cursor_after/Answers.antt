use Rattle.std.proofs.Common.{length, sym, ap, ◌∙◌}
use Rattle.std.proofs.lemmas.Bool.{ltb-true}
use Rattle.bus_types.specs.declared.change.Change.{Change}
use Rattle.bus_types.specs.declared.row.Cursor.TheVariants.{After}
use Rattle.client_switch.proofs.Turns.{cursor_last}
use Rattle.client_switch.proofs.turn.cursor_after.Goals as goal

pub returns-in-Some : goal.returns-in-Some
returns-in-Some c =
    let item = c.in-Some.ensures.item in
    c.cursor_behind.ensures
    ∙ ap (λ (x : Change). After x.source x.key) item.1
    ∙ sym (cursor_last c.args.cursor.now c.args.changes.now c.in-Some.change.now (ltb-true 0 (length c.args.changes.now) (sym item.0)))
