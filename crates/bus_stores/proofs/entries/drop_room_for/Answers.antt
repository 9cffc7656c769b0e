use Rattle.std.proofs.Common.{◌∙◌, sym, ap, Some}
use Rattle.bus_stores.specs.Entries.{rows_in}
use Rattle.bus_stores.proofs.Rooms.{rows_in-remove}
use Rattle.bus_stores.proofs.entries.drop_room_for.Goals as goal

pub returns-in-Some-None : goal.returns-in-Some-None
returns-in-Some-None c = ap rows_in c.remove.ensures.entries ∙ rows_in-remove _ c.args.entries.now.entries (sym c.in-Some-None.ensures.value ∙ ap (λ v. Some v) c.in-Some-None.field-0-is)
