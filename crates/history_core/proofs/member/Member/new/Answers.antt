use Rattle.std.proofs.Common.{refl, sym, subst}
use Rattle.bus_stores.specs.Memory.{MemoryStore, last_mark}
use Rattle.checkpoint.specs.declared.mark.Mark.TheVariants.{Online}
use Rattle.client_switch.specs.Client.{IsStored}
use Rattle.history_core.proofs.Members.{new_member}
use Rattle.history_core.proofs.member.Member.new.Goals as goal

pub open-requires-clause-stored : goal.open-requires-clause-stored
open-requires-clause-stored c = (Online 0, subst (λ (s : MemoryStore). IsStored (last_mark s.marks) (Online 0)) (sym c.in_ok-keeper.ensures.ok) refl)

pub returns : goal.returns
returns c =
    let opened = c.in_ok-client.ensures in
    λ ws. new_member ws c.args.name c.args.filter c.in_ok-client.client c.in_ok-keeper.keeper c.open.new.keeper c.in_ok-keeper.ensures.ok opened.filter opened.wish opened.runs opened.mark opened.read
