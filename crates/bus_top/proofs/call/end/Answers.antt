use Rattle.bus_top.proofs.Turns.{end_broken, end_stopped}
use Rattle.bus_top.proofs.call.end.Goals as goal

pub returns-in_default-clause-ends : goal.returns-in_default-clause-ends
returns-in_default-clause-ends g c =
    let seen = c.deref.ensures.value in
    end_broken c.finish-finished.result _ _ c.args.session.now _ _ c.in_default.field-0.written (rw c.requires.empty at c.finish-finished.ensures) (rw seen at c.in_default.ensures.part)

pub returns-in-Err-clause-ends : goal.returns-in-Err-clause-ends
returns-in-Err-clause-ends g c =
    let seen = c.deref.ensures.value in
    rw c.status_of.ensures (end_stopped c.in-Err.stop _ _ c.args.session.now _ _ (rw c.requires.empty at c.in-Err.ensures) (rw seen at c.in-Ok.ensures.ok))
