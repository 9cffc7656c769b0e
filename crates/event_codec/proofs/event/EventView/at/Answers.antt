use Rattle.std.proofs.Common.{arith}
use Rattle.event_codec.proofs.Views.{view_found, view_none}
use Rattle.event_codec.proofs.event.EventView.at.Goals as goal

pub returns-in_err-view-clause-none : goal.returns-in_err-view-clause-none
returns-in_err-view-clause-none c =
    let none = view_none c.args.bytes.now c.args.place c.tail.result.now c.tail.ensures c.in_err-view.ensures.value in
    rw c.from_residual.ensures none

pub returns-clause-found : goal.returns-clause-found
returns-clause-found c =
    view_found c.args.bytes.now c.args.place c.tail.result.now c.in_ok-view.view (λ i. omega (arith, c.type_inv.bytes i)) c.tail.ensures c.in_ok-view.ensures.value
