use Rattle.std.proofs.Common.{arith}
use Rattle.event_codec.proofs.Lendings.{split_front, split_none}
use Rattle.event_codec.proofs.event.EventView.split.Goals as goal

pub returns-in_err-view-clause-found : goal.returns-in_err-view-clause-found
returns-in_err-view-clause-found c = rw c.from_residual.ensures (split_none c.args.bytes.now c.in_err-view.ensures.value)

pub returns-clause-found : goal.returns-clause-found
returns-clause-found c =
    (split_front c.args.bytes.now c.in_ok-view.view c.split_at.result.0.now c.split_at.result.1.now (λ i. omega (arith, c.type_inv.bytes i)) c.in_ok-view.ensures.value c.split_at.ensures.front c.split_at.ensures.back).front

pub returns-clause-view : goal.returns-clause-view
returns-clause-view c =
    (split_front c.args.bytes.now c.in_ok-view.view c.split_at.result.0.now c.split_at.result.1.now (λ i. omega (arith, c.type_inv.bytes i)) c.in_ok-view.ensures.value c.split_at.ensures.front c.split_at.ensures.back).view

pub returns-clause-own : goal.returns-clause-own
returns-clause-own c =
    (split_front c.args.bytes.now c.in_ok-view.view c.split_at.result.0.now c.split_at.result.1.now (λ i. omega (arith, c.type_inv.bytes i)) c.in_ok-view.ensures.value c.split_at.ensures.front c.split_at.ensures.back).own_bytes
