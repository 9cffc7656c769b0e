use Rattle.std.proofs.Common.{arith}
use Rattle.event_codec.proofs.Closings.{close_split, close_none}
use Rattle.event_codec.proofs.close.Close.split.Goals as goal

pub returns-in_err-close-clause-found : goal.returns-in_err-close-clause-found
returns-in_err-close-clause-found c = rw c.from_residual.ensures (close_none c.args.bytes.now c.in_err-close.ensures.value)

pub returns-clause-found : goal.returns-clause-found
returns-clause-found c = (close_split c.args.bytes.now c.in_ok-close.close c.split_at.result.1.now (λ i. omega (arith, c.type_inv.bytes i)) c.in_ok-close.ensures.value c.split_at.ensures.back).front

pub returns-clause-parts : goal.returns-clause-parts
returns-clause-parts c = (close_split c.args.bytes.now c.in_ok-close.close c.split_at.result.1.now (λ i. omega (arith, c.type_inv.bytes i)) c.in_ok-close.ensures.value c.split_at.ensures.back).parts

pub returns-clause-scn : goal.returns-clause-scn
returns-clause-scn c = (close_split c.args.bytes.now c.in_ok-close.close c.split_at.result.1.now (λ i. omega (arith, c.type_inv.bytes i)) c.in_ok-close.ensures.value c.split_at.ensures.back).scn
