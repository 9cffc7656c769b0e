use Rattle.std.proofs.Common.{arith}
use Rattle.event_codec.proofs.Views.{mark_found, mark_none}
use Rattle.event_codec.proofs.mark.mark_at.Goals as goal

pub returns-clause-found : goal.returns-clause-found
returns-clause-found c =
    mark_found c.args.bytes.now c.args.place c.tail.result.now c.front.result (λ i. omega (arith, c.type_inv.bytes i)) c.tail.ensures c.front.ensures.value

pub returns-clause-none : goal.returns-clause-none
returns-clause-none c = mark_none c.args.bytes.now c.args.place c.tail.result.now c.front.result c.tail.ensures c.front.ensures.value
