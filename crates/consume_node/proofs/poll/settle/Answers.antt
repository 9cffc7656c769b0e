use Rattle.std.proofs.Common.{inr}
use Rattle.std.proofs.lemmas.Result.{err_from_is_err_and}
use Rattle.consume_node.proofs.poll.settle.Goals as goal

pub returns-in_err-text-clause-settles : goal.returns-in_err-text-clause-settles
returns-in_err-text-clause-settles g c =
    let p = err_from_is_err_and c.from_residual-in_err-text.result c.from_residual-in_err-text.ensures.1 in
    rw (p.1, p.2) (inr (record { took = c.in_ok-took.took; client = c.take.new.client; taken = c.in_ok-took.ensures.takes; keeps = c.in_ok-took.ensures.keeps }))
