use Rattle.std.proofs.lemmas.Result.{err_from_is_err_and}
use Rattle.consume_node.proofs.Polling.{fails_missed, turned_written}
use Rattle.consume_node.proofs.node.turn.Goals as goal

pub returns-in_err-line-clause-turned : goal.returns-in_err-line-clause-turned
returns-in_err-line-clause-turned g c =
    let p = err_from_is_err_and c.from_residual.result c.from_residual.ensures.1 in
    rw (p.1, p.2) (fails_missed _ _ _ _ _ _ c.in_err-line.field-0.0 c.args.client.now (g.K.Keeper.state c.args.keeper.now) (g.K.Keeper.state c.poll.new.keeper) (g.L.Link.told c.args.link.now) (g.L.Link.told c.poll.new.link) (g.W.Sink.written c.args.out.now) c.in_err-line.ensures.polled)

pub returns-clause-turned : goal.returns-clause-turned
returns-clause-turned g c = turned_written _ _ _ _ _ _ c.write.result c.args.client.now c.poll.new.client (g.K.Keeper.state c.args.keeper.now) (g.K.Keeper.state c.poll.new.keeper) (g.L.Link.told c.args.link.now) (g.L.Link.told c.poll.new.link)
    (g.W.Sink.written c.args.out.now) (g.W.Sink.written c.write.new.out) _ (rw (← c.as_bytes.ensures.value) at c.in_ok-line.ensures.polled) c.write.ensures.wrote c.write.ensures.part c.write.ensures.only
