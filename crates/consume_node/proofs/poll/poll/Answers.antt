use Rattle.std.proofs.Common.{Err, ap}
use Rattle.std.proofs.lemmas.Result.{err_from_is_err_and}
use Rattle.consume_node.proofs.Holding.{floor_itself}
use Rattle.consume_node.proofs.Polling.{starved_before, exchange_misses, settle_polls}
use Rattle.consume_node.proofs.poll.poll.Goals as goal

pub returns-in_err-ask-clause-floor : goal.returns-in_err-ask-clause-floor
returns-in_err-ask-clause-floor g c = floor_itself (g.K.Keeper.state c.args.keeper.now)

pub returns-in_err-exchange-clause-floor : goal.returns-in_err-exchange-clause-floor
returns-in_err-exchange-clause-floor g c = floor_itself (g.K.Keeper.state c.args.keeper.now)

pub returns-in_err-ask-clause-polled : goal.returns-in_err-ask-clause-polled
returns-in_err-ask-clause-polled g c =
    let p = err_from_is_err_and c.from_residual.result c.from_residual.ensures.1 in
    rw (p.1, p.2) (starved_before _ _ _ _ _ _ c.args.client.now (g.K.Keeper.state c.args.keeper.now) (g.L.Link.told c.args.link.now))

pub returns-in_err-exchange-clause-polled : goal.returns-in_err-exchange-clause-polled
returns-in_err-exchange-clause-polled g c =
    let p = err_from_is_err_and c.from_residual-in_err-exchange.result c.from_residual-in_err-exchange.ensures.1 in
    rw (p.1, p.2) (exchange_misses _ _ _ _ _ _ c.in_err-exchange.field-0.0 c.args.client.now (g.K.Keeper.state c.args.keeper.now) (g.L.Link.told c.args.link.now) (g.L.Link.told c.exchange.new.link)
    c.in_ok-ask.ask c.in_ok-ask.ensures.asked (rw c.port_of.ensures at c.in_err-exchange.ensures.back) (λ e. rw c.port_of.ensures at (c.in_err-exchange.ensures.bad (ap Err e))))

pub returns-clause-polled : goal.returns-clause-polled
returns-clause-polled g c = settle_polls _ _ _ _ _ _ c.settle.result c.args.client.now c.settle.new.client (g.K.Keeper.state c.args.keeper.now) (g.K.Keeper.state c.settle.new.keeper)
    (g.L.Link.told c.args.link.now) (g.L.Link.told c.exchange.new.link) c.in_ok-ask.ask c.deref.result.now c.exchange.new.body.items c.port_of.result c.deref.ensures.value c.port_of.ensures
    c.in_ok-ask.ensures.asked c.in_ok-exchange.ensures.answered c.settle.ensures.settles c.settle.ensures.keeps c.requires.stored (c.settle.ensures.good _ c.in_ok-ask.ensures.asked)
