use Rattle.std.proofs.Common.{Err, ap}
use Rattle.std.proofs.lemmas.Result.{err_from_is_err_and}
use Rattle.consume_node.proofs.Holding.{floor_same, floor_on, tells_same}
use Rattle.consume_node.proofs.Ending.{opened_is, ended_unopened, ended_halted, ended_unshown, ended_shown}
use Rattle.consume_node.proofs.node.run.Goals as goal

pub returns-in_err-client-clause-ended : goal.returns-in_err-client-clause-ended
returns-in_err-client-clause-ended g c =
    let p = err_from_is_err_and c.from_residual.result c.from_residual.ensures.1 in
    rw (p.1, p.2) (ended_unopened _ _ _ c.args.words c.in_err-client.field-0.0 (g.K.Keeper.state c.args.keeper.now) (g.K.Keeper.state c.open.new.keeper) (g.L.Link.told c.args.link.now) (g.W.Sink.written c.args.out.now)
    c.open.ensures.same (λ e. c.in_err-client.ensures.bad (ap Err e)))

pub returns-in_err-client-clause-floor : goal.returns-in_err-client-clause-floor
returns-in_err-client-clause-floor g c = floor_same (g.K.Keeper.state c.args.keeper.now) (g.K.Keeper.state c.open.new.keeper) c.open.ensures.same

pub returns-in_err-make_polls-clause-ended : goal.returns-in_err-make_polls-clause-ended
returns-in_err-make_polls-clause-ended g c =
    let opened = c.in_ok-client.ensures.opened in
    let is = opened_is c.in_ok-client.client c.args.words.filter opened.0 opened.1 opened.2 in
    let p = err_from_is_err_and c.from_residual-in_err-make_polls.result c.from_residual-in_err-make_polls.ensures.1 in
    rw (p.1, p.2) (ended_halted _ _ _ c.args.words (g.K.Keeper.state c.args.keeper.now) (g.K.Keeper.state c.open.new.keeper) c.in_ok-client.client c.open.ensures.same opened.3 is (g.L.Link.told c.args.link.now) (g.W.Sink.written c.args.out.now)
    c.in_err-make_polls.field-0.0 (g.K.Keeper.state c.make_polls.new.keeper) (g.L.Link.told c.make_polls.new.link) (g.W.Sink.written c.make_polls.new.out) (rw c.of-by.ensures at c.in_err-make_polls.ensures.made))

pub returns-in_err-make_polls-clause-floor : goal.returns-in_err-make_polls-clause-floor
returns-in_err-make_polls-clause-floor g c =
    floor_on (g.K.Keeper.state c.args.keeper.now) (g.K.Keeper.state c.open.new.keeper) (g.K.Keeper.state c.make_polls.new.keeper) c.in_ok-client.client.mark
    (floor_same (g.K.Keeper.state c.args.keeper.now) (g.K.Keeper.state c.open.new.keeper) c.open.ensures.same) c.in_ok-client.ensures.opened.3 c.make_polls.ensures.floor c.make_polls.ensures.tells

pub returns-in_err-text-clause-ended : goal.returns-in_err-text-clause-ended
returns-in_err-text-clause-ended g c =
    let opened = c.in_ok-client.ensures.opened in
    let is = opened_is c.in_ok-client.client c.args.words.filter opened.0 opened.1 opened.2 in
    let p = err_from_is_err_and c.from_residual-in_err-text.result c.from_residual-in_err-text.ensures.1 in
    rw (p.1, p.2) (ended_unshown _ _ _ c.args.words (g.K.Keeper.state c.args.keeper.now) (g.K.Keeper.state c.open.new.keeper) c.in_ok-client.client c.open.ensures.same opened.3 is (g.L.Link.told c.args.link.now) (g.W.Sink.written c.args.out.now)
    c.in_err-text.field-0.0 c.make_polls.new.client (g.K.Keeper.state c.make_polls.new.keeper) (g.K.Keeper.state c.shown.new.keeper) (g.L.Link.told c.make_polls.new.link) (g.W.Sink.written c.make_polls.new.out)
    (rw c.of-by.ensures at c.in_ok-make_polls.ensures.made) c.shown.ensures.same)

pub returns-in_err-text-clause-floor : goal.returns-in_err-text-clause-floor
returns-in_err-text-clause-floor g c =
    let polled = floor_on (g.K.Keeper.state c.args.keeper.now) (g.K.Keeper.state c.open.new.keeper) (g.K.Keeper.state c.make_polls.new.keeper) c.in_ok-client.client.mark
    (floor_same (g.K.Keeper.state c.args.keeper.now) (g.K.Keeper.state c.open.new.keeper) c.open.ensures.same) c.in_ok-client.ensures.opened.3 c.make_polls.ensures.floor c.make_polls.ensures.tells in
    floor_on (g.K.Keeper.state c.args.keeper.now) (g.K.Keeper.state c.make_polls.new.keeper) (g.K.Keeper.state c.shown.new.keeper) c.make_polls.new.client.mark polled c.in_ok-make_polls.ensures.keeps
    (floor_same (g.K.Keeper.state c.make_polls.new.keeper) (g.K.Keeper.state c.shown.new.keeper) c.shown.ensures.same) (tells_same (g.K.Keeper.state c.make_polls.new.keeper) (g.K.Keeper.state c.shown.new.keeper) c.shown.ensures.same)

pub returns-clause-ended : goal.returns-clause-ended
returns-clause-ended g c =
    let opened = c.in_ok-client.ensures.opened in
    let is = opened_is c.in_ok-client.client c.args.words.filter opened.0 opened.1 opened.2 in
    ended_shown _ _ _ c.args.words (g.K.Keeper.state c.args.keeper.now) (g.K.Keeper.state c.open.new.keeper) c.in_ok-client.client c.open.ensures.same opened.3 is (g.L.Link.told c.args.link.now) (g.W.Sink.written c.args.out.now)
    c.write.result c.make_polls.new.client (g.K.Keeper.state c.make_polls.new.keeper) (g.K.Keeper.state c.shown.new.keeper) (g.L.Link.told c.make_polls.new.link) (g.W.Sink.written c.make_polls.new.out) (g.W.Sink.written c.write.new.out)
    _ c.deref.result.now (rw c.of-by.ensures at c.in_ok-make_polls.ensures.made) c.shown.ensures.same (rw (c.bytes.ensures.value, c.mark.ensures.value) at c.in_ok-text.ensures.shows) c.deref.ensures.value c.write.ensures.wrote c.write.ensures.part c.write.ensures.only

pub returns-clause-floor : goal.returns-clause-floor
returns-clause-floor g c =
    let polled = floor_on (g.K.Keeper.state c.args.keeper.now) (g.K.Keeper.state c.open.new.keeper) (g.K.Keeper.state c.make_polls.new.keeper) c.in_ok-client.client.mark
    (floor_same (g.K.Keeper.state c.args.keeper.now) (g.K.Keeper.state c.open.new.keeper) c.open.ensures.same) c.in_ok-client.ensures.opened.3 c.make_polls.ensures.floor c.make_polls.ensures.tells in
    floor_on (g.K.Keeper.state c.args.keeper.now) (g.K.Keeper.state c.make_polls.new.keeper) (g.K.Keeper.state c.shown.new.keeper) c.make_polls.new.client.mark polled c.in_ok-make_polls.ensures.keeps
    (floor_same (g.K.Keeper.state c.make_polls.new.keeper) (g.K.Keeper.state c.shown.new.keeper) c.shown.ensures.same) (tells_same (g.K.Keeper.state c.make_polls.new.keeper) (g.K.Keeper.state c.shown.new.keeper) c.shown.ensures.same)
