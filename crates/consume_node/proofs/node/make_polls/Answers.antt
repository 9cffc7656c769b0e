use Rattle.std.proofs.Common.{◌≡◌, arith}
use Rattle.std.proofs.lemmas.Result.{err_from_is_err_and}
use Rattle.consume_node.proofs.Holding.{floor_itself, floor_on, tells_itself, tells_on}
use Rattle.consume_node.proofs.Reaching.{reached_none, reached_more}
use Rattle.consume_node.proofs.node.make_polls.Goals as goal

pub loop-init : goal.loop-init
loop-init g c = record {
  runs = c.requires.runs;
  stored = c.requires.stored;
  reached = reached_none _ _ _ _ _ _ c.args.client.now (g.K.Keeper.state c.args.keeper.now) (g.L.Link.told c.args.link.now) (g.W.Sink.written c.args.out.now);
  floor = floor_itself (g.K.Keeper.state c.args.keeper.now);
  tells = tells_itself (g.K.Keeper.state c.args.keeper.now);
  later_keeper = omega arith;
  later_link = omega arith;
  later_out = omega arith;
}

pub loop-preserved : goal.loop-preserved
loop-preserved g c = record {
  runs = c.in_ok-turn.ensures.runs;
  stored = c.in_ok-turn.ensures.keeps;
  reached = reached_more _ _ _ _ _ _ c.args.client.now (g.K.Keeper.state c.args.keeper.now) (g.L.Link.told c.args.link.now) (g.W.Sink.written c.args.out.now) c.loop.counter
      c.loop.client (g.K.Keeper.state c.loop.keeper) (g.L.Link.told c.loop.link) (g.W.Sink.written c.loop.out)
      c.turn.new.client (g.K.Keeper.state c.turn.new.keeper) (g.L.Link.told c.turn.new.link) (g.W.Sink.written c.turn.new.out) c.loop.invariant.reached c.in_ok-turn.ensures.turned;
  floor = floor_on (g.K.Keeper.state c.args.keeper.now) (g.K.Keeper.state c.loop.keeper) (g.K.Keeper.state c.turn.new.keeper) c.loop.client.mark c.loop.invariant.floor c.loop.invariant.stored c.turn.ensures.floor c.turn.ensures.tells;
  tells = tells_on (g.K.Keeper.state c.args.keeper.now) (g.K.Keeper.state c.loop.keeper) (g.K.Keeper.state c.turn.new.keeper) c.loop.invariant.tells c.turn.ensures.tells;
  later_keeper = omega (arith, c.loop.invariant.later_keeper, c.turn.ensures.later_keeper);
  later_link = omega (arith, c.loop.invariant.later_link, c.turn.ensures.later_link);
  later_out = omega (arith, c.loop.invariant.later_out, c.turn.ensures.later_out);
}

pub returns-in_err-turn-clause-made : goal.returns-in_err-turn-clause-made
returns-in_err-turn-clause-made g c =
    let p = err_from_is_err_and c.from_residual.result c.from_residual.ensures.1 in
    rw (p.1, p.2) record {
      client = c.loop.client;
      keeper = g.K.Keeper.state c.loop.keeper;
      between = g.L.Link.told c.loop.link;
      so_far = g.W.Sink.written c.loop.out;
      some = c.loop.counter;
      fewer = omega (arith, c.loop-test.true);
      reached = c.loop.invariant.reached;
      fails = c.in_err-turn.ensures.turned;
    }

pub returns-in_err-turn-clause-floor : goal.returns-in_err-turn-clause-floor
returns-in_err-turn-clause-floor g c =
    floor_on (g.K.Keeper.state c.args.keeper.now) (g.K.Keeper.state c.loop.keeper) (g.K.Keeper.state c.turn.new.keeper) c.loop.client.mark c.loop.invariant.floor c.loop.invariant.stored c.turn.ensures.floor c.turn.ensures.tells

pub returns-clause-made : goal.returns-clause-made
returns-clause-made g c =
    let all : c.loop.counter ≡ c.args.by.now.polls = omega (arith, c.loop-test.false, c.loop.auto.counter-end) in
    rw all at c.loop.invariant.reached
