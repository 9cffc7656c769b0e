use Rattle.std.proofs.Common.{inl}
use Rattle.consume_node.proofs.Holding.{tells_taken, short_same}
use Rattle.consume_node.proofs.poll.take.Goals as goal

pub returns-in-Ok-clause-tells : goal.returns-in-Ok-clause-tells
returns-in-Ok-clause-tells g c = tells_taken c.take.result c.args.client.now c.take.new.self c.args.ask.now c.args.reply.now (g.K.Keeper.state c.args.keeper.now) (g.K.Keeper.state c.take.new.keeper) _ _ c.take.ensures.takes

pub returns-in-Err-BadReply-clause-tells : goal.returns-in-Err-BadReply-clause-tells
returns-in-Err-BadReply-clause-tells g c = tells_taken c.take.result c.args.client.now c.take.new.self c.args.ask.now c.args.reply.now (g.K.Keeper.state c.args.keeper.now) (g.K.Keeper.state c.take.new.keeper) _ _ c.take.ensures.takes

pub returns-in-Err-StoreFault-clause-tells : goal.returns-in-Err-StoreFault-clause-tells
returns-in-Err-StoreFault-clause-tells g c = tells_taken c.take.result c.args.client.now c.take.new.self c.args.ask.now c.args.reply.now (g.K.Keeper.state c.args.keeper.now) (g.K.Keeper.state c.take.new.keeper) _ _ c.take.ensures.takes

pub returns-in-Err-NoMemory-clause-tells : goal.returns-in-Err-NoMemory-clause-tells
returns-in-Err-NoMemory-clause-tells g c = tells_taken c.take.result c.args.client.now c.take.new.self c.args.ask.now c.args.reply.now (g.K.Keeper.state c.args.keeper.now) (g.K.Keeper.state c.take.new.keeper) _ _ c.take.ensures.takes

pub returns-in-Err-StoreFault-clause-takes : goal.returns-in-Err-StoreFault-clause-takes
returns-in-Err-StoreFault-clause-takes g c = (c.take.new.self, rw c.in-Err-StoreFault.field-0-is at c.in-Err-StoreFault.ensures.takes)

pub returns-in-Err-NoMemory-clause-takes : goal.returns-in-Err-NoMemory-clause-takes
returns-in-Err-NoMemory-clause-takes g c = inl (short_same c.args.client.now c.take.new.self c.args.ask.now c.args.reply.now (g.K.Keeper.state c.args.keeper.now) (g.K.Keeper.state c.take.new.keeper) _ _ (rw c.in-Err-NoMemory.field-0-is at c.in-Err-NoMemory.ensures.takes))
