use Rattle.bootstrap_core.specs.Boot.{told}
use Rattle.bootstrap_core.proofs.MayReplies.{may_result}
use Rattle.bootstrap_node.proofs.Still.{same_still, may_still}
use Rattle.bootstrap_node.proofs.held.HeldReplies.answer.Goals as goal

pub returns-clause-reply : goal.returns-clause-reply
returns-clause-reply g c =
    let state = told g.G.WindowLog.state g.K.Keeper.state in
    let after = c.answer.ensures in
    may_still g.G.WindowLog.state g.K.Keeper.state g.S.Start.start c.answer.new.self c.args.ask.now c.args.reply.now.items c.answer.new.reply.items c.answer.result
    (same_still g.S.Start.start (state c.args.self.now.boot) (state c.answer.new.self) c.args.self.now.same after.same_log after.same_store after.mark)
    (may_result (state c.args.self.now.boot) (state c.answer.new.self) c.args.ask.now c.answer.result c.args.reply.now.items c.answer.new.reply.items
    after.same_log after.same_store after.mark c.limited.ensures c.requires.bootstrap after.reply)
