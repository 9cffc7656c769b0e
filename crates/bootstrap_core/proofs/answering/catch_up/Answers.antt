use Rattle.std.proofs.Common.{◌∙◌, sym, arith}
use Rattle.std.proofs.lemmas.Bool.{ltb-false}
use Rattle.std.proofs.lemmas.Result.{IfOk-weaker}
use Rattle.partition_filter.specs.Selection.{test_of}
use Rattle.bootstrap_core.proofs.AskReplies.{catch_up_replies}
use Rattle.bootstrap_core.proofs.answering.catch_up.Goals as goal

pub returns-clause-reply : goal.returns-clause-reply
returns-clause-reply g c ws holds tells =
    IfOk-weaker c.replay_log.result _ _ (λ shape a. catch_up_replies ws (test_of c.args.filter.now) (g.G.WindowLog.state c.args.log.now) c.args.mark.now c.args.at c.args.target c.args.max shape _ _ c.requires.low
    (ltb-false c.args.at c.args.mark.now.base (sym c.is_gone.ensures ∙ c.if-is_gone.false)) (omega (arith, c.if-high-target.false, c.high-high.ensures.value)) holds tells a) c.replay_log.ensures.reply
