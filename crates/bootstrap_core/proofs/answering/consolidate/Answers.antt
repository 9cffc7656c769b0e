use Rattle.std.proofs.Common.{◌∙◌, sym, arith}
use Rattle.std.proofs.lemmas.Bool.{ltb-false}
use Rattle.std.proofs.lemmas.Result.{IfOk-weaker}
use Rattle.partition_filter.specs.Selection.{test_of}
use Rattle.bootstrap_core.proofs.AskReplies.{delta_replies, empty_delta_replies}
use Rattle.bootstrap_core.proofs.answering.consolidate.Goals as goal

pub returns-then-target-since-clause-reply : goal.returns-then-target-since-clause-reply
returns-then-target-since-clause-reply g c ws holds tells =
    empty_delta_replies ws (test_of c.args.filter.now) (g.G.WindowLog.state c.args.log.now) c.args.mark.now c.args.since c.args.target c.args.cursor.now c.args.max _ _ _
    (ltb-false c.args.since c.args.mark.now.base (sym c.is_gone.ensures ∙ c.if-is_gone.false)) (omega (arith, c.if-high-target.false, c.high-high.ensures.value)) (omega (arith, c.if-target-since.true)) c.in_ok-put_no_changes.ensures.ok

pub returns-clause-reply : goal.returns-clause-reply
returns-clause-reply g c ws holds tells =
    IfOk-weaker c.delta.result _ _ (λ shape a. delta_replies ws (test_of c.args.filter.now) (g.G.WindowLog.state c.args.log.now) c.args.mark.now c.args.since c.args.target c.args.cursor.now c.args.max shape _ _ c.requires.low
    (ltb-false c.args.since c.args.mark.now.base (sym c.is_gone.ensures ∙ c.if-is_gone.false)) (omega (arith, c.if-high-target.false, c.high-high.ensures.value)) holds tells a) c.delta.ensures.delta
