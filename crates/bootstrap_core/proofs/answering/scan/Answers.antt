use Rattle.std.proofs.Common.{◌∙◌, sym, arith}
use Rattle.std.proofs.lemmas.Bool.{ltb-false}
use Rattle.std.proofs.lemmas.Result.{IfOk-weaker}
use Rattle.partition_filter.specs.Selection.{test_of}
use Rattle.bootstrap_core.proofs.AskReplies.{scan_replies}
use Rattle.bootstrap_core.proofs.answering.scan.Goals as goal

pub returns-clause-reply : goal.returns-clause-reply
returns-clause-reply g c ws high tells rows =
    let mark = c.args.mark.now in
    IfOk-weaker c.chunk.result _ _ (λ shape a. scan_replies ws (test_of c.args.filter.now) (record { base = mark.base; applied = mark.applied; high = high }) c.args.start c.args.cursor.now c.args.max (g.K.Keeper.state c.chunk.new.keeper).content shape _ _
    (ltb-false c.args.start c.args.mark.now.base (sym c.is_gone.ensures ∙ c.if-is_gone.false)) (omega (arith, c.if-mark-start.false)) tells rows a) c.chunk.ensures.chunk
