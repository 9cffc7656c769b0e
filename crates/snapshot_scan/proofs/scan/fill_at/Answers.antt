use Rattle.std.proofs.Common.{arith}
use Rattle.std.proofs.lemmas.Bool.{ne_eqb}
use Rattle.std.proofs.lemmas.Result.{IfOk-weaker}
use Rattle.partition_filter.specs.Selection.{test_of}
use Rattle.snapshot_scan.specs.Filling.{filled, empty_in}
use Rattle.snapshot_scan.proofs.Scanned.{scanned}
use Rattle.snapshot_scan.proofs.scan.fill_at.Goals as goal

pub returns-clause-filled : goal.returns-clause-filled
returns-clause-filled g c =
    let test = test_of c.args.filter.now in
    let start = empty_in c.args.max c.args.reply.now.items in
    let state = g.K.Keeper.state c.fill.new.keeper in
    IfOk-weaker c.fill.result _ _ (λ filling h. scanned test c.args.applied c.args.cursor.now state start (filled c.fill.new.reply.items filling) (ne_eqb c.args.applied 0 (λ e. omega (arith, e, c.if-applied-eq0.false))) h) c.fill.ensures.filled
