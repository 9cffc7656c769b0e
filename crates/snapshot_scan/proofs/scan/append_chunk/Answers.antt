use Rattle.partition_filter.specs.Selection.{test_of}
use Rattle.snapshot_scan.specs.Filling.{filled}
use Rattle.snapshot_scan.proofs.Scanned.{appends_told, appends_some}
use Rattle.snapshot_scan.proofs.scan.append_chunk.Goals as goal

pub returns-clause-chunk : goal.returns-clause-chunk
returns-clause-chunk g c =
    appends_told (test_of c.args.filter.now) c.args.applied c.args.cursor.now c.args.max (g.K.Keeper.state c.fill_at.new.keeper) c.args.reply.now.items (filled c.fill_at.new.reply.items c.in_ok-filling.filling) _ _
    c.in_ok-filling.ensures.filled c.in_ok-shape.ensures.told c.in_ok-shape.ensures.bytes

pub returns-clause-some : goal.returns-clause-some
returns-clause-some g c =
    appends_some (test_of c.args.filter.now) c.args.applied c.args.cursor.now c.args.max (g.K.Keeper.state c.fill_at.new.keeper) c.args.reply.now.items (filled c.fill_at.new.reply.items c.in_ok-filling.filling) _ _
    c.in_ok-filling.ensures.filled c.in_ok-shape.ensures.told c.in_ok-shape.ensures.bytes
