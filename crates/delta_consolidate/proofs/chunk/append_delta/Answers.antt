use Rattle.std.proofs.Common.{ap, ◌∙◌}
use Rattle.partition_filter.specs.Selection.{test_of}
use Rattle.delta_consolidate.specs.Filling.{filled, with_items}
use Rattle.delta_consolidate.specs.Latest.{changes_of}
use Rattle.delta_consolidate.proofs.Consolidated.{fresh, delta_told, delta_some}
use Rattle.delta_consolidate.proofs.chunk.append_delta.Goals as goal

pub returns-clause-delta : goal.returns-clause-delta
returns-clause-delta g c =
    let made = c.in_ok-put_latest.ensures.ok ∙ ap (λ start. with_items c.args.target start (changes_of c.in_ok-latest.latest.entries)) (fresh c.new-filling.result c.args.max c.args.reply.now.items c.new-filling.ensures.count c.new-filling.ensures.room c.new-filling.ensures.unfit) in
    delta_told (test_of c.args.filter.now) c.args.cursor.now c.args.max c.rows_within.result c.args.since c.args.target (g.G.WindowLog.state c.args.log.now) c.in_ok-latest.latest.entries c.args.reply.now.items
    (filled c.put_latest.new.reply.items c.put_latest.new.filling) _ _ c.rows_within.ensures c.in_ok-latest.ensures.gathered made c.in_ok-shape.ensures.told c.in_ok-shape.ensures.bytes

pub returns-clause-some : goal.returns-clause-some
returns-clause-some g c =
    let made = c.in_ok-put_latest.ensures.ok ∙ ap (λ start. with_items c.args.target start (changes_of c.in_ok-latest.latest.entries)) (fresh c.new-filling.result c.args.max c.args.reply.now.items c.new-filling.ensures.count c.new-filling.ensures.room c.new-filling.ensures.unfit) in
    delta_some (test_of c.args.filter.now) c.args.cursor.now c.args.max c.rows_within.result c.args.since c.args.target (g.G.WindowLog.state c.args.log.now) c.in_ok-latest.latest.entries c.args.reply.now.items
    (filled c.put_latest.new.reply.items c.put_latest.new.filling) _ _ c.rows_within.ensures c.in_ok-latest.ensures.gathered made c.in_ok-shape.ensures.told c.in_ok-shape.ensures.bytes
