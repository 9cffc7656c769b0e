use Rattle.std.proofs.Common.{◌∙◌, arith}
use Rattle.bus_stores.proofs.Pages.{page_start, page_more}
use Rattle.bus_stores.proofs.entries.page.Goals as goal

pub loop-name-init : goal.loop-name-init
loop-name-init c = page_start c.args.max c.new-page.result.items c.into_iter-name-iterator.result c.args.entries.now.entries c.start_of.result c.args.cursor.now c.new-page.ensures.items (c.into_iter-name-iterator.ensures.into_iter_gives ∙ c.range-name-items.ensures.between tt) c.start_of.ensures

pub loop-name-preserved : goal.loop-name-preserved
loop-name-preserved c = page_more c.args.max c.loop-name.page.items c.push_row.new.page.items c.in-Some.name.now c.in-Some.put.now c.loop-name.name-iterator c.next.new.self _ (omega (arith, c.loop-name.page.ok.0)) c.in-Some.ensures.steps c.in_ok-push_row.ensures c.loop-name.invariant
