use Rattle.std.proofs.Common.{arith}
use Rattle.history_core.proofs.Summing.{more}
use Rattle.history_core.proofs.sum.lines.Goals as goal

pub overflow_add-size : goal.overflow_add-size
overflow_add-size c =
    let v = c.loop-row.invariant in
    let m = more c.args.rows.now c.loop-row.row-index c.loop-row.size _ c.row-item.result c.bytes.result.now c.loop-row.lines.items c.put_row.new.text.items _ c.loop-row-test.true c.row-item.is c.bytes.ensures.value c.in_ok-put_row.ensures v.lines v.size v.small in
    omega (arith, m.small, c.len-within.ensures)

pub loop-row-preserved : goal.loop-row-preserved
loop-row-preserved c =
    let v = c.loop-row.invariant in
    let m = more c.args.rows.now c.loop-row.row-index c.loop-row.size _ c.row-item.result c.bytes.result.now c.loop-row.lines.items c.put_row.new.text.items _ c.loop-row-test.true c.row-item.is c.bytes.ensures.value c.in_ok-put_row.ensures v.lines v.size v.small in
    record { lines = m.lines; size = m.size_is; small = m.small }
