use Rattle.std.proofs.Common.{◌∙◌, ap, length, arith, length-append, ◌∷◌, []}
use Rattle.log_store.proofs.Joinings.{opened_more}
use Rattle.log_store.proofs.opening.open_all.Goals as goal

pub loop-alloc-preserved : goal.loop-alloc-preserved
loop-alloc-preserved g c =
    let i = c.loop-alloc.invariant in
    let e = c.in_ok-open_next.ensures in
    let one = e.opens in
    record {
      some = opened_more g.D.Disk.state c.args.disks.now.items c.loop-alloc.segments.items c.loop-alloc.disks.items i.some c.open_next.new.disks.items c.open_next.new.segments.items one;
      many = omega (arith, i.many, ap length one.more, length-append c.loop-alloc.segments.items (one.segment ∷ []), ap length one.parts);
      disks = e.disks ∙ i.disks;
      segments = omega (arith, e.segments, i.segments);
    }
