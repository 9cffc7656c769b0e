use Rattle.event_codec.specs.Items.{since_of, open_in}
use Rattle.window_stream.proofs.Windows.{moves_then, bytes_left}
use Rattle.window_stream.proofs.scan.scan_items.Goals as goal

pub loop-next-preserved : goal.loop-next-preserved
loop-next-preserved c =
    let scan = c.loop-next.scan in
    let next = c.in-On.next in
    let step = (rw c.in-On.is at c.in_ok-next.ensures).0 in
    record {
      is = record {
        bytes = bytes_left (since_of scan.follows) scan.rest.now (since_of next.follows) (open_in next.events) next.rest.now c.loop-next.whole.items c.advance.new.whole.items c.loop-next.invariant.is.bytes step;
        begun = step.begun;
      };
      moved =
          moves_then (since_of c.args.from.follows) (since_of scan.follows) (since_of next.follows) (open_in scan.events) (open_in next.events) c.args.from.rest.now scan.rest.now next.rest.now
          c.args.whole.now.items c.loop-next.whole.items c.advance.new.whole.items c.loop-next.invariant.moved step;
    }
