use Rattle.byte_ring.proofs.Pushing.{pushed_window, mark_fits}
use Rattle.byte_ring.proofs.write.push_window.Goals as goal

pub push-requires : goal.push-requires
push-requires c = mark_fits c.args.circle.now c.push_events.new.circle c.args.window.now c.scn.result c.scn-2.result c.prev.result c.changes.result.now c.mark_bytes.result c.scn.ensures.value c.changes.ensures c.mark_bytes.ensures c.push_events.ensures c.requires

pub returns : goal.returns
returns c = pushed_window c.args.circle.now c.push_events.new.circle c.push.new.self c.args.window.now c.scn.result c.scn-2.result c.prev.result c.changes.result.now c.mark_bytes.result c.scn.ensures.value c.scn-2.ensures.value c.prev.ensures c.changes.ensures c.mark_bytes.ensures c.push_events.ensures c.push.ensures
