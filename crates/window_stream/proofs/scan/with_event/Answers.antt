use Rattle.std.proofs.Common.{arith}
use Rattle.event_codec.specs.Items.{since_of}
use Rattle.window_stream.proofs.Windows.{moves_none}
use Rattle.window_stream.proofs.Scans.{event_moved}
use Rattle.window_stream.proofs.scan.with_event.Goals as goal

pub overflow_add-events-2 : goal.overflow_add-events-2
overflow_add-events-2 c =
    let moved = event_moved c.args.scan c.requires.begun c.args.scn c.args.size c.requires.found in
    omega (arith, moved.long, c.ranges.scan)

pub returns-clause-moves : goal.returns-clause-moves
returns-clause-moves c = λ windows.
    moves_none (since_of c.args.scan.follows) _ c.args.scan.rest.now windows (event_moved c.args.scan c.requires.begun c.args.scn c.args.size c.requires.found).begun

pub returns-clause-less : goal.returns-clause-less
returns-clause-less c =
    let moved = event_moved c.args.scan c.requires.begun c.args.scn c.args.size c.requires.found in
    omega (arith, moved.long, moved.positive)
