use Rattle.trace_script.specs.Lines.{line_of}
use Rattle.bus_types.specs.Timeline.{end_of}
use Rattle.std.proofs.Common.{length}
use Rattle.relay_node.specs.Feeding.{text_gives}
use Rattle.relay_node.proofs.Published.{line_next}
use Rattle.relay_node.proofs.line.take_text.Goals as goal

pub take_line-requires-clause-next : goal.take_line-requires-clause-next
unfolding text_gives
take_line-requires-clause-next g c =
    let s = c.args.publisher.now in
    λ κs lives. line_next g.T.Timeline.told s (end_of s.windows) (length s.windows) (line_of c.args.text.now) c.in-Ok.line c.in-Ok.ensures.exact c.requires
