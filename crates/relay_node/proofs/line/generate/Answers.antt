use Rattle.std.proofs.Common.{◌+◌, ◌≤◌, length, arith}
use Rattle.bus_types.specs.Timeline.{end_of}
use Rattle.relay_node.specs.Feeding.{last_generated, most_windows}
use Rattle.relay_node.proofs.Published.{gen_published, gen_next}
use Rattle.relay_node.proofs.line.generate.Goals as goal

pub publish_generated-requires-clause-next : goal.publish_generated-requires-clause-next
publish_generated-requires-clause-next g c =
    let s = c.args.publisher.now in
    let low : end_of s.windows ≤ last_generated = omega arith in
    let few : length s.windows + c.args.more ≤ most_windows = omega arith in
    λ κs lives. gen_next g.T.Timeline.told s c.args.seed c.args.more low few c.requires.next

pub returns : goal.returns
returns g c =
    let s = c.args.publisher.now in
    let low : end_of s.windows ≤ last_generated = omega arith in
    let few : length s.windows + c.args.more ≤ most_windows = omega arith in
    gen_published s _ c.args.seed c.args.more low few c.in_ok-publish_generated.ensures
