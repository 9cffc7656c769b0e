use Rattle.std.proofs.Common.{◌≡◌, ◌<◌, List, length, ap, ◌∙◌, arith}
use Rattle.bus_types.specs.declared.change.Change.{Change}
use Rattle.relay_node.specs.Feeding.{most_windows}
use Rattle.relay_node.proofs.Published.{commit_published, commit_next}
use Rattle.relay_node.proofs.line.commit.Goals as goal

pub publish-requires-clause-next : goal.publish-requires-clause-next
publish-requires-clause-next g c =
    let s = c.args.publisher.now in
    let few : length s.windows < most_windows = omega arith in
    let w = c.in-Ok.window in
    let is : w ≡ record { scn = c.args.scn; prev = c.tail.result; changes = c.args.changes } =
    c.in-Ok.ensures.ok ∙ ap (λ (cs : List Change). record { scn = c.args.scn; prev = c.tail.result; changes = cs }) c.into_vec.ensures in
    λ κs lives. commit_next g.T.Timeline.told s c.tail.result c.args.scn c.args.changes w c.tail.ensures is c.in-Ok.ensures.none few c.requires

pub returns : goal.returns
returns g c =
    let s = c.args.publisher.now in
    let few : length s.windows < most_windows = omega arith in
    let w = c.in-Ok.window in
    let is : w ≡ record { scn = c.args.scn; prev = c.tail.result; changes = c.args.changes } =
    c.in-Ok.ensures.ok ∙ ap (λ (cs : List Change). record { scn = c.args.scn; prev = c.tail.result; changes = cs }) c.into_vec.ensures in
    commit_published s c.publish.new.self c.tail.result c.args.scn c.args.changes w c.tail.ensures is c.in-Ok.ensures.none few c.in_ok-publish.ensures
