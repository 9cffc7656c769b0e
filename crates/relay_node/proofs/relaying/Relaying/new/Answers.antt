use Rattle.relay_node.proofs.Seen.{relaying_is}
use Rattle.relay_node.proofs.relaying.Relaying.new.Goals as goal

pub returns : goal.returns
returns g c = relaying_is g.T.Timeline.told c.args.ring.now.limits c.find_floor-floor.result c.args.tail c.find_floor-floor.ensures.floor c.requires.end
