use Rattle.bus_types.specs.View.{everything}
use Rattle.relay_node.proofs.Seen.{sees_at, finds_floor}
use Rattle.relay_node.proofs.relaying.find_floor.Goals as goal

pub returns-clause-sees : goal.returns-clause-sees
returns-clause-sees g c = sees_at g.T.Timeline.told c.args.ring.now c.args.pass.now c.open.new.self c.requires.home c.requires.sees c.open.ensures.looked c.open.ensures.lawful

pub returns-clause-floor : goal.returns-clause-floor
returns-clause-floor g c =
    let sees = sees_at g.T.Timeline.told c.args.ring.now c.args.pass.now c.open.new.self c.requires.home c.requires.sees c.open.ensures.looked c.open.ensures.lawful in
    finds_floor g.T.Timeline.told c.args.ring.now.limits c.open.new.self everything 0 c.told_floor.result _ c.open.result g.T.Timeline.lawful sees c.open.ensures.opened c.told_floor.ensures
