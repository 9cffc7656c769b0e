use Rattle.log_store.proofs.Openings.{not_opened, nothing_opened}
use Rattle.log_store.proofs.store.LogStore.join.Goals as goal

pub returns-in_default : goal.returns-in_default
returns-in_default g c = nothing_opened g.D.Disk.state c.args.disks.items

pub returns-in_default-with_capacity : goal.returns-in_default-with_capacity
returns-in_default-with_capacity g c = nothing_opened g.D.Disk.state c.args.disks.items

pub returns-in-Err : goal.returns-in-Err
returns-in-Err g c =
    not_opened g.D.Disk.state c.in-Err.fault c.args.disks.items c.open_in_order.new.segments.items c.open_in_order.new.disks.items c.open_in_order.new.order.items c.in-Err.ensures.opens c.give_back.new.disks.items c.give_back.ensures
