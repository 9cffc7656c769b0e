use Rattle.std.proofs.Common.{take}
use Rattle.bus_wire.specs.Lawful.{after_floor}
use Rattle.bootstrap_core.proofs.ReplyWindows.{split_whole, split_good, come_first, reply_windows}
use Rattle.bootstrap_core.proofs.logging.split.Goals as goal

pub first_windows-requires : goal.first_windows-requires
first_windows-requires c = (c.requires.0, reply_windows c.args.high c.args.reply.now c.requires.0 c.requires.1)

pub unreachable-requires : goal.unreachable-requires
unreachable-requires c =
    let ws = c.requires.0 in
    let are = c.requires.1 in
    let fed = rw (c.in-Err-Bad.field-0-is, c.new.ensures.value, c.new-windows.ensures.items) at c.in-Err-Bad.ensures.piece in
    split_good c.args.high c.first_windows.result.now (take c.args.n ws) (come_first c.args.n (after_floor c.args.high) ws are.run.asked.come) (c.first_windows.ensures ws (reply_windows c.args.high c.args.reply.now ws are))
    c.in-Err-Bad.field-0-0 c.feed.new.self c.feed.new.whole.items fed

pub returns-in-Ok-clause-windows : goal.returns-in-Ok-clause-windows
returns-in-Ok-clause-windows c ws are =
    let fed = rw (c.new.ensures.value, c.new-windows.ensures.items) at c.in-Ok.ensures.piece in
    split_whole c.args.high c.first_windows.result.now (take c.args.n ws) (come_first c.args.n (after_floor c.args.high) ws are.run.asked.come) (c.first_windows.ensures ws (reply_windows c.args.high c.args.reply.now ws are))
    c.feed.new.self c.feed.new.whole.items fed
