use Rattle.std.proofs.Common.{rules}
use Rattle.history_core.proofs.LogTakes.{take_booted, take_fault}
use Rattle.history_core.proofs.boot.take.Goals as goal

pub unreachable-requires : goal.unreachable-requires
unreachable-requires c =
    let can = c.requires.2 in
    let may = take_fault c.requires.0 c.requires.1 c.args.count c.args.boot.now c.args.reply.now can c.take_log.new.self c.take_log.result c.in-Err.field-0 c.in-Err.is c.take_log.ensures.takes c.take_log.ensures.halted (c.take_log.ensures.stands c.requires.0 can.timeline can.booted.stands can.next.reply) in
    search rules

pub returns-in-Ok : goal.returns-in-Ok
returns-in-Ok c ws end can = take_booted ws end c.args.count c.args.boot.now c.args.reply.now can c.take_log.new.self c.in-Ok.field-0 c.in-Ok.ensures.takes (c.take_log.ensures.stands ws can.timeline can.booted.stands can.next.reply)
