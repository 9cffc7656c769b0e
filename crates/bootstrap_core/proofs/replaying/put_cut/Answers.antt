use Rattle.bus_types.specs.Cut.{cut}
use Rattle.partition_filter.specs.Selection.{test_of}
use Rattle.bootstrap_core.proofs.Replays.{cut_long, cut_fits, cut_back_off, cut_small}
use Rattle.std.proofs.Common.{arith}
use Rattle.bootstrap_core.proofs.replaying.put_cut.Goals as goal

pub returns-then-size-room-clause-size : goal.returns-then-size-room-clause-size
returns-then-size-room-clause-size c =
    cut_long c.args.reply.now.items c.write_filtered.new.out.items (cut (test_of c.args.filter.now) c.args.window.now) c.len.result c.len-before.result c.in_ok-write_filtered.ensures.ok (omega (arith, c.len.ensures, c.write_filtered.new.out.ok)) (omega (arith, c.len-before.ensures, c.args.reply.now.ok))

pub returns-then-size-room-clause-put : goal.returns-then-size-room-clause-put
returns-then-size-room-clause-put c =
    let w = cut (test_of c.args.filter.now) c.args.window.now in
    let before = c.args.reply.now.items in
    let out = c.write_filtered.new.out.items in
    cut_back_off before out c.truncate.new.self.items w c.args.room _ c.len-before.result c.in_ok-write_filtered.ensures.ok
    (cut_long before out w c.len.result c.len-before.result c.in_ok-write_filtered.ensures.ok (omega (arith, c.len.ensures, c.write_filtered.new.out.ok)) (omega (arith, c.len-before.ensures, c.args.reply.now.ok))) (omega (arith, c.if-size-room.true)) (omega (arith, c.len-before.ensures, c.args.reply.now.ok)) c.truncate.ensures.items

pub returns-else-size-room-clause-size : goal.returns-else-size-room-clause-size
returns-else-size-room-clause-size c =
    cut_long c.args.reply.now.items c.write_filtered.new.out.items (cut (test_of c.args.filter.now) c.args.window.now) c.len.result c.len-before.result c.in_ok-write_filtered.ensures.ok (omega (arith, c.len.ensures, c.write_filtered.new.out.ok)) (omega (arith, c.len-before.ensures, c.args.reply.now.ok))

pub returns-else-size-room-clause-put : goal.returns-else-size-room-clause-put
returns-else-size-room-clause-put c =
    let w = cut (test_of c.args.filter.now) c.args.window.now in
    let before = c.args.reply.now.items in
    let out = c.write_filtered.new.out.items in
    cut_fits before out w c.args.room _ c.in_ok-write_filtered.ensures.ok
    (cut_long before out w c.len.result c.len-before.result c.in_ok-write_filtered.ensures.ok (omega (arith, c.len.ensures, c.write_filtered.new.out.ok)) (omega (arith, c.len-before.ensures, c.args.reply.now.ok))) (omega (arith, c.if-size-room.false))

pub returns-then-size-room-clause-small : goal.returns-then-size-room-clause-small
returns-then-size-room-clause-small c =
    let w = cut (test_of c.args.filter.now) c.args.window.now in
    cut_small (test_of c.args.filter.now) c.args.window.now _ c.size-whole.ensures.fits
    (cut_long c.args.reply.now.items c.write_filtered.new.out.items w c.len.result c.len-before.result c.in_ok-write_filtered.ensures.ok (omega (arith, c.len.ensures, c.write_filtered.new.out.ok)) (omega (arith, c.len-before.ensures, c.args.reply.now.ok)))

pub returns-else-size-room-clause-small : goal.returns-else-size-room-clause-small
returns-else-size-room-clause-small c =
    let w = cut (test_of c.args.filter.now) c.args.window.now in
    cut_small (test_of c.args.filter.now) c.args.window.now _ c.size-whole.ensures.fits
    (cut_long c.args.reply.now.items c.write_filtered.new.out.items w c.len.result c.len-before.result c.in_ok-write_filtered.ensures.ok (omega (arith, c.len.ensures, c.write_filtered.new.out.ok)) (omega (arith, c.len-before.ensures, c.args.reply.now.ok)))
