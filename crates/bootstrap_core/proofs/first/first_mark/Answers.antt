use Rattle.std.proofs.Common.{arith}
use Rattle.bootstrap_core.proofs.FirstMarks.{some_window, mark_within, first_is, first_within}
use Rattle.bootstrap_core.proofs.ReplyWindows.{reply_windows}
use Rattle.bootstrap_core.proofs.first.first_mark.Goals as goal

pub of-requires : goal.of-requires
of-requires c = (c.requires.1, reply_windows c.requires.0 c.args.bytes.now c.requires.1 c.requires.2)

pub unreachable-requires : goal.unreachable-requires
unreachable-requires c =
    let ws = c.requires.1 in
    let are = c.requires.2 in
    some_window c.requires.0 c.args.bytes.now ws c.of.result are (c.of.ensures ws (reply_windows c.requires.0 c.args.bytes.now ws are)) c.in_default.ensures.0

pub returns-clause-mark : goal.returns-clause-mark
returns-clause-mark c high ws are =
    let size = mark_within c.in-Some.window c.bytes.result.now c.bytes.ensures in
    first_is ws c.of.result c.next.new.self c.in-Some.window _ c.prev.result (c.of.ensures ws (reply_windows high c.args.bytes.now ws are)) c.in-Some.ensures (omega (arith, size)) c.prev.ensures

pub returns-clause-within : goal.returns-clause-within
returns-clause-within c =
    let ws = c.requires.1 in
    let are = c.requires.2 in
    let size = mark_within c.in-Some.window c.bytes.result.now c.bytes.ensures in
    let within = first_within c.requires.0 c.args.bytes.now ws c.of.result c.next.new.self c.in-Some.window are (c.of.ensures ws (reply_windows c.requires.0 c.args.bytes.now ws are)) c.in-Some.ensures in
    omega (arith, size, within)
