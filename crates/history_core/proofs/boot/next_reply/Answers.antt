use Rattle.std.proofs.Common.{List, ℕ, ◌++◌, ap, ◌∙◌, rules}
use Rattle.bus_types.specs.Relay.{answer_of}
use Rattle.partition_filter.specs.Selection.{test_of}
use Rattle.partition_filter.specs.Selection.Selection.{All}
use Rattle.event_codec.specs.Reply.{reply_bytes}
use Rattle.history_core.proofs.LogRuns.{told_windows, next_reply}
use Rattle.history_core.proofs.boot.next_reply.Goals as goal

pub unreachable-requires : goal.unreachable-requires
unreachable-requires g c =
    let told = rw c.everything.ensures at c.in_ok-served.ensures.served in
    let windows = told_windows c.requires.0 (g.B.Buffer.relay c.args.relay.now) c.args.scn c.requires.1 c.in_ok-served.served told in
    search rules

pub returns : goal.returns
returns g c ws has =
    let told = rw (c.everything.ensures, c.in-Windows.is) at c.in_ok-served.ensures.served in
    let sent = rw c.everything.ensures at c.in_ok-served.ensures.bytes in
    next_reply ws (g.B.Buffer.relay c.args.relay.now) c.args.scn has c.in-Windows.count c.in-Windows.last c.in-Windows.bytes c.relay_answer-2.new.reply.items told
    (sent ∙ ap (λ (bytes : List ℕ). bytes ++ reply_bytes (answer_of (g.B.Buffer.relay c.args.relay.now) c.args.scn (test_of All) 16777216)) c.new-reply.ensures.items)
