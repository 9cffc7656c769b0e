use Rattle.std.proofs.Common.{subst}
use Rattle.std.specs.Io.KnownBytes.{Appends}
use Rattle.bus_http.specs.Replies.{reply_head}
use Rattle.bus_http.specs.Sent.{WroteFront}
use Rattle.partition_filter.specs.Selection.{test_of}
use Rattle.relay_server.proofs.Sendings.{range_sent, range_headless, range_fault}
use Rattle.relay_server.proofs.stream.send_range.Goals as goal

pub returns-in_default-clause-part : goal.returns-in_default-clause-part
returns-in_default-clause-part g c =
    let range = c.args.range in
    range_headless g.T.Timeline.told (test_of range.filter) range.entries range.size _ _
    (subst (λ n. WroteFront (g.W.Sink.written c.args.out.now) (g.W.Sink.written c.send_head.new.out) (reply_head n)) c.size.ensures c.in_default.ensures.part)

pub returns-in_default-send_windows-clause-part : goal.returns-in_default-send_windows-clause-part
returns-in_default-send_windows-clause-part g c =
    let range = c.args.range in
    range_fault g.T.Timeline.told (test_of range.filter) range.entries range.size _ _ _
    (subst (λ n. Appends (g.W.Sink.written c.args.out.now) (g.W.Sink.written c.send_head.new.out) (reply_head n)) c.size.ensures c.in-Ok.ensures.ok) c.in_default-send_windows.ensures.part

pub returns-clause-ok : goal.returns-clause-ok
returns-clause-ok g c =
    let range = c.args.range in
    range_sent g.T.Timeline.told (test_of range.filter) range.entries range.size _ _ _
    (subst (λ n. Appends (g.W.Sink.written c.args.out.now) (g.W.Sink.written c.send_head.new.out) (reply_head n)) c.size.ensures c.in-Ok.ensures.ok) c.in-Ok-send_windows.ensures.ok
