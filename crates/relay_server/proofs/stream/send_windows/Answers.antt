use Rattle.std.proofs.Common.{refl, ◌∙◌, arith}
use Rattle.partition_filter.specs.Selection.{test_of}
use Rattle.relay_server.proofs.Sendings.{windows_begin, windows_more, windows_fault, windows_done}
use Rattle.relay_server.proofs.stream.send_windows.Goals as goal

pub loop-i-init : goal.loop-i-init
loop-i-init g c = record {
  sent = windows_begin g.T.Timeline.told c.args.range.now.entries (test_of c.args.range.now.filter) _;
  later = omega arith;
  beside = refl;
}

pub loop-i-preserved : goal.loop-i-preserved
loop-i-preserved g c =
    let held = c.loop-i.invariant in
    record {
      sent = windows_more g.T.Timeline.told c.args.range.now.entries (test_of c.args.range.now.filter) _ _ _ c.loop-i.i held.sent (omega (arith, c.loop-i-test.true, c.count-i-end.ensures)) c.in-Ok.ensures.ok;
      later = omega (arith, held.later, c.send_window.ensures.cause.later);
      beside = c.send_window.ensures.beside ∙ held.beside;
    }

pub returns-in_default-clause-part : goal.returns-in_default-clause-part
returns-in_default-clause-part g c =
    windows_fault g.T.Timeline.told c.args.range.now.entries (test_of c.args.range.now.filter) _ _ _ c.loop-i.i c.loop-i.invariant.sent (omega (arith, c.loop-i-test.true, c.count-i-end.ensures))
    c.in_default.ensures.part

pub returns-clause-ok : goal.returns-clause-ok
returns-clause-ok g c =
    windows_done g.T.Timeline.told c.args.range.now.entries (test_of c.args.range.now.filter) _ _ c.loop-i.i c.loop-i.invariant.sent (omega (arith, c.loop-i-test.false, c.count-i-end.ensures))
