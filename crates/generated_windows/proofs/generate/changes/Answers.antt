use Rattle.generated_windows.proofs.Generating.{changes_more, after_more}
use Rattle.generated_windows.proofs.generate.changes.Goals as goal

pub loop-i-preserved : goal.loop-i-preserved
loop-i-preserved c =
    let state = c.in_ok-change.ensures.state in
    record {
      changes = rw (c.in_ok-push.ensures.items, state) (changes_more c.loop-i._i c.args.count c.loop-i.state c.in_ok-change.field-0 c.loop-i.changes.items _ c.loop-i-test.true c.in_ok-change.ensures.change c.loop-i.invariant.changes);
      state = rw state (after_more c.loop-i._i c.args.count c.loop-i.state _ c.loop-i-test.true c.loop-i.invariant.state);
    }
