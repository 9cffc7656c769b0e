use Rattle.log_segment.proofs.Scannings.{steps_fault}
use Rattle.log_segment.proofs.scan.scan_all.Goals as goal

pub returns-in-Err-clause-told : goal.returns-in-Err-clause-told
returns-in-Err-clause-told g c =
    steps_fault _ _ c.loop-scan.invariant.looks.seen c.args.end c.args.from c.loop-scan.scan c.step.new.scan c.args.ahead.now c.loop-scan.ahead c.step.new.ahead
    c.loop-scan.invariant.told c.in-Err.fault c.in-Err.ensures.told
