use Rattle.std.proofs.Common.{length, ap, ◌∙◌, arith}
use Rattle.log_segment.proofs.Scannings.{goes_on, stops}
use Rattle.log_segment.proofs.scan.read_more.Goals as goal

pub returns-in-Ok-eq0-clause-told : goal.returns-in-Ok-eq0-clause-told
returns-in-Ok-eq0-clause-told g c =
    let same = ap length c.bytes.ensures in
    stops c.args.scan.now c.args.end c.in-Ok-eq0.field-0 c.args.ahead.now c.read_on.new.ahead _ c.fault_place-place.result
    (λ none. c.fault_place-place.ensures.none (same ∙ none)) (λ some. c.fault_place-place.ensures.some (omega (arith, some, same)))
    c.in-Ok-eq0.field-0-test c.requires.short c.in-Ok-eq0.ensures.told

pub returns-in-Ok-clause-told : goal.returns-in-Ok-clause-told
returns-in-Ok-clause-told g c = goes_on c.args.scan.now c.args.end c.in-Ok.field-0 c.args.ahead.now c.read_on.new.ahead _ c.in-Ok.ensures.told
