use Rattle.std.proofs.Common.{sym, refl, ◌∙◌}
use Rattle.partition_filter.proofs.FaultTexts.{source_known}
use Rattle.partition_filter.proofs.faults.source_before.Goals as goal

pub returns-then-has_keys : goal.returns-then-has_keys
returns-then-has_keys c = λ keys is. c.read_number.ensures.value ∙ sym (source_known c.args.text.now keys ∙ rw (sym is ∙ c.if-has_keys.true) refl)

pub returns-else-has_keys : goal.returns-else-has_keys
returns-else-has_keys c = λ keys is. sym (source_known c.args.text.now keys ∙ rw (sym is ∙ c.if-has_keys.false) refl)
