use Rattle.std.proofs.Common.{◌≡◌, ◌∷◌, ◌++◌, take}
use Rattle.std.specs.Prelude.{flat_map, string_bytes}
use Rattle.partition_filter.specs.Spelling.{rule_text}
use Rattle.partition_filter.proofs.writing.append_more_rules.Given as goal

abbrev pub invariant-loop-rule : goal.invariant-loop-rule
invariant-loop-rule l = string_bytes l.out ≡ string_bytes l.fn.out ++ flat_map (λ r. 59 ∷ rule_text r) (take l.rule-index l.rules)
