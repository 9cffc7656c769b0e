use Rattle.partition_filter.specs.Spelling.{rule_text}
use Rattle.partition_filter.proofs.Written.{joined-after}
use Rattle.partition_filter.proofs.writing.append_rules.Goals as goal

pub returns : goal.returns
returns c =
    joined-after c.append_more_rules.result 59 rule_text c.args.rules.now _ c.first-item.result _ _ _ c.in-len1-up.len_at_least c.first-item.is c.in_ok-append_rule.ensures c.append_more_rules.ensures
