use Rattle.std.proofs.Common.{◌≡◌, map, None, true, subst}
use Rattle.partition_filter.specs.declared.rule.Rule.{Rule}
use Rattle.partition_filter.specs.Rising.{rises}
use Rattle.partition_filter.specs.Selection.{accepts_key}
use Rattle.partition_filter.proofs.Searches.{only_first}
use Rattle.partition_filter.proofs.accepting.+accepts_in_order.Goals as goal

pub returns-then-rule-source : goal.returns-then-rule-source
returns-then-rule-source t c =
    let parts = c.in-Some.ensures.cases.0 in
    let source : Rule → _ = λ (r : Rule). r.source in
    rw (c.accepts_key.ensures, parts) (only_first source (λ (r : Rule). accepts_key r.keys c.args.key.now) c.args.source c.in-Some.rule.now c.in-Some.others.now (subst (λ l. rises None (map source l) ≡ true) parts c.requires.rising) c.if-rule-source.true)
