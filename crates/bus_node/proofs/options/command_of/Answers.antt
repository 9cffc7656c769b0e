use Rattle.clap.specs.Words.{app_of, rule_of}
use Rattle.bus_node.proofs.Walks.{one_more_taken}
use Rattle.bus_node.proofs.options.command_of.Goals as goal

pub loop-name-preserved : goal.loop-name-preserved
loop-name-preserved c =
    one_more_taken (app_of c.loop-name.command) (app_of c.in_ok-command.command) c.args.names.now c.loop-name.name-index _ (rule_of c.option.result)
    c.loop-name-test.true c.loop-name.invariant c.option.ensures.rule (c.in_ok-command.ensures.shape c.option.ensures.local)
