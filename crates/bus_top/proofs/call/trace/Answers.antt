use Rattle.bus_top.specs.declared.status.Status.TheVariants.{Usage}
use Rattle.bus_top.proofs.Promise.{headline}
use Rattle.bus_top.proofs.call.trace.Goals as goal

pub returns-then-not-is_trace-clause-headline : goal.returns-then-not-is_trace-clause-headline
returns-then-not-is_trace-clause-headline g c = headline Usage _ (g.S.Source.left c.args.input.now) _ c.requires

pub returns-clause-headline : goal.returns-clause-headline
returns-clause-headline g c = headline c.run.result _ _ _ c.run.ensures.kept
