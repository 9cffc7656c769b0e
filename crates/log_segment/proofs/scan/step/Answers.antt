use Rattle.log_segment.proofs.Scannings.{gate_of}
use Rattle.log_segment.proofs.scan.step.Goals as goal

pub returns-in-Record-clause-gate : goal.returns-in-Record-clause-gate
returns-in-Record-clause-gate g c = gate_of c.take_record.result c.take_record.new.scan.gate c.args.end c.take_record.ensures.gate
