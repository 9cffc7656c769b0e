use Rattle.trace_script.proofs.LineTexts.{found, bad}
use Rattle.trace_script.proofs.WrittenTexts.{all_in_range}
use Rattle.trace_script.proofs.reading.read_line.Goals as goal

pub returns-clause-found : goal.returns-clause-found
returns-clause-found c = found c.text_line.result c.args.text.now c.text_line.ensures.exact

pub returns-clause-in_range : goal.returns-clause-in_range
returns-clause-in_range c = all_in_range c.text_line.result c.args.text.now c.text_line.ensures.exact

pub returns-clause-bad : goal.returns-clause-bad
returns-clause-bad c = bad c.text_line.result c.args.text.now c.text_line.ensures.exact
