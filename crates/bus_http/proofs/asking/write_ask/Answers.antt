use Rattle.bus_http.proofs.ReadBack.{asked_again}
use Rattle.bus_http.proofs.asking.write_ask.Goals as goal

pub returns-in_default-clause-read_back : goal.returns-in_default-clause-read_back
returns-in_default-clause-read_back g c = asked_again c.args.ask.now c.requires.rules c.in_range.ensures

pub returns-in-Ok-write_all-clause-read_back : goal.returns-in-Ok-write_all-clause-read_back
returns-in-Ok-write_all-clause-read_back g c = asked_again c.args.ask.now c.requires.rules c.in_range.ensures

pub returns-clause-read_back : goal.returns-clause-read_back
returns-clause-read_back g c = asked_again c.args.ask.now c.requires.rules c.in_range.ensures
