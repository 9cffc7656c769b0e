use Rattle.bus_top.proofs.Pieces.{finish_none, finishes}
use Rattle.bus_top.proofs.session.Session.finish.Goals as goal

pub returns-in_default : goal.returns-in_default
returns-in_default c = finish_none c.args.self.now c.args.text.now.items c.requires c.in_default.ensures.none

pub returns : goal.returns
returns c =
    let last = c.in-Some.ensures in
    finishes c.take_line.result c.number.result c.in-Some.line.now c.args.self.now c.args.text.now.items c.take_line.new.bus c.take_line.new.text.items c.requires c.number.ensures last.line last.all last.within c.take_line.ensures
