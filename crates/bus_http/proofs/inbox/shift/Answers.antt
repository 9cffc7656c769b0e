use Rattle.bus_http.proofs.Drawings.{shifted}
use Rattle.bus_http.proofs.inbox.shift.Goals as goal

pub returns-clause-moved : goal.returns-clause-moved
returns-clause-moved c = shifted c.args.room.now c.copy_within.new.self c.args.start c.args.end c.requires.ordered c.requires.within c.copy_within.ensures.after
