use Rattle.relay_node.specs.Pieces.{At}
use Rattle.relay_node.proofs.Runs.{last_next, finish_none, finishes, finishes_at_fault}
use Rattle.relay_node.proofs.feed.Feed.finish.Goals as goal

pub take_numbered-requires-after_bounds : goal.take_numbered-requires-after_bounds
take_numbered-requires-after_bounds g c =
    let a : At = record { sent = c.args.self.now.publisher; lines = c.args.self.now.lines } in
    let last = c.in-Some.ensures in
    λ κs lives. last_next g.T.Timeline.told a c.in-Some.line.now last.line last.all last.within c.requires.ends

pub returns-in_default-clause-done : goal.returns-in_default-clause-done
returns-in_default-clause-done g c =
    let a : At = record { sent = c.args.self.now.publisher; lines = c.args.self.now.lines } in
    finish_none a c.in_default.ensures.none

pub returns-clause-done : goal.returns-clause-done
returns-clause-done g c =
    let a : At = record { sent = c.args.self.now.publisher; lines = c.args.self.now.lines } in
    let last = c.in-Some.ensures in
    finishes c.take_numbered.result c.number-number.result a c.in-Some.line.now c.take_numbered.new.publisher last.line last.all last.within c.take_numbered.ensures

pub returns-clause-stops : goal.returns-clause-stops
returns-clause-stops g c =
    let a : At = record { sent = c.args.self.now.publisher; lines = c.args.self.now.lines } in
    let last = c.in-Some.ensures in
    finishes_at_fault c.take_numbered.result c.number-number.result a c.in-Some.line.now c.take_numbered.new.publisher c.number-number.ensures last.line last.all last.within c.take_numbered.ensures
