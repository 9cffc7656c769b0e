use Rattle.std.proofs.Common.{Err, ap}
use Rattle.std.proofs.lemmas.Result.{err_from_is_err_and}
use Rattle.relay_node.specs.Pieces.{At}
use Rattle.relay_node.proofs.Runs.{cut_next, stops_cut, stops_line, took_line, cut_shorter}
use Rattle.relay_node.proofs.feed.Feed.take_next.Goals as goal

pub take_numbered-requires-after_bounds : goal.take_numbered-requires-after_bounds
take_numbered-requires-after_bounds g c =
    let a : At = record { sent = c.args.self.now.publisher; lines = c.args.self.now.lines } in
    λ κs lives. rw c.line-line.ensures (cut_next g.T.Timeline.told a c.take.new.self c.args.piece.now c.in-Some.end.now c.in-Some.rest.now (rw c.in-Some.is at c.in_ok-end.ensures.cut) c.requires.leads)

pub returns-in_err-end-clause-stops : goal.returns-in_err-end-clause-stops
returns-in_err-end-clause-stops g c =
    let a : At = record { sent = c.args.self.now.publisher; lines = c.args.self.now.lines } in
    let p = err_from_is_err_and c.from_residual.result c.from_residual.ensures.1 in
    rw (p.1, p.2) (stops_cut c.in_err-end.field-0.0 a c.args.piece.now (λ n is. c.in_err-end.ensures.too_long n (ap Err is)))

pub returns-in_err-take_numbered-clause-stops : goal.returns-in_err-take_numbered-clause-stops
returns-in_err-take_numbered-clause-stops g c =
    let a : At = record { sent = c.args.self.now.publisher; lines = c.args.self.now.lines } in
    let p = err_from_is_err_and c.from_residual-in_err-take_numbered.result c.from_residual-in_err-take_numbered.ensures.1 in
    rw (p.1, p.2) (stops_line c.in_err-take_numbered.field-0.0 c.number-number.result a c.take.new.self c.take_numbered.new.publisher c.args.piece.now c.in-Some.end.now c.in-Some.rest.now (rw c.in-Some.is at c.in_ok-end.ensures.cut) c.number-number.ensures (rw c.line-line.ensures at c.in_err-take_numbered.ensures))

pub returns-clause-took : goal.returns-clause-took
returns-clause-took g c =
    let a : At = record { sent = c.args.self.now.publisher; lines = c.args.self.now.lines } in
    took_line a c.take.new.self c.pass.new.self c.take_numbered.new.publisher c.args.piece.now c.in-Some.end.now c.in-Some.rest.now (rw c.in-Some.is at c.in_ok-end.ensures.cut) (rw c.line-line.ensures at c.in_ok-take_numbered.ensures) c.pass.ensures

pub returns-clause-shorter : goal.returns-clause-shorter
returns-clause-shorter g c = cut_shorter c.args.self.now.lines c.take.new.self c.args.piece.now c.in-Some.end.now c.in-Some.rest.now (rw c.in-Some.is at c.in_ok-end.ensures.cut)
