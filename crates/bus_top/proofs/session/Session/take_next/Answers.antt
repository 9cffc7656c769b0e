use Rattle.std.proofs.Common.{Err, ap}
use Rattle.std.proofs.lemmas.Result.{err_from_is_err_and}
use Rattle.bus_top.proofs.Pieces.{stops_cut, stops_line, took_next}
use Rattle.bus_top.proofs.session.Session.take_next.Goals as goal

pub returns-in_err-end-clause-stops : goal.returns-in_err-end-clause-stops
returns-in_err-end-clause-stops c =
    let p = err_from_is_err_and c.from_residual.result c.from_residual.ensures.1 in
    rw (p.1, p.2) (stops_cut c.in_err-end.field-0.0 c.args.self.now c.args.piece.now c.args.text.now.items c.requires.session (λ n is. c.in_err-end.ensures.too_long n (ap Err is)))

pub returns-in_err-take_line-clause-stops : goal.returns-in_err-take_line-clause-stops
returns-in_err-take_line-clause-stops c =
    let p = err_from_is_err_and c.from_residual-in_err-take_line.result c.from_residual-in_err-take_line.ensures.1 in
    rw (p.1, p.2) (stops_line c.in_err-take_line.field-0.0 c.number.result c.args.self.now c.take.new.self c.take_line.new.bus c.args.piece.now c.in-Some.end.now c.in-Some.rest.now c.args.text.now.items c.take_line.new.text.items c.requires.session (rw c.in-Some.is at c.in_ok-end.ensures.cut) c.number.ensures (rw c.line-line.ensures at c.in_err-take_line.ensures))

pub returns-clause-took : goal.returns-clause-took
returns-clause-took c =
    took_next c.args.self.now c.take.new.self c.pass.new.self c.take_line.new.bus c.args.piece.now c.in-Some.end.now c.in-Some.rest.now c.args.text.now.items c.take_line.new.text.items c.requires.session (rw c.in-Some.is at c.in_ok-end.ensures.cut) (rw c.line-line.ensures at c.in_ok-take_line.ensures) c.pass.ensures
