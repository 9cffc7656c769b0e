use Rattle.std.proofs.Common.{rules}
use Rattle.std.proofs.lemmas.Result.{err_from_is_err_and}
use Rattle.bus_top.proofs.Pieces.{fed_more, fed_err, fed_breaks}
use Rattle.bus_top.proofs.session.Session.feed.Goals as goal

pub loop-after-preserved : goal.loop-after-preserved
loop-after-preserved g c = record {
  fed = fed_more _ c.loop-after.rest.now c.in-Some.after.now c.args.self.now c.loop-after.self c.take_next.new.self _ _ _ c.loop-after.text.items c.take_next.new.text.items c.relieve.new.text.items c.loop-after.invariant.fed (rw c.in-Some.is at c.in_ok-after.ensures.took) c.in_ok-relieve.ensures.sends;
  later = search rules;
}

pub returns-in_err-after-clause-feeds : goal.returns-in_err-after-clause-feeds
returns-in_err-after-clause-feeds g c =
    let p = err_from_is_err_and c.from_residual.result c.from_residual.ensures.1 in
    rw (p.1, p.2) (fed_err c.in_err-after.field-0.0 _ c.loop-after.rest.now c.args.self.now c.loop-after.self c.take_next.new.self _ _ c.loop-after.text.items c.take_next.new.text.items c.loop-after.invariant.fed c.in_err-after.ensures.stops)

pub returns-in_err-relieve-clause-feeds : goal.returns-in_err-relieve-clause-feeds
returns-in_err-relieve-clause-feeds g c =
    let p = err_from_is_err_and c.from_residual-in_err-relieve.result c.from_residual-in_err-relieve.ensures.1 in
    rw (p.1, p.2) (fed_breaks c.in_err-relieve.field-0.0 _ c.loop-after.rest.now c.in-Some.after.now c.args.self.now c.loop-after.self c.take_next.new.self _ _ _ c.loop-after.text.items c.take_next.new.text.items c.relieve.new.text.items c.loop-after.invariant.fed (rw c.in-Some.is at c.in_ok-after.ensures.took) c.in_err-relieve.ensures.breaks c.in_err-relieve.ensures.fault)
