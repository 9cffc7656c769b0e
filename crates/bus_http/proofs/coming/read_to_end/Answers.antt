use Rattle.std.proofs.Common.{◌<◌, length, ap, arith}
use Rattle.bus_http.proofs.Comings.{found_head, no_head, ended_part}
use Rattle.bus_http.proofs.coming.read_to_end.Goals as goal

pub returns-in-Some-clause-comes : goal.returns-in-Some-clause-comes
returns-in-Some-clause-comes g c =
    found_head c.loop-end.place c.in-Some.end c.loop-end.seen c.loop-end.inbox c.behind.result.now c.loop-end.invariant.place c.behind.ensures.behind c.loop-end.invariant.seen c.in-Some.ensures.some c.in-Some.ensures.within

pub returns-then-place-eq-MAX_HEAD-clause-comes : goal.returns-then-place-eq-MAX_HEAD-clause-comes
returns-then-place-eq-MAX_HEAD-clause-comes g c = record {
  full = omega (arith, ap length c.held-place.ensures.held, c.if-place-eq-MAX_HEAD.true);
  none = no_head c.loop-end.place c.loop-end.seen c.find_end.new.seen c.loop-end.inbox c.behind.result.now c.behind.ensures.behind c.loop-end.invariant.seen c.in_default.ensures.none;
}

pub returns-in-Ok-eq0-clause-comes : goal.returns-in-Ok-eq0-clause-comes
returns-in-Ok-eq0-clause-comes g c =
    let short : length c.loop-end.inbox < 16384 = omega (arith, ap length c.held-place.ensures.held, c.held-place.ensures.short) in
    ended_part _ _ _ _ c.loop-end.inbox c.read_more.new.self c.in-Ok-eq0.field-0 c.read_more.ensures.draws c.in-Ok-eq0.ensures.size c.in-Ok-eq0.field-0-test c.in-Ok-eq0.ensures.end short
    (no_head c.loop-end.place c.loop-end.seen c.find_end.new.seen c.loop-end.inbox c.behind.result.now c.behind.ensures.behind c.loop-end.invariant.seen c.in_default.ensures.none)
