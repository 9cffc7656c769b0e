use Rattle.std.proofs.Common.{Ok, subst, arith}
use Rattle.bus_stores.specs.Log.{ReadsNext}
use Rattle.delta_consolidate.proofs.Stretch.{finds_next, finds_above, finds_none}
use Rattle.delta_consolidate.proofs.gathering.next_upto.Goals as goal

pub returns-in_default-clause-found : goal.returns-in_default-clause-found
returns-in_default-clause-found g c =
    let old = g.G.WindowLog.state c.args.log.now in
    let new = g.G.WindowLog.state c.next.new.self in
    finds_none c.args.at c.args.target old new (subst (λ found. ReadsNext c.args.at old new (Ok found)) c.in_default.is c.in_ok-window.ensures.next)

pub returns-then-scn-target-clause-found : goal.returns-then-scn-target-clause-found
returns-then-scn-target-clause-found g c =
    let old = g.G.WindowLog.state c.args.log.now in
    let new = g.G.WindowLog.state c.next.new.self in
    finds_above c.args.at c.args.target old new c.in-Some.window c.high-within.ensures.log (subst (λ found. ReadsNext c.args.at old new (Ok found)) c.in-Some.is c.in_ok-window.ensures.next)
    (omega (arith, c.if-scn-target.true, c.scn.ensures.value))

pub returns-clause-found : goal.returns-clause-found
returns-clause-found g c =
    let old = g.G.WindowLog.state c.args.log.now in
    let new = g.G.WindowLog.state c.next.new.self in
    finds_next c.args.at c.args.target old new c.in-Some.window c.high-within.ensures.log (subst (λ found. ReadsNext c.args.at old new (Ok found)) c.in-Some.is c.in_ok-window.ensures.next)
    (omega (arith, c.if-scn-target.false, c.scn.ensures.value))
