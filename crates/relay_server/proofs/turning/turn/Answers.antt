use Rattle.std.proofs.Common.{true, Some, None, IfSome, refl, subst, arith}
use Rattle.bus_types.specs.Causes.{Rose}
use Rattle.bus_http.specs.Talks.{IsWriteEnd}
use Rattle.bus_http.proofs.Turnings.{ended_turn, responded_turn, declined_turn, saw_found, saw_fault, declined_read}
use Rattle.bus_http.specs.declared.route.Side.TheVariants.{Relay}
use Rattle.relay_server.specs.Shared.{MayShare, KeepsPass}
use Rattle.relay_server.proofs.turning.turn.Goals as goal

pub returns-in-Ok-None-clause-turned : goal.returns-in-Ok-None-clause-turned
returns-in-Ok-None-clause-turned g c =
    let kept = g.met.C.Conn.read_leaves _ _ c.in-Ok-None.ensures.beside in
    ended_turn Relay (MayShare g.T.Timeline.told) KeepsPass true _ _ _ _ _ _ _ c.args.inbox.now c.read_request.new.inbox
    (saw_found _ _ _ _ _ _ _ _ _ None refl c.in-Ok-None.field-0-is c.in-Ok-None.ensures.saw) kept.0

pub returns-in-Ok-None-clause-later : goal.returns-in-Ok-None-clause-later
returns-in-Ok-None-clause-later g c =
    let kept = g.met.C.Conn.read_leaves _ _ c.in-Ok-None.ensures.beside in
    (c.in-Ok-None.ensures.later, omega (arith, kept.2))

pub returns-in-Ok-Some-clause-turned : goal.returns-in-Ok-Some-clause-turned
returns-in-Ok-Some-clause-turned g c =
    let kept = g.met.C.Conn.read_leaves _ _ c.in-Ok-Some.ensures.beside in
    let same = g.met.C.Conn.write_leaves _ _ c.respond.ensures.beside in
    responded_turn Relay (MayShare g.T.Timeline.told) KeepsPass true _ _ c.in-Ok-Some.request _ _ _ _ _ _ _ _ _ c.args.inbox.now c.read_request.new.inbox c.respond.result
    (saw_found _ _ _ _ _ _ _ _ _ (Some c.in-Ok-Some.request) refl c.in-Ok-Some.field-0-is c.in-Ok-Some.ensures.saw) c.respond.ensures.responding kept.0 same.1 same.0

pub returns-in-Ok-Some-clause-later : goal.returns-in-Ok-Some-clause-later
returns-in-Ok-Some-clause-later g c =
    let kept = g.met.C.Conn.read_leaves _ _ c.in-Ok-Some.ensures.beside in
    let same = g.met.C.Conn.write_leaves _ _ c.respond.ensures.beside in
    (omega (arith, c.in-Ok-Some.ensures.later, same.2), omega (arith, c.respond.ensures.later, kept.2))

pub returns-in-Ok-Some-clause-write : goal.returns-in-Ok-Some-clause-write
returns-in-Ok-Some-clause-write g c =
    let kept = g.met.C.Conn.read_leaves _ _ c.in-Ok-Some.ensures.beside in
    subst (λ n. IfSome c.respond.result (λ end. IsWriteEnd end → Rose n (g.C.Sink.faults c.respond.new.out))) kept.2 c.respond.ensures.risen

pub returns-in-Err-clause-turned : goal.returns-in-Err-clause-turned
returns-in-Err-clause-turned g c =
    let kept = g.met.C.Conn.read_leaves _ _ c.in-Err.ensures.beside in
    let same = g.met.C.Conn.write_leaves _ _ c.decline.ensures.beside in
    declined_turn Relay (MayShare g.T.Timeline.told) KeepsPass true _ c.in-Err.fault _ _ _ _ _ _ _ _ _ c.args.inbox.now c.read_request.new.inbox c.decline.result
    (saw_fault _ _ _ _ _ _ _ _ c.in-Err.fault refl c.in-Err.ensures.saw) c.decline.ensures.declining kept.0 same.1 same.0

pub returns-in-Err-clause-later : goal.returns-in-Err-clause-later
returns-in-Err-clause-later g c =
    let kept = g.met.C.Conn.read_leaves _ _ c.in-Err.ensures.beside in
    let same = g.met.C.Conn.write_leaves _ _ c.decline.ensures.beside in
    (omega (arith, c.in-Err.ensures.later, same.2), omega (arith, c.decline.ensures.later, kept.2))

pub returns-in-Err-clause-read : goal.returns-in-Err-clause-read
returns-in-Err-clause-read g c end =
    let same = g.met.C.Conn.write_leaves _ _ c.decline.ensures.beside in
    let rose = c.in-Err.ensures.failed (declined_read c.in-Err.fault _ _ c.decline.result c.decline.ensures.declining end) in
    omega (arith, rose, same.2)

pub returns-in-Err-clause-write : goal.returns-in-Err-clause-write
returns-in-Err-clause-write g c end =
    let kept = g.met.C.Conn.read_leaves _ _ c.in-Err.ensures.beside in
    let rose = c.decline.ensures.risen end in
    omega (arith, rose, kept.2)
