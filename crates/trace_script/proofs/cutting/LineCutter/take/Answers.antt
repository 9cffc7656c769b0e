use Rattle.std.proofs.Common.{subst}
use Rattle.std.proofs.lemmas.Result.{err_from_is_err_and}
use Rattle.trace_script.specs.Cutting.{Cut, CutsOff, IsLong}
use Rattle.trace_script.proofs.CutLines.{cut_off, long_line, long_already, same_fault}
use Rattle.trace_script.proofs.cutting.LineCutter.take.Goals as goal

pub returns-in_err-hold-in-None-clause-too_long : goal.returns-in_err-hold-in-None-clause-too_long
returns-in_err-hold-in-None-clause-too_long c =
    let p = err_from_is_err_and c.from_residual.result c.from_residual.ensures.1 in
    let i = c.self.inside in
    let cut : Cut = record { count = i.count; used = i.used; come = i.come.items } in
    let fault = c.in_err-hold-in-None.ensures in
    rw (p.1, p.2) (λ line is. subst (λ (x : Cut). IsLong x c.args.piece.now line) c.self.view_is
    (long_already cut c.args.piece.now line c.self.invariant c.in-None.ensures.none (fault.number line (same_fault _ _ is)) (fault.some line (same_fault _ _ is)) (fault.too_long line (same_fault _ _ is))))

pub returns-in_err-join-in-Some-clause-too_long : goal.returns-in_err-join-in-Some-clause-too_long
returns-in_err-join-in-Some-clause-too_long c =
    let p = err_from_is_err_and c.from_residual-in_err-join-in-Some.result c.from_residual-in_err-join-in-Some.ensures.1 in
    let i = c.self.inside in
    let cut : Cut = record { count = i.count; used = i.used; come = i.come.items } in
    let fault = c.in_err-join-in-Some.ensures in
    let parts = c.in-Some.ensures.some in
    rw (p.1, p.2) (λ line is. subst (λ (x : Cut). IsLong x c.args.piece.now line) c.self.view_is
    (long_line cut c.args.piece.now c.in-Some.end.now c.in-Some.rest.now line c.self.invariant parts.0 parts.1 (fault.number line (same_fault _ _ is)) (fault.too_long line (same_fault _ _ is))))

pub returns-in_ok-join-in-Some-clause-cut : goal.returns-in_ok-join-in-Some-clause-cut
returns-in_ok-join-in-Some-clause-cut c =
    let i = c.self.inside in
    let cut : Cut = record { count = i.count; used = i.used; come = i.come.items } in
    let parts = c.in-Some.ensures.some in
    let joined = c.in_ok-join-in-Some.ensures in
    subst (λ (x : Cut). CutsOff x c.args.piece.now (record { count = i.count; used = i.used; come = c.join.new.come.items }) c.in-Some.end.now c.in-Some.rest.now) c.self.view_is
    (cut_off cut c.args.piece.now c.in-Some.end.now c.in-Some.rest.now c.join.new.come.items c.self.invariant parts.0 parts.1 joined.ok joined.within)
