use Rattle.std.proofs.Common.{IfSome, subst}
use Rattle.bus_stores.specs.Log.{at_rest}
use Rattle.bus_types.proofs.Stretches.{timeline-take}
use Rattle.bootstrap_core.specs.Boot.{told, BootParts, BootState}
use Rattle.bootstrap_core.proofs.CrashBounds.{brings_none}
use Rattle.bootstrap_core.proofs.ReplyWindows.{run_follows}
use Rattle.bootstrap_core.proofs.Appending.{logs_takes}
use Rattle.bootstrap_core.proofs.boot.Boot.log_windows.Goals as goal

pub log_each-requires : goal.log_each-requires
log_each-requires g c =
    let ws = c.requires.windows.0 in
    let are = c.requires.windows.1 in
    let given = c.in_ok-windows.ensures.windows ws are in
    rw (c.deref.ensures.value, given.0, ← c.requires.high) (timeline-take c.args.high c.args.n ws (run_follows c.args.high ws are.run given.1))

pub returns-clause-takes : goal.returns-clause-takes
returns-clause-takes g c =
    let state : BootParts _ _ → BootState = told g.G.WindowLog.state g.K.Keeper.state in
    let ws = c.requires.windows.0 in
    let are = c.requires.windows.1 in
    let given = c.in_ok-windows.ensures.windows ws are in
    logs_takes c.log_each.result c.args.n c.args.reply.now ws (state c.args.self.now) (state c.log_each.new.self)
    (rw (← c.requires.high) are) (rw (← c.requires.high) given.1) (rw (c.deref.ensures.value, given.0) at c.log_each.ensures.logs) c.log_each.ensures.high

pub returns-in_err-windows-clause-crash : goal.returns-in_err-windows-clause-crash
returns-in_err-windows-clause-crash g c =
    let log = c.args.self.now.log in
    let rests = subst (λ (b : BootParts _ _). IfSome (g.G.WindowLog.state b.log).windows (λ ws. g.G.WindowLog.passes ws (at_rest (g.G.WindowLog.state b.log)) b.log b.log)) c.self.view_is c.high-rests.ensures.crash in
    brings_none (λ ws b. g.G.WindowLog.passes ws b log log) (g.G.WindowLog.state log) c.args.n c.args.reply.now (λ ws vs b d w p. g.met.G.WindowLog.weakens ws vs b d log log w p) rests
