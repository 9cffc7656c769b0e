use Rattle.std.proofs.Common.{ℕ, ◌≤◌, IfSome, refl, ap, subst, ◌∙◌, arith}
use Rattle.bus_stores.specs.Log.{at_rest}
use Rattle.std.proofs.lemmas.Result.{err_from_is_err_and}
use Rattle.bootstrap_core.specs.Boot.{told, BootParts, BootState}
use Rattle.bootstrap_core.proofs.Appending.{logs_none, next_follows, logs_more, logs_broken, logs_all}
use Rattle.bootstrap_core.proofs.CrashBounds.{grows_none, grows_more}
use Rattle.bootstrap_core.proofs.boot.Boot.log_each.Goals as goal

pub loop-window-init : goal.loop-window-init
loop-window-init g c =
    let state : BootParts _ _ → BootState = told g.G.WindowLog.state g.K.Keeper.state in
    let log = c.args.self.now.log in
    let rests = subst (λ (b : BootParts _ _). IfSome (g.G.WindowLog.state b.log).windows (λ ws. g.G.WindowLog.passes ws (at_rest (g.G.WindowLog.state b.log)) b.log b.log)) c.self.view_is c.high-rests.ensures.crash in
    record {
      logged = logs_none (state c.args.self.now);
      room = refl;
      keeper = refl;
      crash = grows_none (λ ws b. g.G.WindowLog.passes ws b log log) (state c.args.self.now).log c.args.windows.now (λ ws vs b d w p. g.met.G.WindowLog.weakens ws vs b d log log w p) c.requires rests;
      later = omega arith;
    }

pub log_window-requires : goal.log_window-requires
log_window-requires g c =
    let state : BootParts _ _ → BootState = told g.G.WindowLog.state g.K.Keeper.state in
    next_follows c.args.windows.now c.loop-window.window-index c.window-item.result (state c.args.self.now) (state c.loop-window.self) (state c.loop-window.self)
    c.loop-window-test.true c.window-item.is c.requires c.loop-window.invariant.logged

pub loop-window-preserved : goal.loop-window-preserved
loop-window-preserved g c =
    let state : BootParts _ _ → BootState = told g.G.WindowLog.state g.K.Keeper.state in
    record {
      logged =
          logs_more c.args.windows.now c.loop-window.window-index c.window-item.result (state c.args.self.now) (state c.loop-window.self) (state c.log_window.new.self)
          c.loop-window-test.true c.window-item.is c.loop-window.invariant.logged c.in_ok-log_window.ensures.logs;
      room = c.log_window.ensures.room ∙ c.loop-window.invariant.room;
      keeper = c.log_window.ensures.keeper ∙ c.loop-window.invariant.keeper;
      crash = grows_more (λ ws b. g.G.WindowLog.passes ws b c.args.self.now.log c.loop-window.self.log) (λ ws b. g.G.WindowLog.passes ws b c.loop-window.self.log c.log_window.new.self.log) (λ ws b. g.G.WindowLog.passes ws b c.args.self.now.log c.log_window.new.self.log)
          (state c.args.self.now).log (state c.loop-window.self).log c.args.windows.now c.loop-window.window-index c.window-item.result
          (λ ws vs b d w p. g.met.G.WindowLog.weakens ws vs b d c.loop-window.self.log c.log_window.new.self.log w p) (λ ws b p q. g.met.G.WindowLog.passes_on ws b c.args.self.now.log c.loop-window.self.log c.log_window.new.self.log p q)
          c.requires c.loop-window-test.true c.window-item.is c.loop-window.invariant.logged.floor c.loop-window.invariant.logged.high c.loop-window.invariant.logged.windows c.loop-window.invariant.crash c.log_window.ensures.crash;
      later = omega (arith, c.loop-window.invariant.later, c.log_window.ensures.faults);
    }

pub returns-in_err-log_window : goal.returns-in_err-log_window
returns-in_err-log_window g c =
    let state : BootParts _ _ → BootState = told g.G.WindowLog.state g.K.Keeper.state in
    let p = err_from_is_err_and c.from_residual.result c.from_residual.ensures.1 in
    rw (p.1, p.2) (record {
      logs =
          logs_broken c.args.windows.now c.loop-window.window-index c.window-item.result (state c.args.self.now) (state c.loop-window.self) (state c.log_window.new.self)
          c.loop-window-test.true c.window-item.is ℕ c.in_err-log_window.field-0.0 c.loop-window.invariant.logged c.loop-window.invariant.later c.in_err-log_window.ensures.logs;
      high = tt;
      room = c.log_window.ensures.room ∙ c.loop-window.invariant.room;
      keeper = c.log_window.ensures.keeper ∙ c.loop-window.invariant.keeper;
      crash = grows_more (λ ws b. g.G.WindowLog.passes ws b c.args.self.now.log c.loop-window.self.log) (λ ws b. g.G.WindowLog.passes ws b c.loop-window.self.log c.log_window.new.self.log) (λ ws b. g.G.WindowLog.passes ws b c.args.self.now.log c.log_window.new.self.log)
          (state c.args.self.now).log (state c.loop-window.self).log c.args.windows.now c.loop-window.window-index c.window-item.result
          (λ ws vs b d w p. g.met.G.WindowLog.weakens ws vs b d c.loop-window.self.log c.log_window.new.self.log w p) (λ ws b p q. g.met.G.WindowLog.passes_on ws b c.args.self.now.log c.loop-window.self.log c.log_window.new.self.log p q)
          c.requires c.loop-window-test.true c.window-item.is c.loop-window.invariant.logged.floor c.loop-window.invariant.logged.high c.loop-window.invariant.logged.windows c.loop-window.invariant.crash c.log_window.ensures.crash;
      faults = omega (arith, c.loop-window.invariant.later, c.log_window.ensures.faults);
    })

pub returns : goal.returns
returns g c =
    let state : BootParts _ _ → BootState = told g.G.WindowLog.state g.K.Keeper.state in
    record {
      logs = logs_all c.args.windows.now c.loop-window.window-index (state c.args.self.now) (state c.loop-window.self) (omega arith) c.loop-window.invariant.logged;
      high = c.high.ensures.value ∙ ap (λ (b : BootParts _ _). (g.G.WindowLog.state b.log).high) c.self-2.view_is;
      room = c.loop-window.invariant.room;
      keeper = c.loop-window.invariant.keeper;
      crash = c.loop-window.invariant.crash;
      faults = c.loop-window.invariant.later;
    }
