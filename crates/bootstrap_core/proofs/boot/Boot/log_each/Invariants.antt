use Rattle.std.proofs.Common.{◌≡◌, ◌≤◌, take}
use Rattle.bootstrap_core.specs.Boot.{told}
use Rattle.bootstrap_core.specs.Logging.{Logged}
use Rattle.bootstrap_core.proofs.CrashBounds.{Grows}
use Rattle.bootstrap_core.proofs.boot.Boot.log_each.Given as goal

abbrev pub invariant-loop-window : goal.invariant-loop-window
invariant-loop-window g l = record {
  logged : Logged (take l.window-index l.windows) (told g.G.WindowLog.state g.K.Keeper.state l.fn.self) (told g.G.WindowLog.state g.K.Keeper.state l.self);
  room : (g.G.WindowLog.state l.self.log).room ≡ (g.G.WindowLog.state l.fn.self.log).room;
  keeper : l.self.keeper ≡ l.fn.self.keeper;
  crash : Grows (λ ws b. g.G.WindowLog.passes ws b l.fn.self.log l.self.log) (g.G.WindowLog.state l.fn.self.log) l.windows;
  later : (g.G.WindowLog.state l.fn.self.log).faults ≤ (g.G.WindowLog.state l.self.log).faults;
}
