use Rattle.std.proofs.Common.{[], ◌∷◌, subst}
use Rattle.bootstrap_core.specs.Boot.{told, BootParts, BootState}
use Rattle.bootstrap_core.specs.Logging.{Logged}
use Rattle.bootstrap_core.proofs.Appending.{appended_logs}
use Rattle.bootstrap_core.proofs.boot.Boot.log_window.Goals as goal

pub returns-in-Ok-clause-logs : goal.returns-in-Ok-clause-logs
returns-in-Ok-clause-logs g c =
    let state : BootParts _ _ → BootState = told g.G.WindowLog.state g.K.Keeper.state in
    let old : BootParts _ _ = record { log = c.self.inside.log; keeper = c.self.inside.keeper; mark = c.self.inside.mark; halted = c.self.inside.halted } in
    let new : BootParts _ _ = record old { log = c.append.new.self } in
    subst (λ (b : BootParts _ _). Logged (c.args.window.now ∷ []) (state b) (state new)) c.self.view_is (appended_logs c.args.window.now (state old) (g.G.WindowLog.state c.append.new.self) c.high-room.ensures.log c.in-Ok.ensures.append)
