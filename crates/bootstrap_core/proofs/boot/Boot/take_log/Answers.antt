use Rattle.std.proofs.Common.{◌≡◌, ap, ◌∙◌}
use Rattle.bootstrap_core.specs.Boot.{told, BootParts, BootState}
use Rattle.bootstrap_core.proofs.Appending.{answer_takes}
use Rattle.bootstrap_core.proofs.LogStands.{stands_taken}
use Rattle.bootstrap_core.proofs.boot.Boot.take_log.Goals as goal

pub returns-in-Windows-clause-stands : goal.returns-in-Windows-clause-stands
returns-in-Windows-clause-stands g c ws t stands reply runs =
    let state : BootParts _ _ → BootState = told g.G.WindowLog.state g.K.Keeper.state in
    stands_taken ws t (state c.args.self.now) (state c.log_windows.new.self) stands c.args.reply.now reply c.log_windows.result c.args.n c.log_windows.ensures.takes runs

pub returns-in-Only-clause-takes : goal.returns-in-Only-clause-takes
returns-in-Only-clause-takes g c =
    let state : BootParts _ _ → BootState = told g.G.WindowLog.state g.K.Keeper.state in
    let high : c.high-high.result ≡ (state c.args.self.now).log.high = c.high-high.ensures.value ∙ ap (λ (b : BootParts _ _). (state b).log.high) c.self.view_is in
    answer_takes c.answered.result c.args.n c.args.reply.now (state c.args.self.now) c.in-Only.answer
    (rw (c.in-Only.is, high) at c.in_ok-shape_of.ensures.lawful) (rw high at c.answered.ensures)
