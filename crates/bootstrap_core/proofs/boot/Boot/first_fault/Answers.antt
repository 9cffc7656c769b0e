use Rattle.std.proofs.Common.{◌≡◌, ◌+◌, true, refl, sym, subst, ◌∙◌, arith}
use Rattle.bootstrap_core.specs.Boot.{told, BootParts, BootState}
use Rattle.bootstrap_core.specs.Logging.{AreWindowsBehind}
use Rattle.bootstrap_core.proofs.Appending.{takes_full}
use Rattle.bootstrap_core.proofs.boot.Boot.first_fault.Goals as goal

pub returns-then-is_full-clause-fault : goal.returns-then-is_full-clause-fault
returns-then-is_full-clause-fault g c =
    let state : BootParts _ _ → BootState = told g.G.WindowLog.state g.K.Keeper.state in
    let place = c.first_mark-place.result.0 in
    let prev = c.first_mark-place.result.1 in
    let ws = c.requires.windows.0 in
    let are = subst (λ high. AreWindowsBehind high c.args.reply.now ws) c.requires.high c.requires.windows.1 in
    let chained : prev ≡ c.args.high = cc c.if-prev-high.false in
    let full = subst (λ (b : BootParts _ _). (state b).log.full (place + 17) ≡ true) c.self.view_is (sym c.is_full.ensures ∙ c.if-is_full.true) in
    takes_full c.args.n place prev _ c.args.reply.now ws (state c.args.self.now) (omega (arith, c.if-n-eq0.false)) are (c.first_mark-place.ensures.mark c.args.high ws c.requires.windows.1) (chained ∙ c.requires.high) refl full
