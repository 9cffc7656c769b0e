use Rattle.std.proofs.Common.{sym, subst}
use Rattle.snapshot_applier.specs.declared.boot.BootMark.{BootMark}
use Rattle.bootstrap_core.specs.Boot.{StandsForBoot, Stands, told}
use Rattle.bootstrap_core.specs.Moving.{TellsWindows}
use Rattle.bootstrap_core.proofs.StandingMoves.{applied_stands, refused_stands}
use Rattle.bootstrap_core.proofs.BetweenEnds.{applied_between, halted_parts}
use Rattle.bootstrap_core.proofs.boot.Boot.apply.Goals as goal

pub invariant_of-self : goal.invariant_of-self
invariant_of-self g c =
    let log = g.G.WindowLog.state c.self.inside.log in
    let i = applied_between log (g.G.WindowLog.state c.apply.new.log) c.self.inside.mark c.in-Ok.mark c.args.n (g.K.Keeper.state c.self.inside.keeper) (g.K.Keeper.state c.apply.new.keeper) c.high-within.ensures.log c.apply.ensures.log (c.self.invariant.1 c.if-self.false) c.in-Ok.ensures.applies in
    (i.0, λ runs. i.1)

pub returns-in-Ok-clause-stands : goal.returns-in-Ok-clause-stands
returns-in-Ok-clause-stands g c ws t s tells runs =
    let stood = subst (λ b. Stands ws (told g.G.WindowLog.state g.K.Keeper.state b)) (sym c.self.view_is) s in
    let tells' = subst (λ b. TellsWindows (told g.G.WindowLog.state g.K.Keeper.state b).log) (sym c.self.view_is) tells in
    applied_stands ws (g.G.WindowLog.state c.self.inside.log) (g.G.WindowLog.state c.apply.new.log) (g.K.Keeper.state c.self.inside.keeper) (g.K.Keeper.state c.apply.new.keeper) c.self.inside.mark c.in-Ok.mark c.args.n t c.high-within.ensures.log tells' c.apply.ensures.log c.in-Ok.ensures.applies stood

pub returns-in-Ok-clause-reopens : goal.returns-in-Ok-clause-reopens
returns-in-Ok-clause-reopens g c ws t s tells runs = (c.in-Ok.mark, returns-in-Ok-clause-stands g c ws t s tells c.if-self.false)

pub returns-in-Err-clause-reopens : goal.returns-in-Err-clause-reopens
returns-in-Err-clause-reopens g c ws t s tells runs =
    let stood = subst (λ b. Stands ws (told g.G.WindowLog.state g.K.Keeper.state b)) (sym c.self.view_is) s in
    let tells' = subst (λ b. TellsWindows (told g.G.WindowLog.state g.K.Keeper.state b).log) (sym c.self.view_is) tells in
    let reopens = refused_stands ws (g.G.WindowLog.state c.self.inside.log) (g.G.WindowLog.state c.apply.new.log) (g.K.Keeper.state c.self.inside.keeper) (g.K.Keeper.state c.apply.new.keeper) c.self.inside.mark c.args.n c.in-Err.fault t c.high-within.ensures.log tells' c.apply.ensures.log c.in-Err.ensures.applies stood in
    halted_parts (λ log keeper. (mark : BootMark) × StandsForBoot ws (g.G.WindowLog.state log) (g.K.Keeper.state keeper) mark) c.in-Err.fault _ c.halt_at.new.self c.halt_at.ensures.halted reopens
