use Rattle.std.proofs.Common.{◌≡◌, ◌<◌, true, false, Err, inl, inr, refl, sym, subst}
use Rattle.bootstrap_core.specs.Boot.{BootParts, BootState, told}
use Rattle.bootstrap_core.specs.Moving.{CommitsFirst}
use Rattle.bootstrap_core.specs.Trimming.{SetsBase}
use Rattle.bootstrap_core.proofs.SettingBases.{set_refused, set_broken, halted_log}
use Rattle.bootstrap_core.proofs.boot.Boot.set_base.Goals as goal

pub returns-in-Err-clause-sets : goal.returns-in-Err-clause-sets
returns-in-Err-clause-sets g c =
    let runs = subst (λ b. b.halted ≡ false) (sym c.self.view_is) c.requires.runs in
    let later = subst (λ b. b.mark.base < c.args.base) (sym c.self.view_is) c.requires.later in
    subst (λ b. SetsBase (Err c.halt_at.result) c.args.base (told g.G.WindowLog.state g.K.Keeper.state b) (told g.G.WindowLog.state g.K.Keeper.state c.halt_at.new.self)) c.self.view_is
    (set_refused g.G.WindowLog.state g.K.Keeper.state c.args.base _ c.halt_at.new.self c.set_mark.new.keeper c.in-Err.fault c.store_fault.result c.halt_at.result runs later c.in-Err.ensures c.store_fault.ensures c.halt_at.ensures.fault c.halt_at.ensures.halted)

pub returns-in-Err-clause-order : goal.returns-in-Err-clause-order
returns-in-Err-clause-order g c =
    let log = c.self.inside.log in
    let new = c.halt_at.new.self in
    subst (λ b. CommitsFirst g.G.WindowLog.passes g.G.WindowLog.state g.K.Keeper.state b new) c.self.view_is (record {
      read = log;
      rests = c.high-rests.ensures.crash;
      drops = inl (halted_log (λ now base. now ≡ log) c.store_fault.result _ new c.halt_at.ensures.halted refl);
    })

pub returns-in-Err-drop_windows-clause-sets : goal.returns-in-Err-drop_windows-clause-sets
returns-in-Err-drop_windows-clause-sets g c =
    let later = subst (λ b. b.mark.base < c.args.base) (sym c.self.view_is) c.requires.later in
    let new : BootState = record {
      log = g.G.WindowLog.state c.drop_windows.new.log;
      keeper = g.K.Keeper.state c.set_mark.new.keeper;
      mark = record { base = c.args.base; applied = c.self.inside.mark.applied };
      halted = true;
    } in
    subst (λ b. SetsBase (Err c.in-Err-drop_windows.fault) c.args.base (told g.G.WindowLog.state g.K.Keeper.state b) new) c.self.view_is
    (set_broken c.args.base _ new c.in-Err-drop_windows.fault refl (record { later = later; keeper = c.in-Ok.ensures.leaves; mark = refl }) c.in-Err-drop_windows.ensures.drops)

pub returns-in-Err-drop_windows-clause-order : goal.returns-in-Err-drop_windows-clause-order
returns-in-Err-drop_windows-clause-order g c =
    let later = subst (λ b. b.mark.base < c.args.base) (sym c.self.view_is) c.requires.later in
    let new : BootParts _ _ = record {
      log = c.drop_windows.new.log;
      keeper = c.set_mark.new.keeper;
      mark = record { base = c.args.base; applied = c.self.inside.mark.applied };
      halted = true;
    } in
    subst (λ b. CommitsFirst g.G.WindowLog.passes g.G.WindowLog.state g.K.Keeper.state b new) c.self.view_is (record {
      read = c.self.inside.log;
      rests = c.high-rests.ensures.crash;
      drops = inr (record { later = later; keeper = c.in-Ok.ensures.leaves; mark = refl }, c.drop_windows.ensures.crash);
    })

pub returns-in-Ok-drop_windows-clause-order : goal.returns-in-Ok-drop_windows-clause-order
returns-in-Ok-drop_windows-clause-order g c =
    let later = subst (λ b. b.mark.base < c.args.base) (sym c.self.view_is) c.requires.later in
    let new : BootParts _ _ = record {
      log = c.drop_windows.new.log;
      keeper = c.set_mark.new.keeper;
      mark = record { base = c.args.base; applied = c.self.inside.mark.applied };
      halted = c.self.inside.halted;
    } in
    subst (λ b. CommitsFirst g.G.WindowLog.passes g.G.WindowLog.state g.K.Keeper.state b new) c.self.view_is (record {
      read = c.self.inside.log;
      rests = c.high-rests.ensures.crash;
      drops = inr (record { later = later; keeper = c.in-Ok.ensures.leaves; mark = refl }, c.drop_windows.ensures.crash);
    })
