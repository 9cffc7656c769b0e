use Rattle.std.proofs.Common.{◌≡◌, false, Ok, IfSome, rules, subst}
use Rattle.bus_stores.specs.Log.{at_rest}
use Rattle.bootstrap_core.specs.Boot.{BootParts, BootState, told}
use Rattle.bootstrap_core.specs.Moving.{CommitsFirst}
use Rattle.bootstrap_core.specs.Trimming.{ReadsNewest}
use Rattle.bootstrap_core.proofs.CommitOrder.{only_read, read_before, drops_at_last}
use Rattle.bootstrap_core.proofs.SettingBases.{halted_log}
use Rattle.bootstrap_core.proofs.TrimSteps.{TrimMeets, trim_meets}
use Rattle.bootstrap_core.proofs.boot.Boot.trim.Goals as goal

pub returns-in-Ok : goal.returns-in-Ok
returns-in-Ok g c =
    let old : BootState = record {
      log = g.G.WindowLog.state c.self.inside.log;
      keeper = g.K.Keeper.state c.self.inside.keeper;
      mark = c.self.inside.mark;
      halted = c.self.inside.halted;
    } in
    let read = g.G.WindowLog.state c.newest.new.log in
    let after = c.set_base.new.self in
    let new = told g.G.WindowLog.state g.K.Keeper.state c.set_base.new.self in
    let reads = subst (λ upto. ReadsNewest old.mark.base upto old.log read (Ok c.in-Ok.base)) c.min-upto.ensures c.in-Ok.ensures.reads in
    let met = subst (λ b. TrimMeets c.args.scn c.set_base.result (told g.G.WindowLog.state g.K.Keeper.state b) new) c.self.view_is
    (trim_meets c.args.scn c.in-Ok.base c.set_base.result old read new (record {
      log = c.newest.ensures.log;
      runs = c.if-self.false;
      reads = reads;
      sets = c.set_base.ensures.sets;
      after = c.set_base.ensures.log;
    })) in
    let order = subst (λ b. CommitsFirst g.G.WindowLog.passes g.G.WindowLog.state g.K.Keeper.state b after) c.self.view_is
    (read_before g.G.WindowLog.passes g.G.WindowLog.state g.K.Keeper.state _ c.newest.new.log after (λ ws b x y z p q. g.met.G.WindowLog.passes_on ws b x y z p q) reads.same c.newest.ensures.crash c.set_base.ensures.order) in
    record {
      halted = search rules;
      trims = met.trims;
      log_faults = search rules;
      faults = search rules;
      sound = λ e. subst (λ b. IfSome (g.G.WindowLog.state b.log).room (λ room. room.sound ≡ false)) c.self.view_is (subst (λ room. IfSome room (λ r. r.sound ≡ false)) reads.counts.room (c.set_base.ensures.sound e));
      calls = search rules;
      room = search rules;
      crash = λ runs. drops_at_last g.G.WindowLog.passes g.G.WindowLog.state g.K.Keeper.state c.args.self.now after (λ ws b d x y w p. g.met.G.WindowLog.weakens ws ws b d x y w p) (λ ws b x y z p q. g.met.G.WindowLog.passes_on ws b x y z p q) order;
      order = λ runs. order;
      floor = met.floor;
      stands = met.stands;
      reopens = met.reopens;
    }

pub returns-in-Ok-2-clause-order : goal.returns-in-Ok-2-clause-order
returns-in-Ok-2-clause-order g c runs =
    let new : BootParts _ _ = record {
      log = c.newest.new.log;
      keeper = c.self.inside.keeper;
      mark = c.self.inside.mark;
      halted = c.self.inside.halted;
    } in
    subst (λ b. CommitsFirst g.G.WindowLog.passes g.G.WindowLog.state g.K.Keeper.state b new) c.self.view_is
    (only_read g.G.WindowLog.passes g.G.WindowLog.state g.K.Keeper.state _ new c.newest.ensures.crash)

pub returns-in-Ok-2-clause-crash : goal.returns-in-Ok-2-clause-crash
returns-in-Ok-2-clause-crash g c runs =
    drops_at_last g.G.WindowLog.passes g.G.WindowLog.state g.K.Keeper.state c.args.self.now _ (λ ws b d x y w p. g.met.G.WindowLog.weakens ws ws b d x y w p) (λ ws b x y z p q. g.met.G.WindowLog.passes_on ws b x y z p q) (returns-in-Ok-2-clause-order g c runs)

pub returns-in-Err-clause-order : goal.returns-in-Err-clause-order
returns-in-Err-clause-order g c runs =
    let log = c.self.inside.log in
    let new = c.halt_at.new.self in
    subst (λ b. CommitsFirst g.G.WindowLog.passes g.G.WindowLog.state g.K.Keeper.state b new) c.self.view_is
    (only_read g.G.WindowLog.passes g.G.WindowLog.state g.K.Keeper.state _ new
    (halted_log (λ now base. IfSome (g.G.WindowLog.state log).windows (λ ws. g.G.WindowLog.passes ws (at_rest (g.G.WindowLog.state log)) log now)) c.boot_fault.result _ new c.halt_at.ensures.halted c.newest.ensures.crash))

pub returns-in-Err-clause-crash : goal.returns-in-Err-clause-crash
returns-in-Err-clause-crash g c runs =
    drops_at_last g.G.WindowLog.passes g.G.WindowLog.state g.K.Keeper.state c.args.self.now c.halt_at.new.self (λ ws b d x y w p. g.met.G.WindowLog.weakens ws ws b d x y w p) (λ ws b x y z p q. g.met.G.WindowLog.passes_on ws b x y z p q) (returns-in-Err-clause-order g c runs)
