use Rattle.std.proofs.Common.{false, ap}
use Rattle.source_db.specs.Queue.{Commits}
use Rattle.history_core.specs.Bus.{Parts}
use Rattle.history_core.proofs.Sound.{sound_new}
use Rattle.history_core.proofs.bus.Bus.new.Goals as goal

pub returns-clause-sound : goal.returns-clause-sound
returns-clause-sound g c =
    let b : Parts = record { begun = false; source = c.new.result.windows; relay = g.B.Buffer.relay c.in_ok-new.field-0; boot = c.in_ok-new_boot.field-0; members = c.new-4.result.items } in
    sound_new b c.args.bytes c.args.windows (ap (λ (q : Commits). q.windows) c.new.ensures) c.in_ok-new.ensures c.in_ok-new_boot.ensures.booted c.new-4.ensures.items
