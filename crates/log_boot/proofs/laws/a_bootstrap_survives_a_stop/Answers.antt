use Rattle.log_boot.proofs.Surviving.{take_survives, apply_survives, answer_survives, trim_survives}
use Rattle.log_boot.proofs.Keeping.{apply_keeps, trim_keeps}
use Rattle.bootstrap_core.specs.Boot.{told}
use Rattle.log_store.specs.Store.{log_of}
use Rattle.log_boot.proofs.laws.a_bootstrap_survives_a_stop.Goals as goal

pub returns : goal.returns
returns g c = record {
  take_log = λ ws content n reply old new r true grows. take_survives g.D.Disk.state g.K.Keeper.state ws content old r n reply true new.log grows;
  apply = λ ws content n old new r rests. apply_survives g.D.Disk.state g.K.Keeper.state ws content old r n new.log rests;
  answer = λ ws content old new r rests. answer_survives g.D.Disk.state g.K.Keeper.state ws content old r new.log rests;
  trim = λ ws content scn result old new r trims order. trim_survives g.D.Disk.state g.K.Keeper.state ws content old r scn result new trims order;
  applied = λ ws content n result old new r applies. apply_keeps g.D.Disk.state g.K.Keeper.state ws content old r n (told (log_of g.D.Disk.state) g.K.Keeper.state new) result applies;
  trimmed = λ ws content scn result old new r trims. trim_keeps g.D.Disk.state g.K.Keeper.state ws content old r scn (told (log_of g.D.Disk.state) g.K.Keeper.state new) result trims;
}
