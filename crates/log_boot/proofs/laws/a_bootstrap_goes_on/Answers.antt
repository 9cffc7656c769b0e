use Rattle.log_boot.proofs.GoingOn.{take_goes_on, apply_goes_on, trim_goes_on, answer_goes_on}
use Rattle.log_boot.proofs.laws.a_bootstrap_goes_on.Goals as goal

pub returns : goal.returns
returns g c = record {
  take_log = λ ws content d n reply result old new r takes stands runs tells. take_goes_on g.D.Disk.state g.K.Keeper.state ws content old r new d stands runs tells result n reply takes;
  apply = λ ws content d n result old new r applies stands runs tells. apply_goes_on g.D.Disk.state g.K.Keeper.state ws content old r new d stands runs tells result n applies;
  trim = λ ws content d scn result old new r trims stands runs tells. trim_goes_on g.D.Disk.state g.K.Keeper.state ws content old r new d stands runs tells result scn trims;
  answer = λ ws content d old new r same mark stands runs tells. answer_goes_on g.D.Disk.state g.K.Keeper.state ws content old r new d stands runs tells same mark;
}
