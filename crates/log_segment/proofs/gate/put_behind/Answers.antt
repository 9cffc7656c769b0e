use Rattle.log_segment.proofs.Gates.{behind_ok, behind_err}
use Rattle.log_segment.proofs.gate.put_behind.Goals as goal

pub returns-in-Ok : goal.returns-in-Ok
returns-in-Ok g c = behind_ok _ _ _ _ _ _ _ c.in-Ok.ensures c.open_gate.ensures

pub returns-in-Err : goal.returns-in-Err
returns-in-Err g c = behind_err _ _ _ _ _ c.in-Err.ensures
