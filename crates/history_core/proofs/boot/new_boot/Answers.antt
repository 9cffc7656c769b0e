use Rattle.std.proofs.Common.{[]}
use Rattle.std.proofs.lemmas.Result.{IfOk-weaker}
use Rattle.history_core.specs.Booting.{AreParts}
use Rattle.history_core.proofs.BootMoves.{new_parts, new_booted}
use Rattle.history_core.proofs.boot.new_boot.Goals as goal

pub open-requires : goal.open-requires
open-requires c = ([], new_parts, record { booted = new_booted; of_log = c.in_ok-log.ensures; of_keeper = c.in_ok-keeper.ensures.ok })

pub returns : goal.returns
returns c =
    let are : AreParts [] new_parts c.in_ok-log.log c.in_ok-keeper.keeper = record { booted = new_booted; of_log = c.in_ok-log.ensures; of_keeper = c.in_ok-keeper.ensures.ok } in
    record {
      booted = IfOk-weaker c.open.result _ _ (λ boot opened. (opened [] new_parts are).booted) c.open.ensures;
      numbers = IfOk-weaker c.open.result _ _ (λ boot opened. (opened [] new_parts are).is) c.open.ensures;
    }
