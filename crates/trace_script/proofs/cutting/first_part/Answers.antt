use Rattle.trace_script.proofs.CutLines.{first_some}
use Rattle.trace_script.proofs.cutting.first_part.Goals as goal

pub returns : goal.returns
returns c = record { some = first_some c.args.bytes.now _ _ c.in_ok-at.at c.in_ok-at.ensures c.split_at.ensures.front c.split_at.ensures.back; none = tt }
