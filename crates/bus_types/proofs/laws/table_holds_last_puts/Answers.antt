use Rattle.bus_types.proofs.TableLaws.{table_holds}
use Rattle.bus_types.proofs.laws.table_holds_last_puts.Goals as goal

pub returns : goal.returns
returns c = table_holds
