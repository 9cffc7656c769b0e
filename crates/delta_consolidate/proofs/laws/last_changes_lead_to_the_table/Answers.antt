use Rattle.delta_consolidate.proofs.Last.{are_last, lead_to}
use Rattle.delta_consolidate.proofs.laws.last_changes_lead_to_the_table.Goals as goal

pub returns-clause-last : goal.returns-clause-last
returns-clause-last c = are_last

pub returns-clause-lead : goal.returns-clause-lead
returns-clause-lead c = lead_to
