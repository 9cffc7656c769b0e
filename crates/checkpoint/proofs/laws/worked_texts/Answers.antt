use Rattle.std.proofs.Common.{refl}
use Rattle.std.specs.Fmt.{digits}
use Rattle.checkpoint.proofs.laws.worked_texts.Goals as goal

pub returns-clause-online : goal.returns-clause-online
unfolding digits
returns-clause-online c = refl

pub returns-clause-delta : goal.returns-clause-delta
unfolding digits
returns-clause-delta c = refl

pub returns-clause-snapshot : goal.returns-clause-snapshot
unfolding digits
returns-clause-snapshot c = refl

pub returns-clause-scanned : goal.returns-clause-scanned
unfolding digits
returns-clause-scanned c = refl

pub returns-clause-catchup : goal.returns-clause-catchup
unfolding digits
returns-clause-catchup c = refl
