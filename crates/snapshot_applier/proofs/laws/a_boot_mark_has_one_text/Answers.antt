use Rattle.std.proofs.Common.{refl}
use Rattle.std.specs.Fmt.{digits}
use Rattle.snapshot_applier.proofs.BootTexts.{one_boot}
use Rattle.snapshot_applier.proofs.laws.a_boot_mark_has_one_text.Goals as goal

pub returns-clause-one : goal.returns-clause-one
returns-clause-one c m n lawful_m lawful_n same = one_boot m n lawful_m lawful_n same

pub returns-clause-worked : goal.returns-clause-worked
unfolding digits
returns-clause-worked c = refl
