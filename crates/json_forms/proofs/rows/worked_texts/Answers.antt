use Rattle.std.proofs.Common.{refl}
use Rattle.std.specs.Fmt.{digits}
use Rattle.json_forms.proofs.rows.worked_texts.Goals as goal

pub returns : goal.returns
unfolding digits
returns c = record { object = refl; no_members = refl }
