use Rattle.std.proofs.Common.{refl}
use Rattle.generated_windows.specs.Generated.{next_state, generated_window}
use Rattle.generated_windows.proofs.generate.worked_windows.Goals as goal

pub returns : goal.returns
unfolding next_state generated_window
returns c = record { draws = refl; window = refl; bytes = refl }
