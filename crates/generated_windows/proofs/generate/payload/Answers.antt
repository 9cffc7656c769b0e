use Rattle.std.proofs.Common.{◌∙◌, take, ap}
use Rattle.generated_windows.proofs.Generating.{bytes_front}
use Rattle.generated_windows.proofs.generate.payload.Goals as goal

pub returns-in-Ok : goal.returns-in-Ok
returns-in-Ok c = c.in-Ok.ensures.ok ∙ ap (take c.args.count) c.rising-bytes.ensures ∙ bytes_front c.args.first c.args.count 64 c.requires.count
