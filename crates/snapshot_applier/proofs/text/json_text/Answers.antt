use Rattle.std.proofs.lemmas.Result.{IfOk-weaker}
use Rattle.std.proofs.Common.{string_bytes}
use Rattle.serde_json.specs.View.{view}
use Rattle.snapshot_applier.proofs.BootTexts.{printed_boot}
use Rattle.snapshot_applier.proofs.text.json_text.Goals as goal

pub returns : goal.returns
returns c =
    IfOk-weaker c.to_string.result _ _ (λ text printed. printed_boot c.args.mark.now (view c.in_ok-value.value) (string_bytes text) c.requires c.in_ok-value.ensures printed) c.to_string.ensures.text
