use Rattle.std.proofs.lemmas.Result.{IfOk-weaker}
use Rattle.std.proofs.Common.{string_bytes}
use Rattle.serde_json.specs.View.{view}
use Rattle.checkpoint.proofs.ReadBack.{printed_mark}
use Rattle.checkpoint.proofs.writing.object_text.Goals as goal

pub returns : goal.returns
returns c =
    IfOk-weaker c.to_string.result _ _ (λ text printed. printed_mark c.args.mark (view c.in_ok-value.value) (string_bytes text) c.requires c.in_ok-value.ensures printed) c.to_string.ensures.text
