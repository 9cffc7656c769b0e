use Rattle.std.proofs.Common.{◌∷◌, ◌++◌, codes}
use Rattle.std.specs.Prelude.{decimal}
use Rattle.hex.specs.Hex.{encode_lower}
use Rattle.bus_types.specs.Change.{key_text}
use Rattle.trace_script.proofs.WrittenTexts.{Appends-after}
use Rattle.trace_script.proofs.writing.append_change.Goals as goal

pub returns-in-None : goal.returns-in-None
returns-in-None c =
    let change = c.args.change.now in
    rw c.in-None.is (Appends-after c.append_delete.result (32 ∷ decimal change.source ++ codes "/" ++ key_text change.key) (codes "-") _ _ _ c.in_ok-append_row.ensures c.append_delete.ensures)

pub returns-in-Some : goal.returns-in-Some
returns-in-Some c =
    let change = c.args.change.now in
    rw c.in-Some.is (Appends-after c.append_payload.result (32 ∷ decimal change.source ++ codes "/" ++ key_text change.key) (codes "=" ++ encode_lower c.in-Some.payload) _ _ _ c.in_ok-append_row.ensures (rw c.bytes.ensures.value at c.append_payload.ensures))
