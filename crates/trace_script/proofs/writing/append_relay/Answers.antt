use Rattle.std.proofs.Common.{◌≡◌, ◌++◌, codes, append_assoc}
use Rattle.std.specs.Prelude.{decimal}
use Rattle.trace_script.proofs.WrittenTexts.{Appends-after}
use Rattle.trace_script.proofs.writing.append_relay.Goals as goal

pub returns : goal.returns
returns c =
    let relay = c.in_ok-extend_from_slice.ensures.items in
    let bytes = c.in_ok-append_number.ensures in
    let space = c.in_ok-extend_from_slice-2.ensures.items in
    let front : c.extend_from_slice-2.new.self.items ≡ c.args.out.now.items ++ (codes "relay " ++ decimal c.args.bytes ++ codes " ") = rw (space, bytes, relay) (simp append_assoc) in
    Appends-after c.append_number-2.result (codes "relay " ++ decimal c.args.bytes ++ codes " ") (decimal c.args.windows) _ _ _ front (rw c.from.ensures at c.append_number-2.ensures)
