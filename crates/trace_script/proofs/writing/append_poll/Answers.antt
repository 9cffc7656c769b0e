use Rattle.std.proofs.Common.{◌≡◌, ◌++◌, codes, append_assoc}
use Rattle.std.specs.Prelude.{decimal}
use Rattle.trace_script.proofs.WrittenTexts.{Appends-after}
use Rattle.trace_script.proofs.writing.append_poll.Goals as goal

pub returns : goal.returns
returns c =
    let poll = c.in_ok-extend_from_slice.ensures.items in
    let name = c.in_ok-extend_from_slice-2.ensures.items in
    let space = c.in_ok-extend_from_slice-3.ensures.items in
    let front : c.extend_from_slice-3.new.self.items ≡ c.args.out.now.items ++ (codes "poll " ++ c.args.name.now ++ codes " ") = rw (space, name, poll, c.bytes.ensures.value) (simp append_assoc) in
    Appends-after c.append_number.result (codes "poll " ++ c.args.name.now ++ codes " ") (decimal c.args.max) _ _ _ front (rw c.from.ensures at c.append_number.ensures)
