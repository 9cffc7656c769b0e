use Rattle.std.proofs.Common.{◌≡◌, ◌++◌, codes, append_assoc}
use Rattle.trace_script.specs.Spelling.{when_text}
use Rattle.trace_script.proofs.WrittenTexts.{Appends-after}
use Rattle.trace_script.proofs.writing.append_stop.Goals as goal

pub returns : goal.returns
returns c =
    let stop = c.in_ok-extend_from_slice.ensures.items in
    let name = c.in_ok-extend_from_slice-2.ensures.items in
    let space = c.in_ok-extend_from_slice-3.ensures.items in
    let front : c.extend_from_slice-3.new.self.items ≡ c.args.out.now.items ++ (codes "stop " ++ c.args.name.now ++ codes " ") = rw (space, name, stop, c.bytes.ensures.value) (simp append_assoc) in
    Appends-after c.append_when.result (codes "stop " ++ c.args.name.now ++ codes " ") (when_text c.args.after) _ _ _ front c.append_when.ensures
