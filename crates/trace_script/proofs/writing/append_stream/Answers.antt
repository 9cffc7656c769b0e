use Rattle.std.proofs.Common.{◌≡◌, ◌++◌, codes, append_assoc}
use Rattle.std.specs.Prelude.{decimal}
use Rattle.trace_script.proofs.WrittenTexts.{Appends-after}
use Rattle.trace_script.proofs.writing.append_stream.Goals as goal

pub returns : goal.returns
returns c =
    let stream = c.in_ok-extend_from_slice.ensures.items in
    let scn = c.in_ok-append_number.ensures in
    let space = c.in_ok-extend_from_slice-2.ensures.items in
    let filter = c.in_ok-extend_from_slice-3.ensures.items in
    let space_again = c.in_ok-extend_from_slice-4.ensures.items in
    let front : c.extend_from_slice-4.new.self.items ≡ c.args.out.now.items ++ (codes "stream " ++ decimal c.args.scn ++ codes " " ++ c.args.filter.now ++ codes " ") = rw (space_again, filter, space, scn, stream) (simp append_assoc) in
    Appends-after c.append_number-2.result (codes "stream " ++ decimal c.args.scn ++ codes " " ++ c.args.filter.now ++ codes " ") (decimal c.args.max) _ _ _ front (rw c.from.ensures at c.append_number-2.ensures)
