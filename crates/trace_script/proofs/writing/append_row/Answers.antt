use Rattle.std.proofs.Common.{◌≡◌, ◌∷◌, ◌++◌, codes, append_assoc}
use Rattle.std.specs.Prelude.{decimal}
use Rattle.bus_types.specs.Change.{key_text}
use Rattle.trace_script.proofs.WrittenTexts.{Appends-after}
use Rattle.trace_script.proofs.writing.append_row.Goals as goal

pub returns : goal.returns
returns c =
    let space = c.in_ok-extend_from_slice.ensures.items in
    let source = rw c.from.ensures at c.in_ok-append_number.ensures in
    let slash = c.in_ok-extend_from_slice-2.ensures.items in
    let front : c.extend_from_slice-2.new.self.items ≡ c.args.out.now.items ++ (32 ∷ decimal c.args.source ++ codes "/") = rw (slash, source, space) (simp append_assoc) in
    Appends-after c.append_key.result (32 ∷ decimal c.args.source ++ codes "/") (key_text c.args.key.now) _ _ _ front c.append_key.ensures
