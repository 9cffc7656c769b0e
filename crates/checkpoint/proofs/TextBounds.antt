-- How long the text of a mark is, and with which byte it begins.
use Rattle.std.proofs.Common.{◌≡◌, ℕ, ◌+◌, ◌^◌, ◌<◌, ◌≤◌, codes, decimal, ◌++◌, length, length-append, refl, ap, ◌∙◌, arith}
use Rattle.std.proofs.lemmas.Fmt.{length-decimal-le, decimal_nonempty}
use Rattle.bus_types.specs.declared.change.Key.TheVariants.{Long}
use Rattle.bus_types.specs.declared.row.Cursor.{Cursor}
use Rattle.bus_types.specs.declared.row.Cursor.TheVariants.{Start, After}
use Rattle.bus_types.specs.Text.{IsCursor, cursor_text}
use Rattle.json_forms.proofs.ObjectTexts.{members_size, length-object}
use Rattle.checkpoint.specs.declared.mark.Mark.{Mark}
use Rattle.checkpoint.specs.declared.mark.Mark.TheVariants.{Online, Delta, Snapshot, Scanned, Catchup}
use Rattle.checkpoint.specs.Mark.{IsMark, mark_text, MayBeMark}
use Rattle.checkpoint.specs.Members.{mark_members}
use Rattle.checkpoint.proofs.ReadBack.{spelled}

number_short : (n : ℕ) → n < 2 ^ 63 → length (decimal n) ≤ 19
number_short n h = length-decimal-le 19 n (omega arith) (omega arith) (omega arith)

cursor_short : (cursor : Cursor) → IsCursor cursor → length (cursor_text cursor) ≤ 26
cursor_short Start h = omega arith
cursor_short (After source (Long key)) h =
    let first = length-decimal-le 5 source (omega arith) (omega (arith, h.0)) (omega (arith, h.0)) in
    let last = length-decimal-le 20 key (omega arith) (omega (arith, h.1)) h.1 in
    omega (arith, length-append (decimal source ++ codes "/") (decimal key), length-append (decimal source) (codes "/"), first, last)

size : (mark : Mark) → length (mark_text mark) ≡ 1 + members_size 0 (mark_members mark)
size mark = ap length (spelled mark) ∙ length-object (mark_members mark)

pub mark_may_be : (mark : Mark) → IsMark mark → MayBeMark (mark_text mark)
mark_may_be (Online scn) h =
    let is = size (Online scn) in
    record { least = omega (arith, is, decimal_nonempty scn (omega arith)); most = omega (arith, is, number_short scn (omega arith)); first = refl }
mark_may_be (Delta since target cursor) h =
    let is = size (Delta since target cursor) in
    record { least = omega (arith, is); most = omega (arith, is, cursor_short cursor h.2, number_short since (omega (arith, h.0, h.1)), number_short target (omega (arith, h.1))); first = refl }
mark_may_be (Snapshot since start top cursor) h =
    let is = size (Snapshot since start top cursor) in
    record { least = omega (arith, is); most = omega (arith, is, cursor_short cursor h.3, number_short since (omega (arith, h.1)), number_short start (omega (arith, h.0, h.2)), number_short top (omega (arith, h.2))); first = refl }
mark_may_be (Scanned since start top) h =
    let is = size (Scanned since start top) in
    record { least = omega (arith, is); most = omega (arith, is, number_short since (omega (arith, h.1)), number_short start (omega (arith, h.0, h.2)), number_short top (omega (arith, h.2))); first = refl }
mark_may_be (Catchup since start target at) h =
    let is = size (Catchup since start target at) in
    record {
      least = omega (arith, is);
      most = omega (arith, is, number_short at (omega (arith, h.1, h.3)), number_short since (omega (arith, h.2, h.3)), number_short start (omega (arith, h.0, h.1, h.3)), number_short target (omega (arith, h.3)));
      first = refl;
    }
