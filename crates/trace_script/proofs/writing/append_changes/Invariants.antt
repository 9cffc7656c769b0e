use Rattle.std.proofs.Common.{◌≡◌, ◌++◌, take}
use Rattle.trace_script.proofs.WrittenTexts.{spaced}
use Rattle.trace_script.proofs.writing.append_changes.Given as goal

abbrev pub invariant-loop-change : goal.invariant-loop-change
invariant-loop-change l = l.out.items ≡ l.fn.out.items ++ spaced (take l.change-index l.changes)
