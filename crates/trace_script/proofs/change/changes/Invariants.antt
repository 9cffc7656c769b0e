use Rattle.std.proofs.Common.{◌≡◌, length}
use Rattle.trace_script.specs.Words.{words_of, changes_of}
use Rattle.bus_types.proofs.ListForms.{with_front}
use Rattle.trace_script.proofs.change.changes.Given as goal

abbrev pub invariant-words : goal.invariant-words
invariant-words l = with_front l.changes.items (changes_of (words_of l.rest)) ≡ changes_of (words_of l.words)

abbrev pub decreases-words : goal.decreases-words
decreases-words l = length l.rest
