use Rattle.std.proofs.lemmas.List.{length-map}
use Rattle.trace_script.proofs.WordCuts.{no_word}
use Rattle.trace_script.proofs.reading.words_line.Goals as goal

pub returns-then-words-lt2 : goal.returns-then-words-lt2
returns-then-words-lt2 c = no_word _ (rw length-map c.if-words-lt2.true)
