use Rattle.std.proofs.Common.{◌∷◌, sym, ap, ◌∙◌}
use Rattle.std.proofs.lemmas.Slice.Eq.{bytes_eq-Decides}
use Rattle.trace_script.specs.Words.{words_of}
use Rattle.trace_script.proofs.WordCuts.{words_cut}
use Rattle.trace_script.proofs.reading.commit_words.Goals as goal

pub returns-then-eq-clause-some : goal.returns-then-eq-clause-some
returns-then-eq-clause-some c =
    let same = (bytes_eq-Decides c.in_ok-word.word.now c.as_slice.result.now).0 (sym c.if-eq.ensures) ∙ c.as_slice.ensures in
    words_cut c.args.text.now c.in_ok-word.word.now c.in_ok-word.words.now (sym c.in_ok-word.ensures) ∙ ap (λ word. word ∷ words_of c.in_ok-word.words.now) same
