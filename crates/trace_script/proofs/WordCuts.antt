-- Words that are cut off a text one by one.
use Rattle.std.proofs.Common.{◌≡◌, ℕ, ◌<◌, ◌≤◌, Bool, true, false, if◌then◌else◌, ◌==◌, List, [], ◌∷◌, length, codes, bytes_eq, Option, Some, None, refl, sym, ap, subst, ◌∙◌, arith}
use Rattle.std.specs.List.{list_any}
use Rattle.bus_types.specs.Text.{cut_at, number_of, max_u64}
use Rattle.bus_types.proofs.ListForms.{split_cut, split_uncut}
use Rattle.trace_script.specs.Words.{IsNoCommit, words_of, changes_of}
use Rattle.trace_script.specs.Lines.{is_blank, commit_by, relay_of, consumer_of, commit_of, gen_of, feed_of, poll_of, show_of, sum_of, crash_of, stop_of, stream_of, log_of, apply_of, trim_of, restart_of, words_line, line_of}
use Rattle.trace_script.specs.declared.line.Line.{Line}
use Rattle.trace_script.proofs.LineTexts.{line_of_some}

-- the first word, and those behind it
pub words_cut : (text word rest : List ℕ) → cut_at 32 text ≡ Some (word, rest) → words_of text ≡ word ∷ words_of rest
words_cut text word rest cut = split_cut 32 text (word, rest) cut

-- a text with one word
pub words_uncut : (text : List ℕ) → cut_at 32 text ≡ None → words_of text ≡ text ∷ []
words_uncut text none = split_uncut 32 text none

-- a line of commits is read behind its first word
pub line_of_commit : (text rest : List ℕ) → is_blank text ≡ false → list_any (λ b. b == 13) text ≡ false → words_of text ≡ codes "commit" ∷ words_of rest → line_of text ≡ commit_of (words_of rest)
unfolding words_line
line_of_commit text rest full none is = line_of_some text full none ∙ ap words_line is

-- a text has a word
some_word : (text : List ℕ) → (word : List ℕ) × (words : List (List ℕ)) × (words_of text ≡ word ∷ words)
some_word text = by_cut (cut_at 32 text) refl where
  by_cut : (cut : Option (List ℕ × List ℕ)) → cut_at 32 text ≡ cut → (word : List ℕ) × (words : List (List ℕ)) × (words_of text ≡ word ∷ words)
  by_cut None is = (text, [], words_uncut text is)
  by_cut (Some parts) is = (parts.0, words_of parts.1, words_cut text parts.0 parts.1 is)

-- a commit is read by its SCN and what stands behind it
pub commit_read : (text scn rest : List ℕ) → cut_at 32 text ≡ Some (scn, rest) → commit_of (words_of text) ≡ commit_by (number_of max_u64 scn) (changes_of (words_of rest))
unfolding commit_of
commit_read text scn rest cut =
    let next = some_word rest in
    ap commit_of (words_cut text scn rest cut ∙ ap (λ words. scn ∷ words) next.2) ∙ ap (λ words. commit_by (number_of max_u64 scn) (changes_of words)) (sym next.2)

pub commit_unread : (text : List ℕ) → cut_at 32 text ≡ None → commit_of (words_of text) ≡ None
unfolding commit_of
commit_unread text none = ap commit_of (words_uncut text none)

-- ---- no line is one word

neither : (test : Bool) (line : Option Line) → line ≡ None → (if test then None else line) ≡ None
neither true line h = refl
neither false line h = h

pub no_word : (words : List (List ℕ)) → length words < 2 → words_line words ≡ None
unfolding words_line commit_of consumer_of stream_of gen_of feed_of poll_of show_of sum_of crash_of stop_of log_of apply_of trim_of restart_of relay_of
no_word [] short = refl
no_word (word ∷ []) short =
    neither (bytes_eq word (codes "commit")) _ (neither (bytes_eq word (codes "consumer")) _ (neither (bytes_eq word (codes "stream")) _ (neither (bytes_eq word (codes "feed")) _
    (neither (bytes_eq word (codes "gen")) _ (neither (bytes_eq word (codes "poll")) _ (neither (bytes_eq word (codes "show")) _ (neither (bytes_eq word (codes "sum")) _ (neither (bytes_eq word (codes "crash")) _ (neither (bytes_eq word (codes "stop")) _
    (neither (bytes_eq word (codes "log")) _ (neither (bytes_eq word (codes "apply")) _ (neither (bytes_eq word (codes "trim")) _ (neither (bytes_eq word (codes "restart")) _
    (neither (bytes_eq word (codes "relay")) None refl))))))))))))))
no_word (word ∷ next ∷ words) short = absurd (omega (arith, short))

-- several words that are no commit
pub other_name : (words : List (List ℕ)) (word : List ℕ) (rest : List (List ℕ)) → words ≡ word ∷ rest → IsNoCommit words → 2 ≤ length words → bytes_eq word (codes "commit") ≡ false
other_name words word [] is h long = let none : ⊥ = omega (arith, long, ap length is) in absurd none
other_name words word (next ∷ rest) is h long = subst IsNoCommit is h
