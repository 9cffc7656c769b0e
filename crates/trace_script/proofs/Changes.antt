-- Changes read word by word.
use Rattle.std.proofs.Common.{◌≡◌, ℕ, List, [], ◌∷◌, ◌++◌, Option, Some, None, refl, sym, ap, ◌∙◌}
use Rattle.bus_types.specs.declared.change.Change.{Change}
use Rattle.bus_types.specs.Text.{◌>>=◌, cut_at}
use Rattle.bus_types.proofs.ListForms.{with_front, with_front-cons}
use Rattle.trace_script.specs.declared.fault.LineFault.{LineFault}
use Rattle.trace_script.specs.declared.fault.LineFault.TheVariants.{BadLine, NoMemory}
use Rattle.trace_script.specs.Reading.{Refuses}
use Rattle.trace_script.specs.Words.{words_of, change_of, changes_of}
use Rattle.trace_script.proofs.WordCuts.{words_cut, words_uncut}

-- a word more was read
pub with_front-more : (front pushed : List Change) (c : Change) (rest word behind : List ℕ) (total : Option (List Change))
    → cut_at 32 rest ≡ Some (word, behind) → change_of word ≡ Some c → pushed ≡ front ++ c ∷ []
    → with_front front (changes_of (words_of rest)) ≡ total → with_front pushed (changes_of (words_of behind)) ≡ total
unfolding changes_of
with_front-more front pushed c rest word behind total cut read push so_far =
    let one : with_front front (changes_of (words_of rest)) ≡ with_front front (changes_of (words_of behind) >>= λ changes. Some (c ∷ changes)) =
    ap (λ words. with_front front (changes_of words)) (words_cut rest word behind cut) ∙ rw read refl in
    rw push (with_front-cons front c (changes_of (words_of behind)) ∙ sym one ∙ so_far)

-- a word is no change
pub with_front-bad : (fault : LineFault) (front : List Change) (rest word behind : List ℕ) (total : Option (List Change))
    → cut_at 32 rest ≡ Some (word, behind) → Refuses fault (change_of word)
    → with_front front (changes_of (words_of rest)) ≡ total → Refuses fault total
unfolding changes_of
with_front-bad NoMemory front rest word behind total cut bad so_far = tt
with_front-bad BadLine front rest word behind total cut bad so_far =
    let one : with_front front (changes_of (words_of rest)) ≡ None = ap (λ words. with_front front (changes_of words)) (words_cut rest word behind cut) ∙ rw bad refl in
    sym so_far ∙ one

-- the last word was read
pub with_front-all : (front pushed : List Change) (c : Change) (rest : List ℕ) (total : Option (List Change)) → cut_at 32 rest ≡ None → change_of rest ≡ Some c → pushed ≡ front ++ c ∷ []
    → with_front front (changes_of (words_of rest)) ≡ total → total ≡ Some pushed
unfolding changes_of
with_front-all front pushed c rest total none read push so_far =
    sym so_far ∙ ap (λ words. with_front front (changes_of words)) (words_uncut rest none) ∙ rw (read, push) refl

-- the last word is no change
pub with_front-last : (fault : LineFault) (front : List Change) (rest : List ℕ) (total : Option (List Change)) → cut_at 32 rest ≡ None → Refuses fault (change_of rest)
    → with_front front (changes_of (words_of rest)) ≡ total → Refuses fault total
unfolding changes_of
with_front-last NoMemory front rest total none bad so_far = tt
with_front-last BadLine front rest total none bad so_far =
    sym so_far ∙ ap (λ words. with_front front (changes_of words)) (words_uncut rest none) ∙ rw bad refl
