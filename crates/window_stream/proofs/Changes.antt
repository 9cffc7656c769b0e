-- The changes of events, as they are gathered.
use Rattle.std.proofs.Common.{◌≡◌, ℕ, List, [], ◌∷◌, ◌++◌, refl, sym, ap, ◌∙◌, append_assoc, append-nil}
use Rattle.bus_types.specs.declared.change.Change.{Change}
use Rattle.event_codec.specs.Bytes.{Event}
use Rattle.event_codec.specs.Parsing.{events_of}
use Rattle.window_stream.specs.Decode.{changes_in}

-- changes that are told as events are the changes of those
pub changes_again : (scn : ℕ) (changes : List Change) → changes_in (events_of scn changes) ≡ changes
changes_again scn [] = refl
changes_again scn (c ∷ cs) = ap (λ (x : List Change). c ∷ x) (changes_again scn cs)

pub none_decoded : (items : List Change) (left all : List Event) → items ≡ [] → left ≡ all → items ++ changes_in left ≡ changes_in all
none_decoded items left all none same = ap (λ (x : List Change). x ++ changes_in left) none ∙ ap changes_in same

-- one more
pub more_decoded : (items pushed : List Change) (change : Change) (event : Event) (before left all : List Event) → pushed ≡ items ++ change ∷ [] → change ≡ event.change → before ≡ event ∷ left
    → items ++ changes_in before ≡ changes_in all → pushed ++ changes_in left ≡ changes_in all
more_decoded items pushed change event before left all push same first so_far =
    ap (λ (x : List Change). x ++ changes_in left) (push ∙ ap (λ (x : Change). items ++ x ∷ []) same)
    ∙ append_assoc items (event.change ∷ []) (changes_in left)
    ∙ ap (λ (x : List Event). items ++ changes_in x) (sym first)
    ∙ so_far

pub all_decoded : (items : List Change) (left all : List Event) → left ≡ [] → items ++ changes_in left ≡ changes_in all → items ≡ changes_in all
all_decoded items left all none so_far = sym (append-nil items) ∙ ap (λ (x : List Event). items ++ changes_in x) (sym none) ∙ so_far
