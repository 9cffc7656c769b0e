-- Numbers and rules read text by text.
use Rattle.std.proofs.Common.{◌≡◌, ℕ, ◌+◌, ◌<◌, ◌≤◌, ◌==◌, List, [], ◌∷◌, ◌++◌, length, get_or, drop, Option, Some, None, Result, Ok, Err, refl, sym, ◌∙◌, append_assoc, arith}
use Rattle.std.specs.List.{slice_split, join_with_byte}
use Rattle.std.proofs.lemmas.List.{drop_more, drop_all, append-nil, length-append}
use Rattle.std.proofs.lemmas.List.Splits.{join_with_byte-slice_split, length-slice_split}
use Rattle.bus_types.specs.Text.{◌>>=◌, number_of}
use Rattle.bus_types.proofs.ListForms.{with_front, with_front-cons}
use Rattle.partition_filter.specs.declared.fault.FilterFault.{FilterFault}
use Rattle.partition_filter.specs.declared.fault.FilterFault.TheVariants.{BadFilter, NoMemory}
use Rattle.partition_filter.specs.declared.rule.Rule.{Rule}
use Rattle.partition_filter.specs.Grammar.{numbers_of, next_rule, with_rule, rules_of}
use Rattle.partition_filter.specs.Reading.{Refuses, Finds}

-- ---- numbers

pub with_front-more : (max : ℕ) (front pushed : List ℕ) (n : ℕ) (texts : List (List ℕ)) (i : ℕ) (text : List ℕ) (total : Option (List ℕ))
    → i < length texts → get_or texts i [] ≡ text → number_of max text ≡ Some n → pushed ≡ front ++ n ∷ []
    → with_front front (numbers_of max (drop i texts)) ≡ total → with_front pushed (numbers_of max (drop (i + 1) texts)) ≡ total
unfolding numbers_of
with_front-more max front pushed n texts i text total lt at read push so_far =
    let one : with_front front (numbers_of max (drop i texts)) ≡ with_front front (numbers_of max (drop (i + 1) texts) >>= λ numbers. Some (n ∷ numbers)) =
    rw (drop_more texts i [] lt, at, read) refl in
    rw push (with_front-cons front n (numbers_of max (drop (i + 1) texts)) ∙ sym one ∙ so_far)

pub with_front-bad : (max : ℕ) (front : List ℕ) (texts : List (List ℕ)) (i : ℕ) (text : List ℕ) (total : Option (List ℕ))
    → i < length texts → get_or texts i [] ≡ text → number_of max text ≡ None
    → with_front front (numbers_of max (drop i texts)) ≡ total → None ≡ total
unfolding numbers_of
with_front-bad max front texts i text total lt at bad so_far =
    let one : with_front front (numbers_of max (drop i texts)) ≡ None = rw (drop_more texts i [] lt, at, bad) refl in
    sym one ∙ so_far

pub with_front-all : (max : ℕ) (front : List ℕ) (texts : List (List ℕ)) (i : ℕ) (total : Option (List ℕ)) → length texts ≤ i
    → with_front front (numbers_of max (drop i texts)) ≡ total → Some front ≡ total
unfolding numbers_of
with_front-all max front texts i total le so_far =
    let one : with_front front (numbers_of max (drop i texts)) ≡ Some front = rw (drop_all i texts le, append-nil) refl in
    sym one ∙ so_far

-- ---- rules

-- the rules that were read, before those that are still to read
abbrev pub after : List Rule → Result (List Rule) ℕ → Result (List Rule) ℕ
after front (Ok rules) = Ok (front ++ rules)
after front (Err place) = Err place

pub after-none : (read : Result (List Rule) ℕ) → after [] read ≡ read
after-none (Ok rules) = refl
after-none (Err place) = refl

after-cons : (front : List Rule) (rule : Rule) (read : Result (List Rule) ℕ) → after (front ++ rule ∷ []) read ≡ after front (with_rule rule read)
after-cons front rule (Ok rules) = rw append_assoc refl
after-cons front rule (Err place) = refl

pub after-more : (front pushed : List Rule) (rule : Rule) (texts : List (List ℕ)) (i place next count more source : ℕ) (before : Option ℕ) (text : List ℕ) (total : Result (List Rule) ℕ)
    → i < length texts → get_or texts i [] ≡ text → next_rule count before text ≡ Some rule
    → pushed ≡ front ++ rule ∷ [] → next ≡ place + length text + 1 → more ≡ count + 1 → source ≡ rule.source
    → after front (rules_of place count before (drop i texts)) ≡ total
    → after pushed (rules_of next more (Some source) (drop (i + 1) texts)) ≡ total
unfolding rules_of
after-more front pushed rule texts i place next count more source before text total lt at read push ahead counted named so_far =
    let one : after front (rules_of place count before (drop i texts)) ≡ after front (with_rule rule (rules_of (place + length text + 1) (count + 1) (Some rule.source) (drop (i + 1) texts))) =
    rw (drop_more texts i [] lt, at, read) refl in
    rw (push, ahead, counted, named) (after-cons front rule (rules_of (place + length text + 1) (count + 1) (Some rule.source) (drop (i + 1) texts)) ∙ sym one ∙ so_far)

pub after-bad : (fault : FilterFault) (front : List Rule) (texts : List (List ℕ)) (i place count : ℕ) (before : Option ℕ) (text : List ℕ) (total : Result (List Rule) ℕ)
    → i < length texts → get_or texts i [] ≡ text → Finds {X = Rule} place (Err fault) (next_rule count before text)
    → after front (rules_of place count before (drop i texts)) ≡ total → Refuses fault total
unfolding rules_of
after-bad NoMemory front texts i place count before text total lt at bad so_far = tt
after-bad (BadFilter p) front texts i place count before text total lt at bad so_far =
    let one : after front (rules_of place count before (drop i texts)) ≡ Err place = rw (drop_more texts i [] lt, at, bad.1) refl in
    rw bad.0 (sym so_far ∙ one)

pub after-all : (front : List Rule) (texts : List (List ℕ)) (i place count : ℕ) (before : Option ℕ) (total : Result (List Rule) ℕ) → length texts ≤ i
    → after front (rules_of place count before (drop i texts)) ≡ total → total ≡ Ok front
unfolding rules_of
after-all front texts i place count before total le so_far =
    let one : after front (rules_of place count before (drop i texts)) ≡ Ok front = rw (drop_all i texts le, append-nil) refl in
    sym so_far ∙ one

-- ---- places

-- the bytes of the texts, each with one byte behind it
abbrev pub room : List (List ℕ) → ℕ
room [] = 0
room (text ∷ texts) = length text + 1 + room texts

room-join : (byte : ℕ) (texts : List (List ℕ)) → 0 < length texts → length (join_with_byte byte texts) + 1 ≡ room texts
room-join byte [] some = absurd (omega arith)
room-join byte (text ∷ []) some = omega arith
room-join byte (text ∷ next ∷ texts) some =
    let joined = length-append text (byte ∷ join_with_byte byte (next ∷ texts)) in
    let behind = room-join byte (next ∷ texts) (omega arith) in
    omega (arith, joined, behind)

pub room-slice_split : (byte : ℕ) (bytes : List ℕ) → room (slice_split (λ b. b == byte) bytes) ≡ length bytes + 1
room-slice_split byte bytes =
    let count = length-slice_split (λ b. b == byte) bytes in
    let whole = room-join byte (slice_split (λ b. b == byte) bytes) (omega arith) in
    rw join_with_byte-slice_split at (sym whole)

-- the places that are still to come stay within the text
pub room-more : (texts : List (List ℕ)) (i place next : ℕ) (text : List ℕ) (end : ℕ) → i < length texts → get_or texts i [] ≡ text → next ≡ place + length text + 1
    → place + room (drop i texts) ≡ end → next + room (drop (i + 1) texts) ≡ end
room-more texts i place next text end lt at ahead so_far =
    let more : room (drop i texts) ≡ length text + 1 + room (drop (i + 1) texts) = rw (drop_more texts i [] lt, at) refl in
    omega arith
