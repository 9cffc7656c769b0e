-- Listed numbers and their text.
use Rattle.std.proofs.Common.{◌≡◌, ℕ, ◌+◌, ◌^◌, ◌<◌, Bool, ◌==◌, ◌||◌, ◌&&◌, nat_le, List, [], ◌∷◌, length, None, refl}
use Rattle.std.specs.List.{slice_split}
use Rattle.std.proofs.lemmas.Bool.{and_parts, and_from, leb-true, le-leb}
use Rattle.bus_types.specs.Text.{is_digit, number_of}
use Rattle.bus_types.specs.Form.{Form}
use Rattle.bus_types.specs.Lists.{each_of}
use Rattle.bus_types.proofs.Combinators.{where_form, same_form, below_form, read_form}
use Rattle.bus_types.proofs.ListForms.{list_form}
use Rattle.partition_filter.specs.Grammar.{numbers_of, listed_of}
use Rattle.partition_filter.specs.Rising.{rises}
use Rattle.partition_filter.specs.Spelling.{listed_text, most_numbers, IsListed}

-- numbers are read each alone
numbers_are : (max : ℕ) (texts : List (List ℕ)) → numbers_of max texts ≡ each_of (number_of max) texts
unfolding numbers_of each_of
numbers_are max [] = refl
numbers_are max (text ∷ texts) = rw (numbers_are max texts) refl

-- digits, and a comma between two
abbrev pub is_listed_byte : ℕ → Bool
is_listed_byte b = is_digit b || b == 44

-- few enough, and in rising order
abbrev are_few : List ℕ → Bool
are_few numbers = nat_le (length numbers) most_numbers && rises None numbers

pub listed_form : (max limit : ℕ) → limit ≡ max + 1 → max < 2 ^ 64 → Form (IsListed limit) listed_text (listed_of max) is_listed_byte
unfolding listed_of
listed_form max limit above fits =
    same_form
    (λ numbers h.
    let tests = and_parts (nat_le (length numbers) most_numbers) (rises None numbers) h.1 in
    record { some = h.0.0; count = leb-true (length numbers) most_numbers tests.0; rising = tests.1; below = h.0.1 })
    (λ numbers h. ((h.some, h.below), and_from (nat_le (length numbers) most_numbers) (rises None numbers) (le-leb (length numbers) most_numbers h.count) h.rising))
    (where_form are_few (read_form (λ text. numbers_are max (slice_split (λ b. b == 44) text)) (list_form 44 refl (below_form max limit above fits))))
