-- Texts that are no filters, as it is seen without reading one.
use Rattle.std.specs.Prelude.{ℕ, ◌+◌, if◌then◌else◌, ◌&&◌, nat_lt, nat_le, List, length, Option, Some, None, Result, Ok, Err}
use Rattle.bus_types.specs.Text.{◌>>=◌, number_of}
use Rattle.partition_filter.specs.Rising.{is_above, rises}
use Rattle.partition_filter.specs.Spelling.{most_numbers}
use Rattle.partition_filter.specs.Grammar.{numbers_of}

-- the place of a fault, where there is one
abbrev pub fault_of : {A : Type 0} → Result A ℕ → Option ℕ
fault_of (Ok read) = None
fault_of (Err place) = Some place

-- the number of a text behind so many numbers, of which the last is the one before
unfoldable pub next_number : ℕ → ℕ → Option ℕ → List ℕ → Option ℕ
next_number max count before text = do
  number ← number_of max text
  if nat_lt count most_numbers && is_above before number then Some number else None

-- the numbers that texts list behind so many numbers, of which the last is the one before
unfoldable pub listed_behind : ℕ → ℕ → Option ℕ → List (List ℕ) → Option (List ℕ)
listed_behind max count before texts = do
  numbers ← numbers_of max texts
  if nat_le (count + length numbers) most_numbers && rises before numbers then Some numbers else None
