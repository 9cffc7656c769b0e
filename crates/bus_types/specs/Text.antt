-- Texts: numbers in decimal, what stands before and after a byte, and cursors.
use Rattle.std.specs.Prelude.{◌≡◌, ℕ, ◌+◌, ◌-◌, ◌*◌, ◌^◌, ◌<◌, Bool, if◌then◌else◌, ◌==◌, ◌||◌, ◌&&◌, nat_lt, nat_le, List, [], ◌∷◌, ◌++◌, length, take, drop, position, slice_index, codes, decimal, bytes_eq, Option, Some, None, option_and_then, option_map, Result, Ok, Err}
use Rattle.std.specs.List.{list_all}
use Rattle.bus_types.specs.declared.change.Key.TheVariants.{Long}
use Rattle.bus_types.specs.declared.row.Cursor.{Cursor}
use Rattle.bus_types.specs.declared.row.Cursor.TheVariants.{Start, After}
use Rattle.bus_types.specs.Change.{IsKey, key_text}

-- one step that may fail behind another
infixl 10 ◌>>=◌
abbrev pub ◌>>=◌ : {A B : Type 0} → Option A → (A → Option B) → Option B
o >>= f = option_and_then f o

-- what stands before and after the first such byte
abbrev pub cut_at : ℕ → List ℕ → Option (List ℕ × List ℕ)
cut_at byte bytes = option_map (λ i. (take i bytes, drop (i + 1) bytes)) (position (λ b. b == byte) bytes)

abbrev pub is_digit : ℕ → Bool
is_digit b = nat_le 48 b && nat_le b 57

abbrev pub value_from : ℕ → List ℕ → ℕ
value_from n [] = n
value_from n (b ∷ bs) = value_from (n * 10 + (b - 48)) bs

-- decimal digits, at least one, without a leading zero but `0` itself
abbrev pub is_numeral : List ℕ → Bool
is_numeral bytes = list_all is_digit bytes && nat_lt 0 (length bytes) && (length bytes == 1 || nat_lt 48 (slice_index bytes 0))

-- the number that the bytes spell, where it is at most max
unfoldable pub number_of : ℕ → List ℕ → Option ℕ
number_of max bytes = if is_numeral bytes && nat_le (value_from 0 bytes) max then Some (value_from 0 bytes) else None

abbrev pub max_u64 : ℕ
max_u64 = 18446744073709551615

-- the number, where it is below 2 to the 64
abbrev pub u64_of : ℕ → Option ℕ
u64_of n = if nat_lt n (2 ^ 64) then Some n else None

-- a call that appends a text: it stands behind what was there; where memory ran out, what was there stands
abbrev pub Appends : {T E : Type 0} → Result T E → List ℕ → List ℕ → List ℕ → Type 0
Appends (Ok done) text old new = new ≡ old ++ text
Appends (Err fault) text old new = take (length old) new ≡ old

-- ---- cursors

-- the numbers of a cursor are in the ranges of their types
abbrev pub IsCursor : Cursor → Type 0
IsCursor Start = Unit {0}
IsCursor (After source key) = (source < 2 ^ 16) × IsKey key

-- `start`, or the source and the key of the row before
abbrev pub cursor_text : Cursor → List ℕ
cursor_text Start = codes "start"
cursor_text (After source key) = decimal source ++ codes "/" ++ key_text key

-- `S/K`
unfoldable pub after_of : List ℕ → Option Cursor
after_of text = do
  parts ← cut_at 47 text
  source ← number_of 65535 parts.0
  key ← number_of max_u64 parts.1
  Some (After source (Long key))

-- the cursor that a text spells, `start` or `S/K`
unfoldable pub cursor_of : List ℕ → Option Cursor
cursor_of text = if bytes_eq text (codes "start") then Some Start else after_of text
