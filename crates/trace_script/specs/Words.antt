-- The words of a line: numbers, names, filters, changes.
use Rattle.std.specs.Prelude.{◌≡◌, ℕ, Bool, false, not, codes, bytes_eq, if◌then◌else◌, ◌==◌, ◌||◌, ◌&&◌, nat_le, List, [], ◌∷◌, length, Option, Some, None, option_map}
use Rattle.std.specs.Result.{result_ok}
use Rattle.std.specs.List.{list_all, list_any, slice_split}
use Rattle.hex.specs.Hex.{decode_of}
use Rattle.bus_types.specs.declared.change.Key.{Key}
use Rattle.bus_types.specs.declared.change.Key.TheVariants.{Long}
use Rattle.bus_types.specs.declared.change.Change.{Change}
use Rattle.bus_types.specs.declared.limits.TheConstants.{MAX_PAYLOAD}
use Rattle.bus_types.specs.Text.{◌>>=◌, cut_at, is_digit, number_of, max_u64}
use Rattle.partition_filter.specs.Selection.{Selection}
use Rattle.partition_filter.specs.Grammar.{filter_of}

-- the parts between spaces; two spaces in a row, or one at an end, leave an empty part, which is no word
abbrev pub words_of : List ℕ → List (List ℕ)
words_of bytes = slice_split (λ b. b == 32) bytes

-- words that don't begin with `commit` and another one
abbrev pub IsNoCommit : List (List ℕ) → Type 0
IsNoCommit [] = Unit {0}
IsNoCommit (word ∷ []) = Unit {0}
IsNoCommit (word ∷ next ∷ words) = bytes_eq word (codes "commit") ≡ false

-- the number that a word spells, where it is at least min and at most max
unfoldable pub number_in : ℕ → ℕ → List ℕ → Option ℕ
number_in min max word = do
  number ← number_of max word
  if nat_le min number then Some number else None

-- ---- names

abbrev pub is_name_byte : ℕ → Bool
is_name_byte b = (nat_le 97 b && nat_le b 122) || is_digit b || b == 95

abbrev pub is_name_text : List ℕ → Bool
is_name_text bytes = nat_le 1 (length bytes) && nat_le (length bytes) 16 && list_all is_name_byte bytes

unfoldable pub name_of : List ℕ → Option (List ℕ)
name_of bytes = if is_name_text bytes then Some bytes else None

-- ---- the bytes of words

-- a byte that words have: of a name, a number or a small letter, or one of `/`, `=`, `-`, `%`, `:`, `,`, `;` and `*`
abbrev pub is_word_byte : ℕ → Bool
is_word_byte b = is_name_byte b || b == 47 || b == 61 || b == 45 || b == 37 || b == 58 || b == 44 || b == 59 || b == 42

-- a space, or a byte that words have
abbrev pub is_line_byte : ℕ → Bool
is_line_byte b = b == 32 || is_word_byte b

-- whether the bytes of a text may be those of words, and no word is empty
abbrev pub may_be_words : List ℕ → Bool
may_be_words text = list_all is_line_byte text && not (list_any (λ word. length word == 0) (words_of text))

-- ---- filters

abbrev pub selection_of : List ℕ → Option Selection
selection_of word = result_ok (filter_of word)

-- ---- changes

unfoldable pub key_of : List ℕ → Option Key
key_of bytes = option_map Long (number_of max_u64 bytes)

abbrev pub is_lower_hex : ℕ → Bool
is_lower_hex b = is_digit b || (nat_le 97 b && nat_le b 102)

-- two lower-case digits for each byte
unfoldable pub payload_of : List ℕ → Option (List ℕ)
payload_of text = do
  bytes ← if list_all is_lower_hex text then result_ok (decode_of text) else None
  if nat_le (length bytes) MAX_PAYLOAD then Some bytes else None

-- behind the slash: `K=HEX`, or `K-` where there is no `=`
unfoldable pub put_or_delete : ℕ → List ℕ → Option (List ℕ × List ℕ) → Option Change
put_or_delete source rest (Some parts) = do
  key ← key_of parts.0
  payload ← payload_of parts.1
  Some (record { source = source; key = key; put = Some payload })
put_or_delete source rest None = do
  parts ← cut_at 45 rest
  key ← key_of parts.0
  if length parts.1 == 0 then Some (record { source = source; key = key; put = None }) else None

-- `S/K=HEX` or `S/K-`
unfoldable pub change_of : List ℕ → Option Change
change_of text = do
  parts ← cut_at 47 text
  source ← number_of 65535 parts.0
  put_or_delete source parts.1 (cut_at 61 parts.1)

unfoldable pub changes_of : List (List ℕ) → Option (List Change)
changes_of [] = Some []
changes_of (word ∷ words) = do
  change ← change_of word
  changes ← changes_of words
  Some (change ∷ changes)
