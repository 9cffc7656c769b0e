-- The parameters of a query, and what each spells.
use Rattle.std.specs.Prelude.{ℕ, if◌then◌else◌, nat_lt, nat_le, Bool, true, false, List, [], ◌∷◌, codes, bytes_eq, Option, Some, None}
use Rattle.std.specs.Result.{result_ok}
use Rattle.std.specs.Str.Lossy.{utf8_lossy}
use Rattle.form_urlencoded.specs.Form.{raw_pairs, decode}
use Rattle.bus_types.specs.declared.row.Cursor.{Cursor}
use Rattle.bus_types.specs.declared.limits.TheConstants.{MAX_SCN}
use Rattle.bus_types.specs.Text.{◌>>=◌, number_of, cursor_of}
use Rattle.partition_filter.specs.Selection.{Selection}
use Rattle.partition_filter.specs.Grammar.{filter_of}

-- the text that a name or a value stands for
abbrev pub text_of : List ℕ → List ℕ
text_of bytes = utf8_lossy (decode bytes)

-- the value of the first pair of a name, and the pairs behind it
abbrev pub first_named : List ℕ → List (List ℕ × List ℕ) → Option (List ℕ × List (List ℕ × List ℕ))
first_named name [] = None
first_named name (pair ∷ pairs) = if bytes_eq (text_of pair.0) name then Some (pair.1, pairs) else first_named name pairs

-- a text, unless something is there
abbrev pub unless : {A : Type 0} → Option A → List ℕ → Option (List ℕ)
unless None text = Some text
unless (Some a) text = None

-- the value of a parameter: the text of the one pair that has its name
unfoldable pub parameter : List ℕ → List ℕ → Option (List ℕ)
parameter name query = do
  found ← first_named name (raw_pairs query)
  unless (first_named name found.1) (text_of found.0)

-- ---- what the values spell

-- an SCN, as a number without sign or leading zero
unfoldable pub scn_in : List ℕ → List ℕ → Option ℕ
scn_in name query = parameter name query >>= number_of MAX_SCN

-- an SCN of at least this one
unfoldable pub scn_from : ℕ → List ℕ → List ℕ → Option ℕ
scn_from least name query = do
  scn ← scn_in name query
  if nat_le least scn then Some scn else None

-- an SCN above this one
unfoldable pub scn_above : ℕ → List ℕ → List ℕ → Option ℕ
scn_above low name query = do
  scn ← scn_in name query
  if nat_lt low scn then Some scn else None

-- the most bytes of a reply: 1 to 16,777,216
unfoldable pub max_in : List ℕ → Option ℕ
max_in query = do
  text ← parameter (codes "max") query
  max ← number_of 16777216 text
  if nat_le 1 max then Some max else None

-- which rows are meant
unfoldable pub filter_in : List ℕ → Option Selection
filter_in query = do
  text ← parameter (codes "filter") query
  result_ok (filter_of text)

-- `0` or `1`
unfoldable pub flag_of : List ℕ → Option Bool
flag_of text = if bytes_eq text (codes "0") then Some false else if bytes_eq text (codes "1") then Some true else None

unfoldable pub fresh_in : List ℕ → Option Bool
fresh_in query = parameter (codes "fresh") query >>= flag_of

-- `start`, or the row after which rows are asked for
unfoldable pub cursor_in : List ℕ → Option Cursor
cursor_in query = parameter (codes "cursor") query >>= cursor_of
