-- The lines of rows, and the bytes of their payloads.
use Rattle.std.proofs.Common.{◌≡◌, ℕ, ◌+◌, ◌*◌, ◌<◌, ◌≤◌, List, ◌∷◌, ◌++◌, append_assoc, length, length-append, get_or, map, flat_map, drop, sym, ap, ◌∙◌, arith}
use Rattle.std.specs.Prelude.{codes, decimal}
use Rattle.std.proofs.lemmas.List.{drop_more, length-map}
use Rattle.hex.specs.Hex.{lower_digits, encode_lower}
use Rattle.hex.proofs.HexLemmas.{length-encode_with}
use Rattle.bus_types.specs.declared.change.RowName.{RowName}
use Rattle.bus_types.specs.Change.{key_text}
use Rattle.bus_types.specs.declared.row.Row.{Row}
use Rattle.bus_types.specs.Rows.{pair_of}
use Rattle.bus_types.specs.Fnv.{fnv1a_of}
use Rattle.history_core.specs.Script.{rows_size, hash_text, sum_line, sum_text}
use Rattle.consumer_lines.specs.Shown.{row_line}

-- a row's line has two digits for each byte
pub row_long : (row : RowName × List ℕ) → 2 * length row.1 ≤ length (row_line row)
row_long row =
    let front = decimal row.0.source ++ codes "/" ++ key_text row.0.key ++ codes "=" in
    let hex = encode_lower row.1 in
    let long : length hex ≡ 2 * length row.1 = length-encode_with lower_digits row.1 in
    let inner : length (front ++ hex) ≡ length front + length hex = length-append front hex in
    let outer : length (row_line row) ≡ length (front ++ hex) + length (codes "\n") = length-append (front ++ hex) (codes "\n") in
    last (length row.1) (length hex) (length front) (length (front ++ hex)) (length (codes "\n")) (length (row_line row)) long inner outer
  where
    last : (n p q r s t : ℕ) → p ≡ 2 * n → r ≡ q + p → t ≡ r + s → 2 * n ≤ t
    last n p q r s t h i j = omega (arith, h, i, j)

-- a row's line was appended
pub record More (rows : List Row) (i size total : ℕ) (bytes out all : List ℕ) : Type 0 where
  pub lines : out ++ flat_map row_line (map pair_of (drop (i + 1) rows)) ≡ all
  pub size_is : (size + length bytes) + rows_size (map pair_of (drop (i + 1) rows)) ≡ total
  pub small : 2 * (size + length bytes) ≤ length out

pub more : (rows : List Row) (i size total : ℕ) (row : Row) (bytes before out all : List ℕ) → i < length rows → row ≡ get_or rows i row → bytes ≡ row.payload → out ≡ before ++ row_line (pair_of row)
    → before ++ flat_map row_line (map pair_of (drop i rows)) ≡ all → size + rows_size (map pair_of (drop i rows)) ≡ total → 2 * size ≤ length before → More rows i size total bytes out all
more rows i size total row bytes before out all lt is b o lines sizes small =
    let first : drop i rows ≡ row ∷ drop (i + 1) rows = drop_more rows i row lt ∙ ap (λ (r : Row). r ∷ drop (i + 1) rows) (sym is) in
    let rest = flat_map row_line (map pair_of (drop (i + 1) rows)) in
    let long = ap (λ (x : List ℕ). length x) b in
    record {
      lines = ap (λ (x : List ℕ). x ++ rest) o ∙ append_assoc before (row_line (pair_of row)) rest ∙ ap (λ (left : List Row). before ++ flat_map row_line (map pair_of left)) (sym first) ∙ lines;
      size_is = omega (arith, sizes, long, ap (λ (left : List Row). rows_size (map pair_of left)) first);
      small = omega (arith, small, long, ap (λ (x : List ℕ). length x) o, length-append before (row_line (pair_of row)), row_long (pair_of row));
    }

-- the text of a summary
pub sum_made : (name : List ℕ) (scn count size : ℕ) (hash lines seen : List ℕ) (rows : List Row) → count ≡ length rows → lines ≡ flat_map row_line (map pair_of rows) → size ≡ rows_size (map pair_of rows) → seen ≡ lines → hash ≡ hash_text (fnv1a_of seen)
    → sum_line name scn count size hash ≡ sum_text name scn (map pair_of rows)
sum_made name scn count size hash lines seen rows c l z s h =
    let number = c ∙ sym (length-map rows pair_of) in
    let digits = h ∙ ap (λ (x : List ℕ). hash_text (fnv1a_of x)) (s ∙ l) in
    λ i. sum_line name scn (number i) (z i) (digits i)
