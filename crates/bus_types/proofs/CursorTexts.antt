-- The text of a cursor is read back.
use Rattle.std.proofs.Common.{◌≡◌, ℕ, ◌^◌, ◌<◌, ◌≤◌, nat_le, true, false, codes, decimal, List, [], ◌∷◌, ◌++◌, length, Some, bytes_eq, refl, append_assoc, arith, lit<}
use Rattle.std.specs.List.{list_all}
use Rattle.std.proofs.lemmas.Bool.{and_parts, leb-true, ne_eqb}
use Rattle.std.proofs.lemmas.Fmt.{decimal_nonempty}
use Rattle.bus_types.specs.declared.change.Key.TheVariants.{Long}
use Rattle.bus_types.specs.declared.row.Cursor.{Cursor}
use Rattle.bus_types.specs.declared.row.Cursor.TheVariants.{Start, After}
use Rattle.bus_types.specs.Text.{is_digit, max_u64, IsCursor, cursor_text, after_of, cursor_of}
use Rattle.bus_types.proofs.Numbers.{all_digits-decimal, number_again}
use Rattle.bus_types.proofs.Cuts.{Lacks-from_test, cut_again}

not_start : (bs rest : List ℕ) → list_all is_digit bs ≡ true → 0 < length bs → bytes_eq (bs ++ rest) (codes "start") ≡ false
not_start [] rest h some = absurd (omega arith)
not_start (b ∷ bs) rest h some =
    let parts = and_parts (is_digit b) (list_all is_digit bs) h in
    let high : b ≤ 57 = leb-true b 57 (and_parts (nat_le 48 b) (nat_le b 57) parts.0).1 in
    rw (ne_eqb b 115 (λ e. omega arith)) refl

after_again : (source key : ℕ) → source < 2 ^ 16 → key < 2 ^ 64 → after_of (decimal source ++ 47 ∷ decimal key) ≡ Some (After source (Long key))
unfolding after_of
after_again source key small fits =
    let digits = all_digits-decimal source (omega arith) in
    let cut = cut_again 47 (decimal source) (decimal key) (Lacks-from_test is_digit 47 (decimal source) refl digits) in
    rw (cut, number_again 65535 source (lit< tt) (omega arith), number_again max_u64 key (lit< tt) (omega arith)) refl

pub cursor_again : (cursor : Cursor) → IsCursor cursor → cursor_of (cursor_text cursor) ≡ Some cursor
unfolding cursor_of
cursor_again Start h = refl
cursor_again (After source (Long key)) h =
    let fits : source < 2 ^ 64 = omega arith in
    let whole : decimal source ++ codes "/" ++ decimal key ≡ decimal source ++ 47 ∷ decimal key = append_assoc (decimal source) (codes "/") (decimal key) in
    rw (whole, not_start (decimal source) (47 ∷ decimal key) (all_digits-decimal source fits) (decimal_nonempty source fits)) (after_again source key h.0 h.1)
