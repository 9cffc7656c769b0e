-- The text of a cursor has no byte that JSON escapes.
use Rattle.std.proofs.Common.{◌≡◌, ℕ, ◌^◌, ◌<◌, true, codes, decimal, ◌++◌, refl, arith}
use Rattle.std.proofs.lemmas.Bool.Decides.{nat_tests}
use Rattle.bus_types.specs.declared.change.Key.TheVariants.{Long}
use Rattle.bus_types.specs.declared.row.Cursor.{Cursor}
use Rattle.bus_types.specs.declared.row.Cursor.TheVariants.{Start, After}
use Rattle.bus_types.specs.Text.{is_digit, IsCursor, cursor_text}
use Rattle.bus_types.proofs.Numbers.{all_digits-decimal}
use Rattle.json_forms.specs.Objects.{is_plain, IsPlain}
use Rattle.bus_types.proofs.Tests.{list_all-weaker, list_all-both}

plain_digit : (b : ℕ) → is_digit b ≡ true → is_plain b ≡ true
plain_digit b h = grind (arith, nat_tests)

plain-decimal : (n : ℕ) → n < 2 ^ 64 → IsPlain (decimal n)
plain-decimal n fits = list_all-weaker is_digit is_plain plain_digit (decimal n) (all_digits-decimal n fits)

pub plain-cursor_text : (cursor : Cursor) → IsCursor cursor → IsPlain (cursor_text cursor)
plain-cursor_text Start h = refl
plain-cursor_text (After source (Long key)) h =
    list_all-both is_plain (decimal source ++ codes "/") (decimal key) (list_all-both is_plain (decimal source) (codes "/") (plain-decimal source (omega arith)) refl)
    (plain-decimal key h.1)
