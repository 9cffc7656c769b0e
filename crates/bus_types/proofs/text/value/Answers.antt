use Rattle.std.proofs.Common.{◌≡◌, ℕ, ◌+◌, ◌-◌, ◌*◌, ◌<◌, ◌≤◌, List, [], ◌∷◌, length, get_or, drop, None, refl, arith}
use Rattle.std.proofs.lemmas.Bool.Decides.{nat_tests}
use Rattle.std.proofs.lemmas.List.{at_drop_more}
use Rattle.bus_types.specs.Text.{value_from, u64_of}
use Rattle.bus_types.proofs.text.value.Goals as goal

-- more digits never make less
value_from-ge : (n : ℕ) (digits : List ℕ) → n ≤ value_from n digits
value_from-ge n [] = omega arith
value_from-ge n (d ∷ ds) = let more = value_from-ge (n * 10 + (d - 48)) ds in omega (arith, more)

-- where the next digit leads out of a u64, the whole is out of it
u64_of-none : (n i : ℕ) (digits : List ℕ) → i < length digits → value_from n (drop i digits) ≡ value_from 0 digits
    → None ≡ u64_of (n * 10 + (get_or digits i 0 - 48)) → u64_of (value_from 0 digits) ≡ None
u64_of-none n i digits lt same out =
    let next = at_drop_more (value_from n) digits i 0 lt in
    let more = value_from-ge (n * 10 + (get_or digits i 0 - 48)) (drop (i + 1) digits) in
    grind (arith, nat_tests)

pub returns-in_err-value : goal.returns-in_err-value
returns-in_err-value c =
    let out = c.in_err-value.ensures in
    rw (c.from_residual.ensures, u64_of-none c.loop-digit.value c.loop-digit.digit-index c.args.digits.now c.loop-digit-test.true c.loop-digit.invariant.same out) refl
