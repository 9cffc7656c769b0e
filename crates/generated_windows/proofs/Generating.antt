-- Windows that are made from a number: they are within the limits of windows, and are made one part after the other.
use Rattle.std.proofs.Common.{◌≡◌, ℕ, zero, suc, ◌+◌, ◌-◌, ◌*◌, ◌%◌, ◌<◌, ◌≤◌, Bool, true, false, cond, eqb, List, [], ◌∷◌, ◌++◌, append-nil, append_assoc, length, take, set, Some, None, refl, sym, ap, subst, ◌∙◌, arith}
use Rattle.std.proofs.lemmas.List.{take_all, take_more_set}
use Rattle.std.proofs.lemmas.Bool.{or_from, ne_eqb, le-ltb, lt-leb}
use Rattle.bus_types.specs.declared.change.Change.{Change}
use Rattle.bus_types.specs.declared.window.WindowFault.{WindowFault}
use Rattle.bus_types.specs.declared.limits.TheConstants.{MAX_SCN, MAX_PAYLOAD, MAX_CHANGES, MAX_WINDOW}
use Rattle.bus_types.specs.Change.{payload_size, changes_size, AreChanges}
use Rattle.bus_types.specs.Window.{Span, span_size, bad_scn, window_fault}
use Rattle.bus_types.specs.Timeline.{Follows}
use Rattle.generated_windows.specs.Generated.{drawn, next_state, bytes_from, put_of, generated_change, generated_changes, after_change, after_changes, above, count_of, generated_window, after_window}

-- ---- bytes

pub bytes_long : (first n : ℕ) → length (bytes_from first n) ≡ n
bytes_long first zero = refl
bytes_long first (suc n) = ap suc (bytes_long (first + 1) n)

-- one more byte at the end
bytes_last : (first n : ℕ) → bytes_from first (suc n) ≡ bytes_from first n ++ (first + n) % 256 ∷ []
bytes_last first zero = let same : first ≡ first + 0 = omega arith in ap (λ m. m % 256 ∷ []) same
bytes_last first (suc n) =
    let next : (first + 1) + n ≡ first + suc n = omega arith in
    ap (λ bs. first % 256 ∷ bs) (bytes_last (first + 1) n ∙ ap (λ m. bytes_from (first + 1) n ++ m % 256 ∷ []) next)

-- a byte was written behind those that were
pub bytes_more : (first j : ℕ) (bytes : List ℕ) → j < length bytes → take j bytes ≡ bytes_from first j → take (j + 1) (set bytes j ((first + j) % 256)) ≡ bytes_from first (j + 1)
bytes_more first j bytes lt done =
    let one : suc j ≡ j + 1 = omega arith in
    take_more_set bytes j ((first + j) % 256) lt ∙ ap (λ bs. bs ++ (first + j) % 256 ∷ []) done ∙ sym (bytes_last first j) ∙ ap (bytes_from first) one

-- all were
pub bytes_all : (first j : ℕ) (bytes : List ℕ) → j ≡ 64 → length bytes ≡ 64 → take j bytes ≡ bytes_from first j → bytes ≡ bytes_from first 64
bytes_all first j bytes end long done = sym (take_all 64 bytes (omega (arith, long))) ∙ ap (λ n. take n bytes) (sym end) ∙ done ∙ ap (bytes_from first) end

-- the first ones
pub bytes_front : (first n m : ℕ) → n ≤ m → take n (bytes_from first m) ≡ bytes_from first n
bytes_front first zero m le = refl
bytes_front first (suc n) zero le = let none : ⊥ = omega (arith, le) in absurd none
bytes_front first (suc n) (suc m) le = ap (λ bs. first % 256 ∷ bs) (bytes_front (first + 1) n m (omega (arith, le)))

-- ---- changes

put_short : (b c : ℕ) → payload_size (put_of b c) ≤ 64
put_short b c = chosen (eqb (c % 8) 0)
  where
    chosen : (t : Bool) → payload_size (cond t None (Some (bytes_from (b + c) (c % 64 + 1)))) ≤ 64
    chosen true = omega arith
    chosen false = omega (arith, bytes_long (b + c) (c % 64 + 1))

pub changes_many : (n x : ℕ) → length (generated_changes n x) ≡ n
changes_many zero x = refl
changes_many (suc n) x = ap suc (changes_many n (after_change x))

changes_small : (n x : ℕ) → changes_size (generated_changes n x) ≤ n * 87
changes_small zero x = omega arith
changes_small (suc n) x = omega (arith, put_short (drawn (next_state (next_state x))) (drawn (after_change x)), changes_small n (after_change x))

-- a change was appended, and the others are still to be
pub changes_more : (i count x : ℕ) (c : Change) (out all : List Change) → i < count → c ≡ generated_change x → out ++ generated_changes (count - i) x ≡ all → (out ++ c ∷ []) ++ generated_changes (count - (i + 1)) (after_change x) ≡ all
changes_more i count x c out all lt is e =
    let more : count - i ≡ suc (count - (i + 1)) = omega arith in
    append_assoc out (c ∷ []) (generated_changes (count - (i + 1)) (after_change x))
    ∙ ap (λ (d : Change). out ++ d ∷ generated_changes (count - (i + 1)) (after_change x)) is
    ∙ ap (λ n. out ++ generated_changes n x) (sym more)
    ∙ e

pub after_more : (i count x all : ℕ) → i < count → after_changes (count - i) x ≡ all → after_changes (count - (i + 1)) (after_change x) ≡ all
after_more i count x all lt e =
    let more : count - i ≡ suc (count - (i + 1)) = omega arith in
    ap (λ n. after_changes n x) (sym more) ∙ e

-- all were
pub changes_all : (i count x : ℕ) (out all : List Change) → count ≤ i → out ++ generated_changes (count - i) x ≡ all → out ≡ all
changes_all i count x out all past e =
    let none : count - i ≡ 0 = omega arith in
    sym (append-nil out) ∙ ap (λ n. out ++ generated_changes n x) (sym none) ∙ e

pub after_all : (i count x all : ℕ) → count ≤ i → after_changes (count - i) x ≡ all → x ≡ all
after_all i count x all past e =
    let none : count - i ≡ 0 = omega arith in
    ap (λ n. after_changes n x) (sym none) ∙ e

-- ---- windows

-- what is within the limits is a window in full
faultless : (w : Span) → w.prev < w.scn → w.scn ≤ MAX_SCN → 0 < length w.changes → length w.changes ≤ MAX_CHANGES → span_size w ≤ MAX_WINDOW → window_fault w ≡ None
faultless w rises high some few small =
    let good : bad_scn w ≡ false = or_from _ _ (or_from _ _ (ne_eqb w.scn 0 (λ e. omega (arith, rises, e))) (le-ltb MAX_SCN w.scn high)) (lt-leb w.scn w.prev rises) in
    rw (good, ne_eqb (length w.changes) 0 (λ e. omega (arith, some, e)), le-ltb MAX_CHANGES (length w.changes) few, le-ltb MAX_WINDOW (span_size w) small) refl

pub window_faultless : (x last : ℕ) → last ≤ 9223372036854775804 → window_fault (generated_window x last) ≡ None
unfolding generated_window
window_faultless x last low =
    let n = count_of x in
    let y = next_state (next_state x) in
    let many = changes_many n y in
    faultless (record { scn = last + above x; prev = last; changes = generated_changes n y }) (omega arith) (omega (arith, low)) (omega (arith, many)) (omega (arith, many)) (omega (arith, changes_small n y))

-- the draws of a window
record Drawn (x first second a b : ℕ) : Type 0 where
  first_is : first ≡ next_state x
  second_is : second ≡ next_state (next_state x)
  above_is : a % 3 + 1 ≡ above x
  count_is : b % 4 + 1 ≡ count_of x

drawn_of : (x first second a b : ℕ) → first ≡ next_state x → a ≡ drawn first → second ≡ next_state first → b ≡ drawn second → Drawn x first second a b
drawn_of x first second a b f d s e =
    let later = s ∙ ap next_state f in
    record { first_is = f; second_is = later; above_is = ap (λ n. n % 3 + 1) (d ∙ ap drawn f); count_is = ap (λ n. n % 4 + 1) (e ∙ ap drawn later) }

-- the window of these draws
pub window_made : (x last first second a b from : ℕ) (cs : List Change) → first ≡ next_state x → a ≡ drawn first → second ≡ next_state first → b ≡ drawn second → from ≡ a % 3 + 1 → cs ≡ generated_changes (b % 4 + 1) second
    → ◌≡◌ {A = Span} (record { scn = last + from; prev = last; changes = cs }) (generated_window x last)
unfolding generated_window
window_made x last first second a b from cs f d s e up made =
    let draws = drawn_of x first second a b f d s e in
    let scn = up ∙ draws.above_is in
    let changes : cs ≡ generated_changes (count_of x) (next_state (next_state x)) = made ∙ (λ i. generated_changes (draws.count_is i) (draws.second_is i)) in
    λ i. record { scn = last + scn i; prev = last; changes = changes i }

pub state_made : (x first second a b after : ℕ) → first ≡ next_state x → a ≡ drawn first → second ≡ next_state first → b ≡ drawn second → after ≡ after_changes (b % 4 + 1) second → after ≡ after_window x
unfolding after_window
state_made x first second a b after f d s e made =
    let draws = drawn_of x first second a b f d s e in
    made ∙ (λ i. after_changes (draws.count_is i) (draws.second_is i))

-- it is a window in full
pub made_faultless : (x last : ℕ) (w : Span) (fault : WindowFault) → last ≤ 9223372036854775804 → w ≡ generated_window x last → window_fault w ≡ Some fault → ⊥
made_faultless x last w fault low made e =
    let none = sym e ∙ ap window_fault made ∙ window_faultless x last low in
    absurd (some_none fault none)
  where
    some_none : (f : WindowFault) → Some f ≡ None → ⊥
    some_none f h = absurd cc

-- what is known of it at once
pub record Facts (last : ℕ) (w : Span) : Type 0 where
  pub chained : w.prev ≡ last
  pub full : 0 < length w.changes
  pub near : w.scn ≤ last + 3

window_facts : (x last : ℕ) → Facts last (generated_window x last)
unfolding generated_window
window_facts x last = record { chained = refl; full = omega (arith, changes_many (count_of x) (next_state (next_state x))); near = omega arith }

pub made_facts : (x last : ℕ) (w : Span) → w ≡ generated_window x last → Facts last w
made_facts x last w made = subst (Facts last) (sym made) (window_facts x last)

-- ---- timelines

put_fits : (b c : ℕ) → payload_size (put_of b c) ≤ MAX_PAYLOAD
put_fits b c = omega (arith, put_short b c)

changes_fit : (n x : ℕ) → AreChanges (generated_changes n x)
changes_fit zero x = tt
changes_fit (suc n) x = (record { source = omega arith; key = omega arith; payload = put_fits (drawn (next_state (next_state x))) (drawn (after_change x)) }, changes_fit n (after_change x))

-- it follows the last one
pub generated_follows : (x last : ℕ) → last ≤ 9223372036854775804 → Follows last (generated_window x last)
unfolding generated_window
generated_follows x last low =
    let n = count_of x in
    let y = next_state (next_state x) in
    let many = changes_many n y in
    record {
      chained = refl;
      full = omega (arith, many);
      within = record { scn = omega (arith, low); prev = omega arith; count = omega (arith, many); size = omega (arith, changes_small n y); changes = changes_fit n y };
    }
