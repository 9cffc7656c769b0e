-- Windows that are made from a number: the same on every machine and in every release.
use Rattle.std.specs.Prelude.{ℕ, zero, suc, ◌+◌, ◌*◌, ◌/◌, ◌%◌, ◌==◌, if◌then◌else◌, List, [], ◌∷◌, Option, Some, None}
use Rattle.bus_types.specs.declared.change.Key.TheVariants.{Long}
use Rattle.bus_types.specs.declared.change.Change.{Change}
use Rattle.bus_types.specs.Window.{Span}

-- a draw moves the state on, and what is drawn are the state's bits from the 16th on
unfoldable pub next_state : ℕ → ℕ
next_state x = (x * 1103515245 + 12345) % 2147483648

abbrev pub drawn : ℕ → ℕ
drawn x = x / 65536

-- the first draws from a state
abbrev pub draws : ℕ → ℕ → List ℕ
draws zero x = []
draws (suc n) x = drawn (next_state x) ∷ draws n (next_state x)

-- so many bytes: those of a number and of the next ones
abbrev pub bytes_from : ℕ → ℕ → List ℕ
bytes_from first zero = []
bytes_from first (suc n) = first % 256 ∷ bytes_from (first + 1) n

-- a draw c, and a draw b before it, make a delete one time in eight, and else a put of 1 to 64 bytes
abbrev pub put_of : ℕ → ℕ → Option (List ℕ)
put_of b c = if c % 8 == 0 then None else Some (bytes_from (b + c) (c % 64 + 1))

-- three draws make a change
abbrev pub change_of : ℕ → ℕ → ℕ → Change
change_of a b c = record { source = a % 3; key = Long (b % 4096); put = put_of b c }

abbrev pub after_change : ℕ → ℕ
after_change x = next_state (next_state (next_state x))

-- the change that is made from a state
abbrev pub generated_change : ℕ → Change
generated_change x = change_of (drawn (next_state x)) (drawn (next_state (next_state x))) (drawn (after_change x))

-- so many changes
abbrev pub generated_changes : ℕ → ℕ → List Change
generated_changes zero x = []
generated_changes (suc n) x = generated_change x ∷ generated_changes n (after_change x)

abbrev pub after_changes : ℕ → ℕ → ℕ
after_changes zero x = x
after_changes (suc n) x = after_changes n (after_change x)

-- the first draw of a window says how far it is above the last one, and the second one how many changes it has
abbrev pub above : ℕ → ℕ
above x = drawn (next_state x) % 3 + 1

abbrev pub count_of : ℕ → ℕ
count_of x = drawn (next_state (next_state x)) % 4 + 1

-- the window that is made from a state, behind the last one
unfoldable pub generated_window : ℕ → ℕ → Span
generated_window x last = record { scn = last + above x; prev = last; changes = generated_changes (count_of x) (next_state (next_state x)) }

unfoldable pub after_window : ℕ → ℕ
after_window x = after_changes (count_of x) (next_state (next_state x))

-- so many windows
abbrev pub generated : ℕ → ℕ → ℕ → List Span
generated zero x last = []
generated (suc n) x last = generated_window x last ∷ generated n (after_window x) (last + above x)
