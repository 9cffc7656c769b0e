-- What several reads or writes do to known bytes.
use Rattle.std.proofs.Common.{◌≡◌, ℕ, false, refl, ◌+◌, ◌-◌, ◌<◌, ◌≤◌, min, List, [], ◌++◌, length, take, drop, Option, Some, None, IfSome, sym, ap, ◌∙◌, arith, take-append-drop}
use Rattle.std.proofs.lemmas.List.{take_rest, drop_all, drop-drop}
use Rattle.std.proofs.Math.Seq.{take-add}
use Rattle.std.proofs.KnownBytes.{Appends-nil, Appends-trans}
use Rattle.std.specs.Io.KnownBytes.{Appends}
use Rattle.bus_io.specs.Bytes.{RoomLeft}
use Rattle.bus_types.specs.Counting.{next_count}
use Rattle.bus_io.specs.Memory.{Reader, is_listed, after_read}

pub RoomLeft-none : (a : Option ℕ) → RoomLeft a a 0
RoomLeft-none None = tt
RoomLeft-none (Some n) = omega arith

pub RoomLeft-more : (a b c : Option ℕ) (m n : ℕ) → RoomLeft a b m → RoomLeft b c n → RoomLeft a c (m + n)
RoomLeft-more None b c m n p q = tt
RoomLeft-more (Some x) None c m n p q = absurd p
RoomLeft-more (Some x) (Some y) None m n p q = absurd q
RoomLeft-more (Some x) (Some y) (Some z) m n p q = omega arith

-- a sink that has no room for the rest had none for the whole
pub full_of_rest : (a b : Option ℕ) (done rest whole : ℕ) → RoomLeft a b done → IfSome b (λ n. n < rest) → done + rest ≤ whole → IfSome a (λ n. n < whole)
full_of_rest None b done rest whole p q within = tt
full_of_rest (Some x) None done rest whole p q within = absurd p
full_of_rest (Some x) (Some y) done rest whole p q within = omega arith

pub ruleset known = (Appends-nil, Appends-trans, RoomLeft-none)

-- a further front of what was left to write
pub Appends-more : (a b c : Option (List ℕ)) (all : List ℕ) (done count : ℕ) → Appends a b (take done all) → Appends b c (take count (take (length all - done) (drop done all))) → Appends a c (take (done + count) all)
Appends-more a b c all done count p q =
    rw take-add (Appends-trans a b c _ _ p (rw take_rest at q))

-- a source that gave a front of what it had left, as much as there was room for
pub gives_front : (left all seen old new : List ℕ) (given count : ℕ) → drop given all ≡ left → seen ≡ drop given all → length new ≡ length old → count ≡ min (length old) (length seen) → take count new ≡ take count seen
    → (left ≡ take count new ++ drop (given + count) all) × (count ≡ 0 → 0 < length new → drop (given + count) all ≡ [])
gives_front left all seen old new given count rest read same_room most copied =
    let after : drop (given + count) all ≡ drop count seen = sym (drop-drop count given all) ∙ ap (drop count) (sym read) in
    (rw (after, copied) (sym rest ∙ sym read ∙ sym (take-append-drop count seen)), λ none room. rw after (drop_all count seen (omega arith)))

-- what it gave before, and then that front
pub gave_front : (before all seen new : List ℕ) (given count : ℕ) → take given all ≡ before → seen ≡ drop given all → take count new ≡ take count seen → take (given + count) all ≡ before ++ take count new
gave_front before all seen new given count was read copied =
    rw (take-add, was, copied, read) refl

-- what a read leaves that was not to fail
pub read_leaves : (s : Reader) (all seen fails : List ℕ) (given size count calls faults : ℕ) → s.given ≡ take given all → s.left ≡ drop given all → seen ≡ drop given all → is_listed s.fails s.calls ≡ false → count ≡ min size (length seen)
    → fails ≡ s.fails → calls ≡ next_count s.calls → faults ≡ s.faults
    → record { given = take (given + count) all; left = drop (given + count) all; fails = fails; calls = calls; faults = faults } ≡ after_read s size
read_leaves s all seen fails given size count calls faults was rest read listed most same_fails counted same_faults =
    rw (listed, rest, ← read, ← most, take-add, ← drop-drop count given all, ← read, ← was, same_fails, counted, same_faults) refl
