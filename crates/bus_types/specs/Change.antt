-- Rows and their changes.
use Rattle.std.specs.Prelude.{ℕ, ◌+◌, ◌<◌, ◌≤◌, ◌^◌, Bool, List, [], ◌∷◌, length, filter, decimal, Option, Some, None}
use Rattle.std.specs.List.{AllByRecursion}
use Rattle.std.specs.Ordering.{nat_cmp, ordering_then, is_eq}
use Rattle.std.specs.declared.cmp.Ordering.{Ordering}
use Rattle.bus_types.specs.declared.change.Key.{Key}
use Rattle.bus_types.specs.declared.change.Key.TheVariants.{Long}
use Rattle.bus_types.specs.declared.change.RowName.{RowName}
use Rattle.bus_types.specs.declared.change.Change.{Change}
use Rattle.bus_types.specs.declared.limits.TheConstants.{MAX_PAYLOAD}

-- keys in their order
abbrev pub key_cmp : Key → Key → Ordering
key_cmp (Long a) (Long b) = nat_cmp a b

-- a key in a text
abbrev pub key_text : Key → List ℕ
key_text (Long k) = decimal k

-- names by source, and then by key
abbrev pub name_cmp : RowName → RowName → Ordering
name_cmp a b = ordering_then (nat_cmp a.source b.source) (key_cmp a.key b.key)

abbrev pub is_name : RowName → RowName → Bool
is_name a b = is_eq (name_cmp a b)

abbrev pub name_of : Change → RowName
name_of c = record { source = c.source; key = c.key }

-- which rows are meant: a test on source and key, as a filter is
abbrev pub Test : Type 0
Test = ℕ → Key → Bool

-- the changes that a test accepts, in order
abbrev pub accepted : Test → List Change → List Change
accepted test changes = filter (λ c. test c.source c.key) changes

-- the bytes of an event before its payload: kind, source, SCN, key and length
abbrev pub head_size : Key → ℕ
head_size (Long k) = 23

abbrev pub payload_size : Option (List ℕ) → ℕ
payload_size None = 0
payload_size (Some bytes) = length bytes

-- the bytes of a change as an event
abbrev pub change_size : Change → ℕ
change_size c = head_size c.key + payload_size c.put

abbrev pub changes_size : List Change → ℕ
changes_size [] = 0
changes_size (c ∷ cs) = change_size c + changes_size cs

abbrev pub IsKey : Key → Type 0
IsKey (Long k) = k < 2 ^ 64

-- the numbers of a change are in their ranges
pub record IsChange (c : Change) : Type 0 where
  pub source : c.source < 2 ^ 16
  pub key : IsKey c.key
  pub payload : payload_size c.put ≤ MAX_PAYLOAD

abbrev pub AreChanges : List Change → Type 0
AreChanges changes = AllByRecursion IsChange changes
