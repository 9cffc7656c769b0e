-- A small timeline whose rows change while they are scanned.
use Rattle.std.specs.Prelude.{ℕ, ◌==◌, List, [], ◌∷◌, Some, None}
use Rattle.bus_types.specs.declared.change.Key.TheVariants.{Long}
use Rattle.bus_types.specs.declared.change.Change.{Change}
use Rattle.bus_types.specs.Change.{Test}
use Rattle.bus_types.specs.Window.{Span}

-- a put of one byte at a key of source 0
abbrev pub put : ℕ → ℕ → Change
put key byte = record { source = 0; key = Long key; put = Some (byte ∷ []) }

-- a delete
abbrev pub delete : ℕ → Change
delete key = record { source = 0; key = Long key; put = None }

-- 10: 0/1=a1 0/2=a2 0/3=a3; 20: 0/1=b1; 30: 0/2-; 40: 0/4=a4
abbrev pub moving : List Span
moving =
    record { scn = 10; prev = 0; changes = put 1 161 ∷ put 2 162 ∷ put 3 163 ∷ [] }
    ∷ record { scn = 20; prev = 10; changes = put 1 177 ∷ [] }
    ∷ record { scn = 30; prev = 20; changes = delete 2 ∷ [] }
    ∷ record { scn = 40; prev = 30; changes = put 4 164 ∷ [] }
    ∷ []

-- the key 2 of each source
abbrev pub only_two : Test
only_two source (Long key) = key == 2
