-- What is replied behind a lock.
use Rattle.std.specs.Prelude.{ℕ, List}
use Rattle.bus_wire.specs.declared.ask.Ask.{Ask}

-- these bytes may be the reply to an ask of what stands behind a lock, in some state of it
abbrev pub MaySome : {B : Type 0} → (B → Ask → List ℕ → Type 0) → Ask → List ℕ → Type 0
MaySome may ask bytes = (b : _) × may b ask bytes

-- the same as a service's relation, of a state of which nothing is told
abbrev pub MayLocked : {B : Type 0} → (B → Ask → List ℕ → Type 0) → Unit {0} → Unit {0} → Ask → List ℕ → Type 0
MayLocked may before after ask bytes = MaySome may ask bytes

abbrev pub KeepsLocked : Unit {0} → Unit {0} → Type 0
KeepsLocked before after = Unit {0}
