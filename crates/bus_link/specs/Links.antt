-- What links and doors tell, and what connections and doors are when they are new.
use Rattle.std.specs.Prelude.{ℕ, ◌≡◌, ◌<◌, ◌≤◌, ◌↔◌, List, [], ◌∷◌, ◌++◌, Option, Some, IfSome}
use Rattle.bus_types.specs.Causes.{Rose}

-- what a link tells of its calls: the port at which it listened last, the ports that it connected to, the connections that
-- were hung up, and of each door that was shut what it had told of the connections that it took back, all in order
pub record Told (P : Type 0) : Type 0 where
  pub port : Option ℕ
  pub ports : List ℕ
  pub hung_up : List P
  pub shut : List (Option (List P))

-- it listened at a port
abbrev pub with_port : {P : Type 0} → ℕ → Told P → Told P
with_port port t = record t { port = Some port }

-- it connected to a port
abbrev pub with_dial : {P : Type 0} → ℕ → Told P → Told P
with_dial port t = record t { ports = t.ports ++ port ∷ [] }

-- a connection was hung up
abbrev pub with_hung_up : {P : Type 0} → P → Told P → Told P
with_hung_up peer t = record t { hung_up = t.hung_up ++ peer ∷ [] }

-- a door was shut, which had told this
abbrev pub with_shut : {P : Type 0} → Option (List P) → Told P → Told P
with_shut finished t = record t { shut = t.shut ++ finished ∷ [] }

-- a connection that gave nothing, to which nothing was written, and that has not failed
pub record IsFresh (given written : Option (List ℕ)) (read_faults write_faults : ℕ) : Type 0 where
  pub given_none : IfSome given (λ bytes. bytes ≡ [])
  pub written_none : IfSome written (λ bytes. bytes ≡ [])
  pub reads : read_faults ≡ 0
  pub writes : write_faults ≡ 0

-- a door that took no connection back, and that has not failed
pub record IsUnused {P : Type 0} (finished : Option (List P)) (faults : ℕ) : Type 0 where
  pub finished_none : IfSome finished (λ peers. peers ≡ [])
  pub faultless : faults ≡ 0

-- the count of faults of a link that takes something back, which has failed so often: it rises exactly where that is above 0
pub record TakesBack (before now back : ℕ) : Type 0 where
  pub later : before ≤ now
  pub exact : Rose before now ↔ 0 < back
