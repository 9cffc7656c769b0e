-- The connections that a door accepted and took back, each served to its end.
use Rattle.std.specs.Prelude.{◌≡◌, ℕ, List, [], ◌∷◌, ◌++◌, Option, option_map}
use Rattle.bus_http.specs.declared.service.ServeEnd.{ServeEnd}
use Rattle.bus_node.specs.Exchange.{IsNew}

-- one connection that was served: as it was handed back, how it ended, and the state that it left
pub record Visit (P State : Type 0) : Type 0 where
  pub peer : P
  pub end : ServeEnd
  pub state : State

module _ {P State : Type 0} (serves : State → State → Option (List ℕ) → Option (List ℕ) → Option (List ℕ) → Option (List ℕ) → Option (List ℕ) → Option (List ℕ) → ServeEnd → Type 0)
    (given left written : P → Option (List ℕ)) where
  -- a new connection, which gave nothing and to which nothing was written, was served from a state on
  pub record IsVisit (s : State) (v : Visit P State) : Type 0 where
    pub before : P
    pub new : IsNew given left written before
    pub served : serves s v.state (given before) (given v.peer) (left before) (left v.peer) (written before) (written v.peer) v.end

  -- one connection after another was
  abbrev pub Visits : State → State → List (Visit P State) → Type 0
  Visits s t [] = t ≡ s
  Visits s t (v ∷ vs) = IsVisit s v × Visits v.state t vs

  -- one more was, and was handed back
  pub record Visited (before after : Option (List P)) (s t : State) (end : ServeEnd) : Type 0 where
    pub peer : P
    pub finished : after ≡ option_map (λ peers. peers ++ peer ∷ []) before
    pub visit : IsVisit s (record { peer = peer; end = end; state = t })
