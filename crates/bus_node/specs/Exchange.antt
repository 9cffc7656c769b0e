-- One ask and its answer over a connection of a link.
use Rattle.std.specs.Prelude.{◌≡◌, ℕ, ◌⊎◌, List, [], ◌++◌, Option, option_map, IfSome}
use Rattle.std.specs.Io.KnownBytes.{Appends, IsAtEnd}
use Rattle.bus_link.specs.Links.{Told, with_dial, with_hung_up}
use Rattle.bus_wire.specs.declared.ask.Ask.{Ask}
use Rattle.bus_http.specs.Asking.{ask_text}
use Rattle.bus_http.specs.Answers.{IsAnswer, HasNoAnswer}

-- a link connected to a port, and took the connection back
abbrev pub with_exchange : {P : Type 0} → ℕ → P → Told P → Told P
with_exchange port peer t = with_hung_up peer (with_dial port t)

-- it did, and the connection is then so
abbrev pub Exchanged : (P : Type 0) → (P → Type 0) → ℕ → Option (Told P) → Option (Told P) → Type 0
Exchanged P Is port before after = (peer : P) × (after ≡ option_map (with_exchange port peer) before) × Is peer

-- it did, or it did not connect
abbrev pub HandedBack : (P : Type 0) → ℕ → Option (Told P) → Option (Told P) → Type 0
HandedBack P port before after = (after ≡ before) ⊎ ((peer : P) × (after ≡ option_map (with_exchange port peer) before))

-- a connection gave an answer with this body
pub record Gives (before after : Option (List ℕ)) (body : List ℕ) : Type 0 where
  pub came : List ℕ
  pub given : Appends before after came
  pub rest : List ℕ
  pub answer : IsAnswer came body rest

-- a connection gave no answer, whatever follows or at its end
pub record GivesNone (before after left : Option (List ℕ)) : Type 0 where
  pub came : List ℕ
  pub given : Appends before after came
  pub none : ((more : List ℕ) → HasNoAnswer (came ++ more)) ⊎ (IsAtEnd left × HasNoAnswer came)

module _ {P : Type 0} (given left written : P → Option (List ℕ)) where
  -- a connection gave nothing, and nothing was written to it
  pub record IsNew (peer : P) : Type 0 where
    pub gave_none : IfSome (given peer) (λ bytes. bytes ≡ [])
    pub wrote_none : IfSome (written peer) (λ text. text ≡ [])

  -- to a new connection this ask was written, and it gave an answer with this body
  pub record IsAnswered (ask : Ask) (body : List ℕ) (peer : P) : Type 0 where
    pub before : P
    pub new : IsNew before
    pub asked : Appends (written before) (written peer) (ask_text ask)
    pub gives : Gives (given before) (given peer) body

  -- to a new connection this ask was written, and it gave no answer
  pub record IsMisanswered (ask : Ask) (peer : P) : Type 0 where
    pub before : P
    pub new : IsNew before
    pub asked : Appends (written before) (written peer) (ask_text ask)
    pub gives : GivesNone (given before) (given peer) (left peer)
