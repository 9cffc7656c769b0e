-- What a source gives into an inbox, and how the head at its front comes.
use Rattle.std.specs.Prelude.{◌≡◌, ℕ, ◌<◌, ◌≤◌, List, ◌++◌, length, Option, Some, None}
use Rattle.std.specs.Io.KnownBytes.{Consumes, Appends, IsAtEnd}
use Rattle.bus_http.specs.declared.coming.Coming.{Coming}
use Rattle.bus_http.specs.declared.coming.Coming.TheVariants.{Whole, TooLong, Ended}
use Rattle.bus_http.specs.Ending.{most_head, head_end}

-- bytes that a source gave were put behind those that were held
pub record Draws (left_old left_new given_old given_new : Option (List ℕ)) (old new : List ℕ) : Type 0 where
  pub came : List ℕ
  pub held : new ≡ old ++ came
  pub left : Consumes left_old left_new came
  pub given : Appends given_old given_new came

-- some bytes were given
pub record Drew (left_old left_new given_old given_new : Option (List ℕ)) : Type 0 where
  pub came : List ℕ
  pub left : Consumes left_old left_new came
  pub given : Appends given_old given_new came

-- a whole head stands at the front of what is held, however the input goes on
pub record HoldsHead (end : ℕ) (held : List ℕ) : Type 0 where
  pub within : end ≤ length held
  pub ends : (rest : List ℕ) → head_end (held ++ rest) ≡ Some end

-- as many bytes as a head has at most hold no end of one
pub record HoldsNone (held : List ℕ) : Type 0 where
  pub full : length held ≡ most_head
  pub none : head_end held ≡ None

-- the input ended before the end of a head
pub record HoldsPart (held : List ℕ) (left : Option (List ℕ)) : Type 0 where
  pub short : length held < most_head
  pub none : head_end held ≡ None
  pub ended : IsAtEnd left

-- what came, of what is held and what the source has left
abbrev pub Comes : Coming → List ℕ → Option (List ℕ) → Type 0
Comes (Whole end) held left = HoldsHead end held
Comes TooLong held left = HoldsNone held
Comes Ended held left = HoldsPart held left
