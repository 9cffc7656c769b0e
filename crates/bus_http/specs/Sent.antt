-- What was written of a text.
use Rattle.std.specs.Prelude.{ℕ, List, Option, Result, Ok, Err}
use Rattle.std.specs.Io.KnownBytes.{Appends}
use Rattle.bus_http.specs.Talks.{IsFront}

-- a front of a text was written that isn't the whole of it
pub record WroteFront (old new : Option (List ℕ)) (text : List ℕ) : Type 0 where
  pub said : List ℕ
  pub front : IsFront said text
  pub written : Appends old new said

-- a text was written, or after a fault a front of it that isn't the whole of it
abbrev pub Sends : {T E : Type 0} → Result T E → Option (List ℕ) → Option (List ℕ) → List ℕ → Type 0
Sends (Ok x) old new text = Appends old new text
Sends (Err e) old new text = WroteFront old new text
