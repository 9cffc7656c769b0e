-- Connections that are new.
use Rattle.std.proofs.Common.{◌≡◌, suc, List, ◌++◌, Option, Some, None, arith, subst}
use Rattle.std.specs.Prelude.{All, option_to_list}
use Rattle.std.proofs.lemmas.List.Elements.{All-push}
use Rattle.bus_io.specs.Memory.{Wire}
use Rattle.bus_link.specs.Memory.{IsNewWire}

-- behind the first connection the others are new too
pub others_new : (first : Option Wire) (all rest : List Wire) → all ≡ option_to_list first ++ rest → All IsNewWire all → All IsNewWire rest
others_new None all rest split new = subst (λ xs. All IsNewWire xs) split new
others_new (Some x) all rest split new = let moved = subst (λ xs. All IsNewWire xs) split new in
    λ k d below. moved (suc k) d (omega (arith, below))

pub ruleset more = (All-push)
