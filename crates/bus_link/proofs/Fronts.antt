-- The front of a list that is kept.
use Rattle.std.proofs.Common.{◌≡◌, ℕ, ◌<◌, ◌≤◌, List, [], ◌∷◌, ◌++◌, length, take, sym, ap, ◌∙◌, arith, length-append}
use Rattle.std.proofs.lemmas.List.{take_all, take-append-le, length-take}

-- a list that is shorter than the room stands whole in the front
whole : {X : Type 0} (room : ℕ) (kept all : List X) → kept ≡ take room all → length kept < room → length all ≤ room
whole room kept all front below = let len = ap length front ∙ length-take room all in omega (arith, len, below)

-- where the room isn't full, one more is kept
pub keeps_one : {X : Type 0} (room : ℕ) (kept all : List X) (x : X) → kept ≡ take room all → length kept < room → kept ++ x ∷ [] ≡ take room (all ++ x ∷ [])
keeps_one room kept all x front below = let few = whole room kept all front below in
    ap (λ xs. xs ++ x ∷ []) (front ∙ take_all room all few)
    ∙ sym (take_all room (all ++ x ∷ []) (let len = length-append all (x ∷ []) in let short = ap length (front ∙ take_all room all few) in omega (arith, len, below, short)))

-- where the room is full, no more is kept
pub keeps_none : {X : Type 0} (room : ℕ) (kept all : List X) (x : X) → kept ≡ take room all → room ≤ length kept → kept ≡ take room (all ++ x ∷ [])
keeps_none room kept all x front full = front ∙ sym (take-append-le room all (x ∷ []) (let len = ap length front ∙ length-take room all in omega (arith, len, full)))

pub ruleset fronts = (keeps_one, keeps_none)
