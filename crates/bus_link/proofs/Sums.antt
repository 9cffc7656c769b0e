-- Counts over what was handed back.
use Rattle.std.proofs.Common.{◌≡◌, ℕ, ◌+◌, List, [], ◌∷◌, ◌++◌, subst, sym, arith}
use Rattle.bus_link.specs.Handed.{sum_over}
use Rattle.bus_link.specs.Links.{TakesBack}
use Rattle.bus_io.specs.Memory.{Wire}
use Rattle.bus_link.specs.Memory.{Linked, Doorway, faults_of, wire_faults, with_wire, with_door}

-- one more at the end counts by itself
pub sum_end : {X : Type 0} (f : X → ℕ) (xs : List X) (x : X) → sum_over f (xs ++ x ∷ []) ≡ sum_over f xs + f x
sum_end f [] x = omega arith
sum_end f (y ∷ xs) x = let more = sum_end f xs x in omega (arith, more)

-- a count that grew by so much rose exactly where that is above 0
takes_back : (before now back : ℕ) → now ≡ before + back → TakesBack before now back
takes_back before now back e = record { later = omega (arith, e); exact = ((λ rose. omega (arith, e, rose)), (λ some. omega (arith, e, some))) }

pub takes_wire : (s t : Linked) (w : Wire) → t ≡ with_wire w s → TakesBack (faults_of s) (faults_of t) (wire_faults w)
takes_wire s t w e = subst (λ x. TakesBack (faults_of s) (faults_of x) (wire_faults w)) (sym e)
    (let more = sum_end wire_faults s.hung_up.all w in takes_back _ _ _ (omega (arith, more)))

pub takes_door : (s t : Linked) (d : Doorway) → t ≡ with_door d s → TakesBack (faults_of s) (faults_of t) d.faults
takes_door s t d e = subst (λ x. TakesBack (faults_of s) (faults_of x) d.faults) (sym e)
    (let more = sum_end (λ d. d.faults) s.shut.all d in takes_back _ _ _ (omega (arith, more)))

-- one more in the middle sum, and one more in the last
pub takes_middle : {X : Type 0} (f : X → ℕ) (own last : ℕ) (xs ys : List X) (x : X) → ys ≡ xs ++ x ∷ []
    → TakesBack (own + sum_over f xs + last) (own + sum_over f ys + last) (f x)
takes_middle f own last xs ys x e = subst (λ zs. TakesBack (own + sum_over f xs + last) (own + sum_over f zs + last) (f x)) (sym e)
    (let more = sum_end f xs x in takes_back _ _ _ (omega (arith, more)))

pub takes_last : {X : Type 0} (f : X → ℕ) (first : ℕ) (xs ys : List X) (x : X) → ys ≡ xs ++ x ∷ []
    → TakesBack (first + sum_over f xs) (first + sum_over f ys) (f x)
takes_last f first xs ys x e = subst (λ zs. TakesBack (first + sum_over f xs) (first + sum_over f zs) (f x)) (sym e)
    (let more = sum_end f xs x in takes_back _ _ _ (omega (arith, more)))

pub ruleset sums = (takes_wire, takes_door)
