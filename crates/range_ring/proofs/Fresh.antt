-- Lists of one value.
use Rattle.std.proofs.Common.{◌≡◌, ℕ, zero, suc, List, [], ◌∷◌, ◌++◌, length, refl, sym, ap, ◌∙◌}
use Rattle.std.specs.Prelude.{replicate}

one_more : {A : Type 0} → (n : ℕ) (a : A) → replicate n a ++ a ∷ [] ≡ replicate (suc n) a
one_more zero a = refl
one_more (suc n) a = ap (λ xs. a ∷ xs) (one_more n a)

long : {A : Type 0} → (xs : List A) (a : A) → length (xs ++ a ∷ []) ≡ suc (length xs)
long [] a = refl
long (x ∷ xs) a = ap suc (long xs a)

pub all_same : {A : Type 0} → (xs : List A) (a b : A) → xs ≡ replicate (length xs) a → b ≡ a → xs ++ b ∷ [] ≡ replicate (length (xs ++ b ∷ [])) a
all_same xs a b h e = ap (λ c. xs ++ c ∷ []) e ∙ ap (λ ys. ys ++ a ∷ []) h ∙ one_more (length xs) a ∙ ap (λ n. replicate n a) (sym (long xs b))
