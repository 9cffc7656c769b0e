-- Texts whose bytes pass a test.
use Rattle.std.proofs.Common.{◌≡◌, ℕ, Bool, true, List, [], ◌∷◌, ◌++◌, refl, ◌∙◌}
use Rattle.std.specs.List.{list_all, AllByRecursion, join_with_byte}
use Rattle.std.proofs.lemmas.Bool.{and_parts, and_from}
use Rattle.std.proofs.lemmas.List.Folds.{list_all-append}

-- a test that is weaker
pub list_all-weaker : (p q : ℕ → Bool) → ((b : ℕ) → p b ≡ true → q b ≡ true) → (bytes : List ℕ) → list_all p bytes ≡ true → list_all q bytes ≡ true
list_all-weaker p q each [] h = refl
list_all-weaker p q each (b ∷ bs) h =
    let parts = and_parts (p b) (list_all p bs) h in
    and_from (q b) (list_all q bs) (each b parts.0) (list_all-weaker p q each bs parts.1)

-- one text behind another
pub list_all-both : (test : ℕ → Bool) (xs ys : List ℕ) → list_all test xs ≡ true → list_all test ys ≡ true → list_all test (xs ++ ys) ≡ true
list_all-both test xs ys h k = list_all-append test xs ys ∙ and_from (list_all test xs) (list_all test ys) h k

-- joined texts pass a test that each of them and the byte between pass
pub list_all-join : (test : ℕ → Bool) (byte : ℕ) (texts : List (List ℕ)) → test byte ≡ true → AllByRecursion (λ text. list_all test text ≡ true) texts
    → list_all test (join_with_byte byte texts) ≡ true
list_all-join test byte [] between h = refl
list_all-join test byte (text ∷ []) between h = h.0
list_all-join test byte (text ∷ next ∷ texts) between h =
    list_all-both test text (byte ∷ join_with_byte byte (next ∷ texts)) h.0
    (and_from (test byte) (list_all test (join_with_byte byte (next ∷ texts))) between (list_all-join test byte (next ∷ texts) between h.1))

-- ---- each element of a list

-- a property that is weaker
pub each_weaker : {X : Type 0} (P Q : X → Type 0) → ((x : X) → P x → Q x) → (xs : List X) → AllByRecursion P xs → AllByRecursion Q xs
each_weaker P Q weaker [] h = tt
each_weaker P Q weaker (x ∷ xs) h = (weaker x h.0, each_weaker P Q weaker xs h.1)

-- two properties
pub each_both : {X : Type 0} (P Q : X → Type 0) (xs : List X) → AllByRecursion P xs → AllByRecursion Q xs → AllByRecursion (λ x. P x × Q x) xs
each_both P Q [] h k = tt
each_both P Q (x ∷ xs) h k = ((h.0, k.0), each_both P Q xs h.1 k.1)
