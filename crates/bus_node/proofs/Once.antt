-- As many options as there are names, with each name's among them: no other stands, and none stands twice.
use Rattle.std.proofs.Common.{◌≡◌, ◌∙◌, ◌≤◌, ℕ, suc, Bool, true, false, cond, List, [], ◌∷◌, length, Option, Some, refl, sym, ap, subst, arith, true≢false}
use Rattle.std.specs.List.{list_any}
use Rattle.std.specs.Str.{bytes_eq}
use Rattle.std.specs.Option.{unwrap_or}
use Rattle.std.proofs.lemmas.Slice.Eq.{bytes_eq-Decides}
use Rattle.bus_node.specs.Words.{Pair, value_of, option_word}
use Rattle.bus_node.specs.Options.{AreNames}

-- each element of a list, from the front on
abbrev pub Each : {A : Type 0} → (A → Type 0) → List A → Type 0
Each P [] = Unit {0}
Each P (x ∷ xs) = P x × Each P xs

pub each_more : {A : Type 0} (P Q : A → Type 0) (xs : List A) → ((x : A) → P x → Q x) → Each P xs → Each Q xs
each_more P Q [] f h = tt
each_more P Q (x ∷ xs) f h = (f x h.0, each_more P Q xs f h.1)

pub same_text : (a : List ℕ) → bytes_eq a a ≡ true
same_text a = (bytes_eq-Decides a a).1 refl

pub other_way : (a b : List ℕ) → bytes_eq a b ≡ false → bytes_eq b a ≡ false
other_way a b h = go (bytes_eq b a) refl
  where
    go : (t : Bool) → bytes_eq b a ≡ t → bytes_eq b a ≡ false
    go false e = e
    go true e =
        let same : b ≡ a = (bytes_eq-Decides b a).0 e in
        let bad : bytes_eq a b ≡ true = (bytes_eq-Decides a b).1 (sym same) in
        absurd (true≢false (sym bad ∙ h))

some_is : (a b : List ℕ) → Some a ≡ Some b → a ≡ b
some_is a b e = ap (λ (o : Option (List ℕ)). unwrap_or o a) e

-- how often the option of a name stands, and how often a name does
abbrev pub times : List ℕ → List Pair → ℕ
times x [] = 0
times x (p ∷ ps) = cond (bytes_eq p.0 (option_word x)) (suc (times x ps)) (times x ps)

abbrev pub times_named : List ℕ → List (List ℕ) → ℕ
times_named x [] = 0
times_named x (n ∷ ns) = cond (bytes_eq n x) (suc (times_named x ns)) (times_named x ns)

-- pairs without the first one of a name
abbrev without_first : List ℕ → List Pair → List Pair
without_first n [] = []
without_first n (p ∷ ps) = cond (bytes_eq p.0 (option_word n)) ps (p ∷ without_first n ps)

-- what the option of a name says, with a property of it
abbrev pub Stands : (Pair → Type 0) → List Pair → List ℕ → Type 0
Stands Q pairs n = (v : List ℕ) × (value_of (option_word n) pairs ≡ Some v) × Q (option_word n, v)

one_less : (n v : List ℕ) (pairs : List Pair) → value_of (option_word n) pairs ≡ Some v → suc (length (without_first n pairs)) ≡ length pairs
one_less n v [] h = cc
one_less n v (p ∷ ps) h = go (bytes_eq p.0 (option_word n)) refl (λ k. one_less n v ps k)
  where
    go : (t : Bool) → bytes_eq p.0 (option_word n) ≡ t → (value_of (option_word n) ps ≡ Some v → suc (length (without_first n ps)) ≡ length ps)
        → suc (length (without_first n (p ∷ ps))) ≡ length (p ∷ ps)
    go true e rest = rw e refl
    go false e rest = rw e (ap suc (rest (rw e at h)))

one_time_less : (n v x : List ℕ) (pairs : List Pair) → value_of (option_word n) pairs ≡ Some v
    → times x pairs ≡ cond (bytes_eq n x) (suc (times x (without_first n pairs))) (times x (without_first n pairs))
one_time_less n v x [] h = cc
one_time_less n v x (p ∷ ps) h = go (bytes_eq p.0 (option_word n)) refl (λ k. one_time_less n v x ps k)
  where
    turn : (a b : Bool) (k l : ℕ) → k ≡ cond b (suc l) l → cond a (suc k) k ≡ cond b (suc (cond a (suc l) l)) (cond a (suc l) l)
    turn true true k l e = ap suc e
    turn true false k l e = ap suc e
    turn false true k l e = e
    turn false false k l e = e

    go : (t : Bool) → bytes_eq p.0 (option_word n) ≡ t
        → (value_of (option_word n) ps ≡ Some v → times x ps ≡ cond (bytes_eq n x) (suc (times x (without_first n ps))) (times x (without_first n ps)))
        → times x (p ∷ ps) ≡ cond (bytes_eq n x) (suc (times x (without_first n (p ∷ ps)))) (times x (without_first n (p ∷ ps)))
    go true e rest =
        let is : p.0 ≡ option_word n = (bytes_eq-Decides p.0 (option_word n)).0 e in
        rw e (ap (λ (w : List ℕ). cond (bytes_eq w (option_word x)) (suc (times x ps)) (times x ps)) is)
    go false e rest = rw e (turn (bytes_eq p.0 (option_word x)) (bytes_eq n x) (times x ps) (times x (without_first n ps)) (rest (rw e at h)))

others_say : (n m : List ℕ) (pairs : List Pair) → bytes_eq n m ≡ false → value_of (option_word m) (without_first n pairs) ≡ value_of (option_word m) pairs
others_say n m [] apart = refl
others_say n m (p ∷ ps) apart = go (bytes_eq p.0 (option_word n)) refl (others_say n m ps apart)
  where
    go : (t : Bool) → bytes_eq p.0 (option_word n) ≡ t → value_of (option_word m) (without_first n ps) ≡ value_of (option_word m) ps
        → value_of (option_word m) (without_first n (p ∷ ps)) ≡ value_of (option_word m) (p ∷ ps)
    go true e rest =
        let is : p.0 ≡ option_word n = (bytes_eq-Decides p.0 (option_word n)).0 e in
        let no : bytes_eq p.0 (option_word m) ≡ false = ap (λ (w : List ℕ). bytes_eq w (option_word m)) is ∙ apart in
        rw (e, no) refl
    go false e rest = rw e (ap (λ (o : Option (List ℕ)). cond (bytes_eq p.0 (option_word m)) (Some p.1) o) rest)

with_first : (Q : Pair → Type 0) (n v : List ℕ) (pairs : List Pair) → value_of (option_word n) pairs ≡ Some v → Q (option_word n, v)
    → Each Q (without_first n pairs) → Each Q pairs
with_first Q n v [] h q rest = tt
with_first Q n v (p ∷ ps) h q rest = go (bytes_eq p.0 (option_word n)) refl (λ k l. with_first Q n v ps k q l)
  where
    go : (t : Bool) → bytes_eq p.0 (option_word n) ≡ t → (value_of (option_word n) ps ≡ Some v → Each Q (without_first n ps) → Each Q ps) → Each Q (p ∷ ps)
    go true e on =
        let name : option_word n ≡ p.0 = sym ((bytes_eq-Decides p.0 (option_word n)).0 e) in
        let says : v ≡ p.1 = some_is v p.1 (sym (rw e at h)) in
        let pair : ◌≡◌ {A = Pair} (option_word n, v) p = λ i. (name i, says i) in
        (subst Q pair q, rw e at rest)
    go false e on =
        let kept : Each Q (p ∷ without_first n ps) = rw e at rest in
        (kept.0, on (rw e at h) kept.1)

stand_without : (Q : Pair → Type 0) (n : List ℕ) (pairs : List Pair) (names : List (List ℕ)) → list_any (λ other. bytes_eq n other) names ≡ false
    → Each (Stands Q pairs) names → Each (Stands Q (without_first n pairs)) names
stand_without Q n pairs [] apart h = tt
stand_without Q n pairs (m ∷ ms) apart h = go (bytes_eq n m) refl (λ k. stand_without Q n pairs ms k h.1)
  where
    go : (t : Bool) → bytes_eq n m ≡ t → (list_any (λ other. bytes_eq n other) ms ≡ false → Each (Stands Q (without_first n pairs)) ms)
        → Each (Stands Q (without_first n pairs)) (m ∷ ms)
    go true e rest =
        let bad : true ≡ false = rw e at apart in
        absurd (true≢false bad)
    go false e rest = ((h.0.0, others_say n m pairs e ∙ h.0.1, h.0.2), rest (rw e at apart))

-- where each name stands among as many pairs, each pair has the property, and each name stands as often as it is named
pub once_each : (Q : Pair → Type 0) (names : List (List ℕ)) (pairs : List Pair) → length pairs ≡ length names → AreNames names → Each (Stands Q pairs) names
    → Each Q pairs × ((x : List ℕ) → times x pairs ≡ times_named x names)
once_each Q [] [] size apart h = (tt, λ x. refl)
once_each Q [] (p ∷ ps) size apart h = absurd (omega (arith, size))
once_each Q (n ∷ ns) pairs size apart h =
    let less : suc (length (without_first n pairs)) ≡ length pairs = one_less n h.0.0 pairs h.0.1 in
    let rest = once_each Q ns (without_first n pairs) (omega (arith, less, size)) apart.2 (stand_without Q n pairs ns apart.1 h.1) in (
      with_first Q n h.0.0 pairs h.0.1 h.0.2 rest.0,
      λ x. one_time_less n h.0.0 x pairs h.0.1 ∙ ap (λ (k : ℕ). cond (bytes_eq n x) (suc k) k) (rest.1 x),
    )

not_named : (n : List ℕ) (names : List (List ℕ)) → list_any (λ other. bytes_eq n other) names ≡ false → times_named n names ≡ 0
not_named n [] apart = refl
not_named n (m ∷ ms) apart = go (bytes_eq n m) refl (λ k. not_named n ms k)
  where
    go : (t : Bool) → bytes_eq n m ≡ t → (list_any (λ other. bytes_eq n other) ms ≡ false → times_named n ms ≡ 0) → times_named n (m ∷ ms) ≡ 0
    go true e rest =
        let bad : true ≡ false = rw e at apart in
        absurd (true≢false bad)
    go false e rest =
        let other : bytes_eq m n ≡ false = other_way n m e in
        rw other (rest (rw e at apart))

-- no name stands twice
pub named_once : (x : List ℕ) (names : List (List ℕ)) → AreNames names → times_named x names ≤ 1
named_once x [] apart = omega arith
named_once x (n ∷ ns) apart = go (bytes_eq n x) refl (named_once x ns apart.2)
  where
    go : (t : Bool) → bytes_eq n x ≡ t → times_named x ns ≤ 1 → times_named x (n ∷ ns) ≤ 1
    go true e rest =
        let is : n ≡ x = (bytes_eq-Decides n x).0 e in
        let none : times_named x ns ≡ 0 = subst (λ (w : List ℕ). times_named w ns ≡ 0) is (not_named n ns apart.1) in
        rw e (omega (arith, none))
    go false e rest = rw e rest
