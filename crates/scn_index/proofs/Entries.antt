-- Entries that are pushed at the back and dropped at the front.
use Rattle.std.proofs.Common.{◌≡◌, ℕ, ◌+◌, ◌-◌, ◌<◌, ◌≤◌, inl, inr, List, [], ◌∷◌, ◌++◌, length, length-append, length-drop, get_or, drop, refl, sym, ap, subst, ◌∙◌, arith}
use Rattle.std.proofs.lemmas.Bool.{cases_lt}
use Rattle.std.proofs.lemmas.List.{get_or-drop, get_or_append_left, get_or_push}
use Rattle.scn_index.specs.Index.{AreBelow, AreRising}

-- one more entry, above all others
pub rising_more : (es : List (ℕ × ℕ)) (e : ℕ × ℕ) → AreRising es → AreBelow e.0 es → AreRising (es ++ e ∷ [])
rising_more es e rising below i j d lt within =
    elim (cases_lt j (length es)) [
      | inl inside ↦ (
          let first = ap (λ (x : ℕ × ℕ). x.0) (get_or_append_left es (e ∷ []) d i (omega arith)) in
          let second = ap (λ (x : ℕ × ℕ). x.0) (get_or_append_left es (e ∷ []) d j inside) in
          omega (arith, first, second, rising i j d lt inside))
      | inr last ↦ (
          let long = length-append es (e ∷ []) in
          let first = ap (λ (x : ℕ × ℕ). x.0) (get_or_append_left es (e ∷ []) d i (omega (arith, long))) in
          let second = ap (λ (x : ℕ × ℕ). x.0) (get_or_push es e d j (omega (arith, long))) in
          omega (arith, first, second, below i d (omega (arith, long))))
    ]

-- those that are left behind a front
pub rising_less : (n : ℕ) (es : List (ℕ × ℕ)) → AreRising es → AreRising (drop n es)
rising_less n es rising i j d lt within =
    let first = ap (λ (x : ℕ × ℕ). x.0) (get_or-drop n es i d) in
    let second = ap (λ (x : ℕ × ℕ). x.0) (get_or-drop n es j d) in
    omega (arith, first, second, rising (n + i) (n + j) d (omega arith) (omega (arith, length-drop n es)))

-- a buffer that isn't full keeps all that is pushed
pub kept_all : (es : List (ℕ × ℕ)) (e : ℕ × ℕ) (capacity : ℕ) → length es < capacity → drop (length (es ++ e ∷ []) - capacity) (es ++ e ∷ []) ≡ es ++ e ∷ []
kept_all es e capacity room =
    let none : length (es ++ e ∷ []) - capacity ≡ 0 = omega (arith, length-append es (e ∷ [])) in
    ap (λ n. drop n (es ++ e ∷ [])) none
