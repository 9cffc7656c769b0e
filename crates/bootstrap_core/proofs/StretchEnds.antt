-- Where stretches of windows begin and end: at places of the windows, and behind an SCN up to another.
use Rattle.std.proofs.Common.{◌≡◌, ℕ, zero, suc, ◌<◌, ◌≤◌, inl, inr, true, ◌==◌, nat_lt, nat_le, List, [], ◌∷◌, length, take, map, Some, None, refl, sym, ap, subst, ◌∙◌, arith}
use Rattle.std.specs.List.{list_any}
use Rattle.std.proofs.lemmas.Bool.{cond-true, cond-false, or_cases, or_left, or_right, eqb-true, eq-eqb, lt-ltb, le-ltb, le-leb, lt-leb, cases_lt}
use Rattle.std.proofs.lemmas.List.{take_all}
use Rattle.bus_types.specs.Window.{Span}
use Rattle.bus_types.specs.Timeline.{IsTimelineFrom, end_from, windows_between}
use Rattle.bus_types.specs.Relay.{is_place}
use Rattle.bus_types.proofs.Stretches.{Rises, between_in, between_below, between_above, between_cases, rises_from, rises_before, between-between, between_timeline}
use Rattle.bus_types.proofs.Floors.{between-after}
use Rattle.bus_stores.specs.Log.{first_after}
use Rattle.bootstrap_core.specs.Trimming.{scn_upto}

-- ---- places

-- a number is the first one or the SCN of a window
abbrev Among : ℕ → ℕ → List Span → Type 0
Among n first ws = list_any (λ m. m == n) (first ∷ map (λ w. w.scn) ws) ≡ true

among_more : (n first : ℕ) (w : Span) (ws : List Span) → Among n first ws → Among n first (w ∷ ws)
among_more n first w ws h =
    let rest = list_any (λ m. m == n) (map (λ (v : Span). v.scn) ws) in
    let more = list_any (λ m. m == n) (w.scn ∷ map (λ (v : Span). v.scn) ws) in
    elim (or_cases (first == n) rest h) [
      | inl same ↦ or_left (first == n) more same
      | inr later ↦ or_right (first == n) more (or_right (w.scn == n) rest later)
    ]

among_first : (first : ℕ) (ws : List Span) → Among first first ws
among_first first ws = or_left (first == first) (list_any (λ m. m == first) (map (λ (v : Span). v.scn) ws)) (eq-eqb first first refl)

run_first : (first k : ℕ) (w : Span) (run ws : List Span) → ((j : ℕ) → Among (end_from w.scn (take j run)) w.scn ws) → Among (end_from first (take k (w ∷ run))) first (w ∷ ws)
run_first first zero w run ws h = among_first first (w ∷ ws)
run_first first (suc j) w run ws h = or_right (first == end_from w.scn (take j run)) _ (h j)

-- a run of windows ends at one of them, or where it began
run_end : (first low high k : ℕ) (ws : List Span) → Among (end_from first (take k (windows_between low high ws))) first ws
run_end first low high zero [] = among_first first []
run_end first low high (suc k) [] = among_first first []
run_end first low high k (w ∷ ws) =
    let rest = among_more (end_from first (take k (windows_between low high ws))) first w ws (run_end first low high k ws) in
    between_cases (λ l. Among (end_from first (take k l)) first (w ∷ ws)) low high w ws (λ l h. run_first first k w (windows_between low high ws) ws (λ j. run_end w.scn low high j ws)) (λ l. rest) (λ h. rest)

among_place : (first n : ℕ) (ws : List Span) → is_place first ws ≡ true → Among n first ws → is_place n ws ≡ true
among_place first n ws p h =
    let rest = list_any (λ m. m == n) (map (λ (v : Span). v.scn) ws) in
    elim (or_cases (first == n) rest h) [
      | inl same ↦ subst (λ m. is_place m ws ≡ true) (eqb-true first n same) p
      | inr later ↦ or_right (0 == n) rest later
    ]

-- a run behind a place ends at a place
pub run_end_place : (first low high k : ℕ) (ws : List Span) → is_place first ws ≡ true → is_place (end_from first (take k (windows_between low high ws))) ws ≡ true
run_end_place first low high k ws p = among_place first (end_from first (take k (windows_between low high ws))) ws p (run_end first low high k ws)

-- as do all windows up to an SCN
pub stretch_end_place : (first low high : ℕ) (ws : List Span) → is_place first ws ≡ true → is_place (end_from first (windows_between low high ws)) ws ≡ true
stretch_end_place first low high ws p =
    let stretch = windows_between low high ws in
    subst (λ (run : List Span). is_place (end_from first run) ws ≡ true) (take_all (length stretch) stretch (omega arith)) (run_end_place first low high (length stretch) ws p)

begins_at : (floor high other : ℕ) (ws stretch : List Span) → IsTimelineFrom floor stretch → IsTimelineFrom other stretch → end_from floor stretch ≡ high → is_place high ws ≡ true → is_place other ws ≡ true → is_place floor ws ≡ true
begins_at floor high other ws [] s t e h o = subst (λ m. is_place m ws ≡ true) (sym e) h
begins_at floor high other ws (w ∷ stretch) s t e h o = subst (λ m. is_place m ws ≡ true) (sym t.0.chained ∙ s.0.chained) o

-- a log whose windows are those of a timeline begins at a place of it, if it ends at one
pub floor_place : (floor high : ℕ) (ws : List Span) → IsTimelineFrom 0 ws → IsTimelineFrom floor (windows_between floor high ws) → end_from floor (windows_between floor high ws) ≡ high → is_place high ws ≡ true → is_place floor ws ≡ true
floor_place floor high ws t s e h =
    let before = end_from 0 (windows_between 0 floor ws) in
    begins_at floor high before ws (windows_between floor high ws) s (between_timeline 0 floor high ws t) e h (stretch_end_place 0 0 floor ws (among_first 0 ws))

-- ---- stretches within another

-- a stretch within another is one of all windows
pub between_within : (floor low upto high : ℕ) (ws : List Span) → floor ≤ low → upto ≤ high → windows_between low upto (windows_between floor high ws) ≡ windows_between low upto ws
between_within floor low upto high ws l h =
    sym (between-between low upto high (windows_between floor high ws) h)
    ∙ ap (windows_between low upto) (between-after floor low high ws l)
    ∙ between-between low upto high ws h

-- ---- the next window up to an SCN

first_in : (scn : ℕ) (w : Span) (ws : List Span) → scn < w.scn → first_after scn (w ∷ ws) ≡ Some w
first_in scn w ws l = cond-true (nat_lt scn w.scn) (Some w) (first_after scn ws) (lt-ltb scn w.scn l)

first_past : (scn : ℕ) (w : Span) (ws : List Span) → w.scn ≤ scn → first_after scn (w ∷ ws) ≡ first_after scn ws
first_past scn w ws l = cond-false (nat_lt scn w.scn) (Some w) (first_after scn ws) (le-ltb scn w.scn l)

-- where there is one, the windows up to the SCN end with those behind it
pub upto_some : (prev scn upto n : ℕ) (ws : List Span) → Rises prev ws → scn < n → Some n ≡ scn_upto upto (first_after scn ws) → end_from scn (windows_between scn upto ws) ≡ end_from n (windows_between n upto ws)
upto_some prev scn upto n [] r above e = absurd (cc)
upto_some prev scn upto n (w ∷ ws) r above e =
    elim (cases_lt scn w.scn) [
      | inl l ↦
          let is = e ∙ ap (scn_upto upto) (first_in scn w ws l) in
          elim (cases_lt upto w.scn) [
            | inl h ↦ let none = is ∙ cond-false (nat_le w.scn upto) (Some w.scn) None (lt-leb w.scn upto h) in absurd (cc)
            | inr h ↦
                let some = is ∙ cond-true (nat_le w.scn upto) (Some w.scn) None (le-leb w.scn upto h) in
                let same : w.scn ≡ n = cc in
                ap (end_from scn) (between_in scn upto w ws l h)
                ∙ ap (end_from w.scn) (rises_from w.scn scn w.scn upto ws r.1 (omega arith) (omega arith) ∙ sym (between_below w.scn upto w ws (omega arith)))
                ∙ ap (λ m. end_from m (windows_between m upto (w ∷ ws))) same
          ]
      | inr l ↦
          ap (end_from scn) (between_below scn upto w ws l)
          ∙ upto_some w.scn scn upto n ws r.1 above (e ∙ ap (scn_upto upto) (first_past scn w ws l))
          ∙ ap (end_from n) (sym (between_below n upto w ws (omega arith)))
    ]

-- where there is none, no window is behind the one SCN up to the other
pub upto_none : (prev scn upto : ℕ) (ws : List Span) → Rises prev ws → None ≡ scn_upto upto (first_after scn ws) → windows_between scn upto ws ≡ []
upto_none prev scn upto [] r e = refl
upto_none prev scn upto (w ∷ ws) r e =
    elim (cases_lt scn w.scn) [
      | inl l ↦
          let is = e ∙ ap (scn_upto upto) (first_in scn w ws l) in
          elim (cases_lt upto w.scn) [
            | inl h ↦ between_above scn upto w ws h ∙ rises_before w.scn scn upto ws r.1 (omega arith)
            | inr h ↦ let some = is ∙ cond-true (nat_le w.scn upto) (Some w.scn) None (le-leb w.scn upto h) in absurd (cc)
          ]
      | inr l ↦ between_below scn upto w ws l ∙ upto_none w.scn scn upto ws r.1 (e ∙ ap (scn_upto upto) (first_past scn w ws l))
    ]
