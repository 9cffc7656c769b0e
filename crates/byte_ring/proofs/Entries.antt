-- The entries of windows that are evicted at the front and pushed at the back.
use Rattle.std.proofs.Common.{◌≡◌, ℕ, ◌+◌, ◌*◌, ◌%◌, ◌<◌, ◌≤◌, Bool, true, false, cond, eqb, suc, List, [], ◌∷◌, ◌++◌, append-nil, append_assoc, length, drop, refl, sym, ap, ◌∙◌, add-zero, arith}
use Rattle.std.proofs.lemmas.Bool.{eqb-true, eqb-false}
use Rattle.std.proofs.lemmas.List.Elements.{All-nil, All-cons, All-append}
use Rattle.bus_types.specs.Window.{Span}
use Rattle.bus_types.specs.Timeline.{end_from}
use Rattle.bus_types.proofs.Stretches.{Rises, rises_end}
use Rattle.scn_index.specs.Index.{AreBelow}
use Rattle.byte_ring.specs.Kept.{entry_of, dropped, entries_of}

drop_entry : (b : Bool) (e : ℕ × ℕ) (rest : List (ℕ × ℕ)) → drop (cond b 1 0) (cond b (e ∷ []) [] ++ rest) ≡ rest
drop_entry true e rest = refl
drop_entry false e rest = refl

-- without the first window
pub entries_less : (n scn : ℕ) (w : Span) (ws : List Span) → drop (dropped n) (entries_of n scn (w ∷ ws)) ≡ entries_of (n + 1) w.scn ws
entries_less n scn w ws = drop_entry (eqb (n % 16) 0) (scn, n) (entries_of (n + 1) w.scn ws)

-- with one more window
pub entries_more : (n scn : ℕ) (ws : List Span) (w : Span) → entries_of n scn (ws ++ w ∷ []) ≡ entries_of n scn ws ++ entry_of (n + length ws) (end_from scn ws)
entries_more n scn [] w = append-nil (entry_of n scn) ∙ ap (λ m. entry_of m scn) (sym (add-zero n))
entries_more n scn (v ∷ ws) w =
    let next : (n + 1) + length ws ≡ n + length (v ∷ ws) = omega arith in
    ap (λ (rest : List (ℕ × ℕ)). entry_of n scn ++ rest) (entries_more (n + 1) v.scn ws w ∙ ap (λ m. entries_of (n + 1) v.scn ws ++ entry_of m (end_from v.scn ws)) next)
    ∙ sym (append_assoc (entry_of n scn) (entries_of (n + 1) v.scn ws) (entry_of (n + length (v ∷ ws)) (end_from scn (v ∷ ws))))

below_entry : (b : Bool) (n scn end : ℕ) → scn < end → AreBelow end (cond b ((scn, n) ∷ []) [])
below_entry true n scn end lt = All-cons (λ e. e.0 < end) (scn, n) [] lt (All-nil (λ e. e.0 < end))
below_entry false n scn end lt = All-nil (λ e. e.0 < end)

-- the entries are below the end of their windows
pub entries_below : (n scn end : ℕ) (ws : List Span) → Rises scn ws → end_from scn ws ≤ end → AreBelow end (entries_of n scn ws)
entries_below n scn end [] r le = All-nil (λ e. e.0 < end)
entries_below n scn end (w ∷ ws) r le =
    let last = rises_end w.scn ws r.1 in
    All-append (λ e. e.0 < end) (entry_of n scn) (entries_of (n + 1) w.scn ws) (below_entry (eqb (n % 16) 0) n scn end (omega (arith, r.0))) (entries_below (n + 1) w.scn end ws r.1 le)

-- one entry for sixteen windows
pub entries_few : (n scn : ℕ) (ws : List Span) → 16 * length (entries_of n scn ws) ≤ length ws + (n + 15) % 16
entries_few n scn [] = omega arith
entries_few n scn (w ∷ ws) = counted n (eqb (n % 16) 0) (scn, n) (entries_of (n + 1) w.scn ws) (length ws) refl (entries_few (n + 1) w.scn ws)
  where
    counted : (m : ℕ) (b : Bool) (e : ℕ × ℕ) (rest : List (ℕ × ℕ)) (k : ℕ) → eqb (m % 16) 0 ≡ b → 16 * length rest ≤ k + ((m + 1) + 15) % 16 → 16 * length (cond b (e ∷ []) [] ++ rest) ≤ suc k + (m + 15) % 16
    counted m true e rest k is le = (let zero : m % 16 ≡ 0 = eqb-true (m % 16) 0 is in omega (arith, zero, le))
    counted m false e rest k is le = (let some = eqb-false (m % 16) 0 is in let pos : 0 < m % 16 = omega (arith, some) in omega (arith, pos, le))
