-- The mark of the first of some windows.
use Rattle.std.proofs.Common.{◌≡◌, ℕ, ◌+◌, ◌≤◌, List, [], ◌∷◌, length, length-append, sym, ap, subst, ◌∙◌, arith}
use Rattle.bus_types.specs.Window.{Span, span_size}
use Rattle.event_codec.specs.Bytes.{window_bytes}
use Rattle.event_codec.specs.Streams.{windows_bytes}
use Rattle.event_codec.proofs.WindowBytes.{window_length}
use Rattle.bootstrap_core.specs.Logging.{AreWindowsBehind, IsChained, IsFirstMark, first_mark}

-- a reply has a window
pub some_window : (high : ℕ) (bytes : List ℕ) (ws seen : List Span) → AreWindowsBehind high bytes ws → seen ≡ ws → seen ≡ [] → ⊥
some_window high bytes ws seen are same none = omega (arith, are.run.some, ap length (sym same ∙ none))

-- the mark of a window stands within its bytes
pub mark_within : (w : Span) (own : List ℕ) → own ≡ window_bytes w → length own ≡ span_size w
mark_within w own spelled = ap length spelled ∙ window_length w

-- the first window was found
pub first_is : (ws seen left : List Span) (w : Span) (place prev : ℕ) → seen ≡ ws → seen ≡ w ∷ left → place + 17 ≡ span_size w → prev ≡ w.prev → IsFirstMark ws place prev
first_is ws seen left w place prev same first size before = subst (λ vs. IsFirstMark vs place prev) (sym first ∙ same) (size, before)

-- it stands within the bytes
pub first_within : (high : ℕ) (bytes : List ℕ) (ws seen left : List Span) (w : Span) → AreWindowsBehind high bytes ws → seen ≡ ws → seen ≡ w ∷ left → span_size w ≤ length bytes
first_within high bytes ws seen left w are same first =
    let spelled : bytes ≡ windows_bytes (w ∷ left) = are.spelled ∙ ap windows_bytes (sym same ∙ first) in
    omega (arith, ap length spelled, length-append (window_bytes w) (windows_bytes left), window_length w)

-- ---- what the first mark tells

pub first_chained : (ws : List Span) (place prev high : ℕ) → IsFirstMark ws place prev → prev ≡ high → IsChained high ws
first_chained [] place prev high m e = absurd m
first_chained (w ∷ ws) place prev high m e = sym m.1 ∙ e

pub first_unchained : (ws : List Span) (place prev high : ℕ) → IsFirstMark ws place prev → (prev ≡ high → ⊥) → IsChained high ws → ⊥
first_unchained [] place prev high m other chained = m
first_unchained (w ∷ ws) place prev high m other chained = other (m.1 ∙ chained)

pub first_place : (ws : List Span) (place prev : ℕ) → IsFirstMark ws place prev → place ≡ first_mark ws
first_place [] place prev m = absurd m
first_place (w ∷ ws) place prev m = omega (arith, m.0)
