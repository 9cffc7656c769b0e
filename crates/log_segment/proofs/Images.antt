-- The bytes of a segment.
use Rattle.std.proofs.Common.{◌≡◌, ℕ, ◌+◌, List, [], ◌∷◌, ◌++◌, length, refl, sym, ◌∙◌, ap, arith, append_assoc, length-append}
use Rattle.std.proofs.lemmas.List.{append-nil}
use Rattle.std.specs.Int.{w32, to_be_bytes}
use Rattle.bus_types.specs.Window.{Span, span_size}
use Rattle.event_codec.specs.Bytes.{window_bytes}
use Rattle.event_codec.proofs.WindowBytes.{window_length}
use Rattle.log_segment.specs.declared.segment.Entry.{Entry}
use Rattle.log_segment.specs.Image.{record_bytes, records, head_bytes, whole}
use Rattle.log_segment.specs.Segment.{entries}

pub length-record : (w : Span) → length (record_bytes w) ≡ span_size w + 4
unfolding record_bytes
length-record w = omega (arith, length-append (to_be_bytes w32 (span_size w)) (window_bytes w), window_length w)

pub length-head : (floor : ℕ) → length (head_bytes floor) ≡ 16
unfolding head_bytes
length-head floor = refl

pub records-push : (ws : List Span) (w : Span) → records (ws ++ w ∷ []) ≡ records ws ++ 165 ∷ record_bytes w
records-push [] w = ap (λ (l : List ℕ). 165 ∷ l) (append-nil (record_bytes w))
records-push (v ∷ ws) w =
    ap (λ (l : List ℕ). 165 ∷ (record_bytes v ++ l)) (records-push ws w) ∙ ap (λ (l : List ℕ). 165 ∷ l) (sym (append_assoc (record_bytes v) (records ws) (165 ∷ record_bytes w)))

-- the bytes of one window more
pub whole-push : (floor : ℕ) (ws : List Span) (w : Span) → whole floor (ws ++ w ∷ []) ≡ whole floor ws ++ 165 ∷ record_bytes w
whole-push floor ws w =
    ap (λ (l : List ℕ). 165 ∷ (head_bytes floor ++ l)) (records-push ws w) ∙ ap (λ (l : List ℕ). 165 ∷ l) (sym (append_assoc (head_bytes floor) (records ws) (165 ∷ record_bytes w)))

pub length-begun : (floor : ℕ) → length (whole floor []) ≡ 17
length-begun floor = omega (arith, length-append (head_bytes floor) [], length-head floor)

pub length-push : (floor : ℕ) (ws : List Span) (w : Span) → length (whole floor (ws ++ w ∷ [])) ≡ length (whole floor ws) + span_size w + 5
length-push floor ws w = omega (arith, ap length (whole-push floor ws w), length-append (whole floor ws) (165 ∷ record_bytes w), length-record w)

entries-from : (place : ℕ) (floor : ℕ) (ws done : List Span) (w : Span) → place ≡ length (whole floor done) + 1 → entries place (ws ++ w ∷ []) ≡ entries place ws ++ record { scn = w.scn; place = length (whole floor (done ++ ws)) + 1 } ∷ []
entries-from place floor [] done w is = ap (λ (n : ℕ). record { scn = w.scn; place = n } ∷ []) (is ∙ ap (λ (l : List Span). length (whole floor l) + 1) (sym (append-nil done)))
entries-from place floor (v ∷ ws) done w is =
    ap (λ (es : List Entry). record { scn = v.scn; place = place } ∷ es)
    (entries-from (place + span_size v + 5) floor ws (done ++ v ∷ []) w (omega (arith, is, length-push floor done v))
    ∙ ap (λ (l : List Span). entries (place + span_size v + 5) ws ++ record { scn = w.scn; place = length (whole floor l) + 1 } ∷ []) (append_assoc done (v ∷ []) ws))

pub entries-push : (floor : ℕ) (ws : List Span) (w : Span) → entries 18 (ws ++ w ∷ []) ≡ entries 18 ws ++ record { scn = w.scn; place = length (whole floor ws) + 1 } ∷ []
entries-push floor ws w = entries-from 18 floor ws [] w (omega (arith, length-begun floor))
