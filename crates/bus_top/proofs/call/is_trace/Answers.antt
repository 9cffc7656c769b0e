use Rattle.std.proofs.Common.{◌≡◌, ℕ, ◌<◌, ◌≤◌, Bool, List, [], ◌∷◌, map, length, get_or, String, string_bytes, ap, sym, ◌∙◌, arith}
use Rattle.std.specs.Prelude.{IsTrue}
use Rattle.std.specs.Global.{Global}
use Rattle.bus_top.proofs.call.is_trace.Goals as goal

-- one word of a list of one
one_word : (words : List (String Global)) (word : String Global) (is : Bool) (text : List ℕ) → 1 ≤ length words → length words < 2 → word ≡ get_or words 0 word → (IsTrue is → string_bytes word ≡ text) × (string_bytes word ≡ text → IsTrue is) → (IsTrue is → map string_bytes words ≡ text ∷ []) × (map string_bytes words ≡ text ∷ [] → IsTrue is)
one_word [] word is text some few at h = absurd (omega arith)
one_word (w ∷ []) word is text some few at h =
    let same : string_bytes word ≡ string_bytes w = ap string_bytes at in
    (λ t. ap (λ (l : List ℕ). l ∷ []) (sym same ∙ h.0 t), λ e. h.1 (same ∙ cc))
one_word (w ∷ v ∷ ws) word is text some few at h = absurd (omega arith)

pub returns-in-len1 : goal.returns-in-len1
returns-in-len1 c = one_word c.args.words.now c.word-item.result c.is_word.result _ c.in-len1.len_at_least c.in-len1.len_below c.word-item.is c.is_word.ensures
