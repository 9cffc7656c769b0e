-- What stands at a place, and what is after it.
use Rattle.std.proofs.Common.{◌≡◌, ℕ, ◌+◌, List, ◌++◌, length, take, drop, refl, sym, ap, ◌∙◌}
use Rattle.std.proofs.lemmas.List.{take-append-drop, drop-drop, take_at}
use Rattle.event_codec.specs.Bytes.{StandsAt}

-- bytes from a place on are what stands there, and the bytes from the place after it on
pub stands_parts : (bytes : List ℕ) (place : ℕ) (text : List ℕ) (next : ℕ) → StandsAt bytes place text next → drop place bytes ≡ text ++ drop next bytes
stands_parts bytes place text next stands =
    let n = length text in
    let rest = drop place bytes in
    sym (take-append-drop n rest)
    ∙ ap (λ (x : List ℕ). x ++ drop n rest) stands.there
    ∙ ap (λ (x : List ℕ). text ++ x) (drop-drop n place bytes ∙ ap (λ m. drop m bytes) (sym stands.after))

pub stands_from_parts : (bytes : List ℕ) (place : ℕ) (text rest : List ℕ) → drop place bytes ≡ text ++ rest → StandsAt bytes place text (place + length text)
stands_from_parts bytes place text rest parts = record {
  after = refl;
  there = ap (take (length text)) parts ∙ take_at text rest (length text) refl;
}
