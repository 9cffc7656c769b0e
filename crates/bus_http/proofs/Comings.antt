-- What is seen of a head as it comes.
use Rattle.std.proofs.Common.{◌≡◌, ℕ, ◌+◌, ◌<◌, ◌≤◌, List, [], ◌∷◌, ◌++◌, length, drop, Option, Some, None, sym, ap, ◌∙◌, append-nil, length-append, length-drop, arith}
use Rattle.std.specs.Io.KnownBytes.{IsAtEnd}
use Rattle.bus_http.specs.declared.ending.Seen.{Seen}
use Rattle.bus_http.specs.declared.ending.Seen.TheVariants.{Front}
use Rattle.bus_http.specs.Ending.{end_after, head_end}
use Rattle.bus_http.specs.Inbox.{Draws, HoldsHead, HoldsPart}
use Rattle.bus_http.proofs.EndLaws.{found_end}

-- what was seen of what is held, up to a place
abbrev pub HasSeen : ℕ → Seen → List ℕ → Type 0
HasSeen place seen held = (rest : List ℕ) → end_after 0 Front (held ++ rest) ≡ end_after place seen (drop place held ++ rest)

pub found_head : (place end : ℕ) (seen : Seen) (held bytes : List ℕ) → place ≤ length held → bytes ≡ drop place held → HasSeen place seen held
    → ((rest : List ℕ) → end_after place seen (bytes ++ rest) ≡ Some end) → end ≤ place + length bytes → HoldsHead end held
found_head place end seen held bytes within is before some le = record {
  within = omega (arith, length-drop place held, ap length is);
  ends = λ rest. sym (found_end (held ++ rest)) ∙ before rest ∙ ap (λ b. end_after place seen (b ++ rest)) (sym is) ∙ some rest;
}

pub no_head : (place : ℕ) (seen now : Seen) (held bytes : List ℕ) → bytes ≡ drop place held → HasSeen place seen held
    → ((rest : List ℕ) → end_after place seen (bytes ++ rest) ≡ end_after (place + length bytes) now rest) → head_end held ≡ None
no_head place seen now held bytes is before none =
    sym (found_end held) ∙ ap (end_after 0 Front) (sym (append-nil held)) ∙ before [] ∙ ap (λ b. end_after place seen (b ++ [])) (sym is) ∙ none []

nothing_more : (xs ys : List ℕ) → length (xs ++ ys) ≡ length xs → xs ++ ys ≡ xs
nothing_more xs [] e = append-nil xs
nothing_more xs (y ∷ ys) e = absurd (omega (arith, length-append xs (y ∷ ys)))

-- a read at the end of the input leaves what is held
pub ended_part : (l m g h : Option (List ℕ)) (old new : List ℕ) (count : ℕ) → Draws l m g h old new → length new ≡ length old + count → count ≡ 0 → (count ≡ 0 → IsAtEnd m)
    → length old < 16384 → head_end old ≡ None → HoldsPart new m
ended_part l m g h old new count draws size zero end short none =
    let same : new ≡ old = draws.held ∙ nothing_more old draws.came (ap length (sym draws.held) ∙ size ∙ omega arith) in
    record { short = omega (arith, ap length same); none = ap head_end same ∙ none; ended = end zero }
