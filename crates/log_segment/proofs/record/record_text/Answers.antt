use Rattle.std.proofs.Common.{◌∷◌, [], ◌++◌, ℕ, List, length, ◌∙◌, ap, arith, length-append}
use Rattle.std.specs.Int.{w32, to_be_bytes}
use Rattle.log_segment.specs.Image.{record_bytes}
use Rattle.event_codec.specs.Bytes.{window_bytes}
use Rattle.log_segment.proofs.Images.{length-record}
use Rattle.log_segment.proofs.record.record_text.Goals as goal

pub returns-clause-text : goal.returns-clause-text
unfolding record_bytes
returns-clause-text c =
    let length_bytes = c.in_ok-extend_from_slice.ensures.items ∙ ap (λ (l : List ℕ). l ++ c.to_be_bytes.result) c.in_ok-text.ensures.items ∙ c.to_be_bytes.ensures ∙ ap (λ (n : ℕ). to_be_bytes w32 n) c.size-size.ensures.value in
    c.in_ok-push.ensures.items ∙ ap (λ (l : List ℕ). l ++ 0 ∷ []) (c.in_ok-write_window.ensures.ok ∙ ap (λ (l : List ℕ). l ++ window_bytes c.args.window.now) length_bytes)

pub returns-clause-size : goal.returns-clause-size
returns-clause-size c = omega (arith, ap length (returns-clause-text c), length-append (record_bytes c.args.window.now) (0 ∷ []), length-record c.args.window.now)
