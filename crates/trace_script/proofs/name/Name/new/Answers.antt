use Rattle.std.proofs.Common.{◌≡◌, ℕ, ◌≤◌, true, List, ◌++◌, length, drop, replicate, ◌∙◌, sym, arith}
use Rattle.std.proofs.lemmas.Bool.Decides.{nat_tests}
use Rattle.std.proofs.lemmas.List.{length-append, length-replicate, drop-replicate}
use Rattle.std.proofs.Math.Seq.{take-append_seam, drop-append_seam}
use Rattle.trace_script.specs.Words.{is_name_text}
use Rattle.trace_script.specs.Name.{IsPadded}
use Rattle.trace_script.proofs.name.Name.new.Goals as goal

name_within : (name : List ℕ) → is_name_text name ≡ true → length name ≤ 16
name_within name h = grind (arith, nat_tests)

-- a name that was copied to the front of 16 zeros
IsPadded-copied : (front name : List ℕ) → front ≡ name → is_name_text name ≡ true
    → IsPadded record { bytes = front ++ drop (length name) (replicate {A = ℕ} 16 0); len = length name }
IsPadded-copied front name same h =
    let within = name_within name h in
    let zeros = drop-replicate {X = ℕ} (length name) 16 0 in
    rw same record {
      room = rw (length-append, zeros, length-replicate) (omega arith);
      within = within;
      is_name = rw take-append_seam h;
      zeros = drop-append_seam name (drop (length name) (replicate {A = ℕ} 16 0)) ∙ zeros;
    }

pub invariant_of-result : goal.invariant_of-result
invariant_of-result c = IsPadded-copied _ _ c.copy_from_slice.ensures.after (sym c.if-not-is_name.ensures)
