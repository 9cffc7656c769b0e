-- How a name stands in memory: in an array of 16 bytes, with zeros behind it.
use Rattle.std.specs.Prelude.{◌≡◌, ℕ, ◌-◌, ◌≤◌, true, List, ◌++◌, length, take, drop, replicate}
use Rattle.std.proofs.Common.{refl, arith}
use Rattle.std.proofs.lemmas.List.{take-append-drop, length-take}
use Rattle.trace_script.specs.declared.name.Name.TheInside.{Inside}
use Rattle.trace_script.specs.Words.{is_name_text}

pub record IsPadded (n : Inside) : Type 0 where
  pub room : length n.bytes ≡ 16
  pub within : n.len ≤ 16
  pub is_name : is_name_text (take n.len n.bytes) ≡ true
  pub zeros : drop n.len n.bytes ≡ replicate (16 - n.len) 0

abbrev pub padded : List ℕ → Inside
padded name = record { bytes = name ++ replicate (16 - length name) 0; len = length name }

pub padded-take : (n : Inside) → IsPadded n → padded (take n.len n.bytes) ≡ n
padded-take n h =
    let room = h.room in
    let within = h.within in
    let len : length (take n.len n.bytes) ≡ n.len = omega (arith, length-take n.len n.bytes) in
    rw (len, ← h.zeros, take-append-drop) refl
