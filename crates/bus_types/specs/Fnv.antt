-- The FNV-1a hash of 64 bits, of Fowler, Noll and Vo.
use Rattle.std.specs.Prelude.{ℕ, ◌*◌, ◌%◌, ◌^◌, bit_xor, List, [], ◌∷◌}

-- a byte is joined by exclusive or, and the whole is multiplied by the prime, modulo 2 to the 64
abbrev pub fnv_step : ℕ → ℕ → ℕ
fnv_step hash byte = bit_xor hash byte * 1099511628211 % 2 ^ 64

abbrev pub fnv_from : ℕ → List ℕ → ℕ
fnv_from hash [] = hash
fnv_from hash (b ∷ bs) = fnv_from (fnv_step hash b) bs

-- the hash of bytes: from the offset basis on, byte by byte
abbrev pub fnv1a_of : List ℕ → ℕ
fnv1a_of bytes = fnv_from 14695981039346656037 bytes
