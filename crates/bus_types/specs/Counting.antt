-- Counts that contracts alone see, and counts of calls.
use Rattle.std.specs.Prelude.{ℕ, ◌+◌, ◌-◌, ◌^◌, min, Option, Some, None}

-- a count from what it was before it was raised last, if it ever was
abbrev pub count_after : Option ℕ → ℕ
count_after None = 0
count_after (Some before) = before + 1

-- a count of calls after one more, which stops at its type's end
abbrev pub next_count : ℕ → ℕ
next_count n = min (n + 1) (2 ^ 64 - 1)
