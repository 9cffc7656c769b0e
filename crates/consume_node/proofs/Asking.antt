-- What a client asks keeps the rules of asks.
use Rattle.std.proofs.Common.{ℕ, ◌≤◌, sym, subst, arith}
use Rattle.bus_types.specs.declared.limits.TheConstants.{MAX_SCN}
use Rattle.partition_filter.specs.Selection.{Selection}
use Rattle.checkpoint.specs.declared.mark.Mark.{Mark}
use Rattle.checkpoint.specs.declared.mark.Mark.TheVariants.{Online, Delta, Snapshot, Scanned, Catchup}
use Rattle.checkpoint.specs.Mark.{IsMark, floor_of}
use Rattle.bus_wire.specs.declared.ask.Ask.{Ask}
use Rattle.bus_wire.specs.Asks.{ask_of, IsAsk}
use Rattle.bus_http.specs.Asking.{IsSized}
use Rattle.client_switch.specs.Moves.{Wish, next_question, question}
use Rattle.client_switch.specs.Moves.Wish.{NoWish, StartWish, FreshWish}
use Rattle.client_switch.specs.Client.{Held, IsAskOf, asks}

next_ruled : (filter : Selection) (mark : Mark) (most : ℕ) → IsMark mark → IsAsk (ask_of filter (next_question mark most))
next_ruled filter (Online scn) most is = is
next_ruled filter (Delta since target cursor) most is = (is.0, is.1)
next_ruled filter (Snapshot since start top cursor) most is = omega (arith, is.0, is.2)
next_ruled filter (Scanned since start top) most is = (omega (arith, is.0), omega (arith, is.1, is.2))
next_ruled filter (Catchup since start target at) most is = (is.1, is.3)

floor_within : (mark : Mark) → IsMark mark → floor_of mark ≤ MAX_SCN
floor_within (Online scn) is = is
floor_within (Delta since target cursor) is = omega (arith, is.0, is.1)
floor_within (Snapshot since start top cursor) is = is.1
floor_within (Scanned since start top) is = is.1
floor_within (Catchup since start target at) is = omega (arith, is.2, is.3)

asks_ruled : (filter : Selection) (mark : Mark) (wish : Wish) (most : ℕ) → IsMark mark → IsAsk (ask_of filter (question mark wish most))
asks_ruled filter mark NoWish most is = next_ruled filter mark most is
asks_ruled filter mark StartWish most is = floor_within mark is
asks_ruled filter mark FreshWish most is = floor_within mark is

-- its rules
pub ask_ruled : (c : Held) (most : ℕ) (ask : Ask) → IsMark c.mark → IsAskOf c.filter (asks c most) ask → IsAsk ask
ask_ruled c most ask is asked = subst IsAsk (sym asked) (asks_ruled c.filter c.mark c.wish most is)

next_sized : (filter : Selection) (mark : Mark) (most : ℕ) → 1 ≤ most → most ≤ 16777216 → IsSized (ask_of filter (next_question mark most))
next_sized filter (Online scn) most low high = (low, high)
next_sized filter (Delta since target cursor) most low high = (low, high)
next_sized filter (Snapshot since start top cursor) most low high = (low, high)
next_sized filter (Scanned since start top) most low high = tt
next_sized filter (Catchup since start target at) most low high = (low, high)

asks_sized : (filter : Selection) (mark : Mark) (wish : Wish) (most : ℕ) → 1 ≤ most → most ≤ 16777216 → IsSized (ask_of filter (question mark wish most))
asks_sized filter mark NoWish most low high = next_sized filter mark most low high
asks_sized filter mark StartWish most low high = tt
asks_sized filter mark FreshWish most low high = tt

-- its range
pub ask_sized : (c : Held) (most : ℕ) (ask : Ask) → 1 ≤ most → most ≤ 16777216 → IsAskOf c.filter (asks c most) ask → IsSized ask
ask_sized c most ask low high asked = subst IsSized (sym asked) (asks_sized c.filter c.mark c.wish most low high)
