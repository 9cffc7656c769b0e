-- What a filter leaves of a window is a window, and no larger.
use Rattle.std.proofs.Common.{◌≤◌, Bool, true, false, cond, List, [], ◌∷◌, length, arith}
use Rattle.bus_types.specs.declared.change.Change.{Change}
use Rattle.bus_types.specs.Change.{Test, accepted, AreChanges, changes_size}
use Rattle.bus_types.specs.Window.{Span, span_size, IsSpan}
use Rattle.bus_types.specs.Cut.{cut, cut_size}

-- changes that are no more and no larger than others
record Less (cs ds : List Change) : Type 0 where
  count : length cs ≤ length ds
  size : changes_size cs ≤ changes_size ds
  changes : AreChanges cs

passed : (b : Bool) (c : Change) (cs ds : List Change) → AreChanges (c ∷ ds) → Less cs ds → Less (cond b (c ∷ cs) cs) (c ∷ ds)
passed true c cs ds are less = record { count = omega arith; size = omega arith; changes = (are.0, less.changes) }
passed false c cs ds are less = record { count = omega arith; size = omega arith; changes = less.changes }

accepted_less : (test : Test) (cs : List Change) → AreChanges cs → Less (accepted test cs) cs
accepted_less test [] are = record { count = omega arith; size = omega arith; changes = tt }
accepted_less test (c ∷ cs) are = passed (test c.source c.key) c (accepted test cs) cs are (accepted_less test cs are.1)

-- it takes no more bytes
pub cut_no_larger : (test : Test) (w : Span) → IsSpan w → cut_size test w ≤ span_size w
cut_no_larger test w is = omega (arith, (accepted_less test w.changes is.changes).size)

-- it is within the limits of windows
pub cut_is_span : (test : Test) (w : Span) → IsSpan w → IsSpan (cut test w)
cut_is_span test w is =
    let less = accepted_less test w.changes is.changes in
    record { scn = is.scn; prev = is.prev; count = omega (arith, less.count, is.count); size = omega (arith, less.size, is.size); changes = less.changes }
