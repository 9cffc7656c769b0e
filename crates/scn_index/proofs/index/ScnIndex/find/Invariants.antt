use Rattle.std.proofs.Common.{◌-◌, length}
use Rattle.scn_index.proofs.Searching.{Searches, Reads}
use Rattle.scn_index.proofs.index.ScnIndex.find.Given as goal

abbrev pub invariant-loop-search : goal.invariant-loop-search
invariant-loop-search g l = record {
  searches : Searches l.scn l.self.entries l.search.low l.search.high l.search.found;
  reads : Reads l.fn.steps l.steps (length l.self.entries) (l.search.high - l.search.low);
}

abbrev pub decreases-loop-search : goal.decreases-loop-search
decreases-loop-search g l = l.search.high - l.search.low
