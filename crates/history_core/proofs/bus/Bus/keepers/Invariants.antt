use Rattle.std.proofs.Common.{◌≡◌, ◌+◌, ◌≤◌, ◌++◌, length, map}
use Rattle.std.specs.Vec.{vec_capacity}
use Rattle.std.specs.Vec.Iter.{into_iter_items}
use Rattle.history_core.specs.Bus.{MemberState}
use Rattle.history_core.proofs.bus.Bus.keepers.Given as goal

abbrev pub invariant-loop-member : goal.invariant-loop-member
invariant-loop-member g l = record {
  all : l.keepers.items ++ map (λ (m : MemberState). m.store) (into_iter_items l.member-iterator) ≡ map (λ (m : MemberState). m.store) l.fn.self.members;
  room : length l.keepers.items + length (into_iter_items l.member-iterator) ≤ vec_capacity l.keepers;
}
