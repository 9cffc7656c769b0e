use Rattle.range_ring.proofs.Answering.{alone, before_is, past_is, not_found, empty, next}
use Rattle.range_ring.proofs.laws.a_ring_answers_by_positions.Goals as goal

pub returns : goal.returns
returns c = record {
  alone = alone;
  before = before_is;
  past = λ ws position w t there. past_is ws position w there;
  not_found = not_found;
  empty = empty;
  next = next;
}
