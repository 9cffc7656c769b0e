use Rattle.bus_types.proofs.Floors.{stands_fresh, stands_published, stands_committed, stands_answers, stands_evicted}
use Rattle.bus_types.proofs.laws.a_relay_stands_for_its_timeline.Goals as goal

pub returns : goal.returns
returns c = record {
  fresh = stands_fresh;
  published = stands_published;
  committed = stands_committed;
  answers = stands_answers;
  evicted = stands_evicted;
}
