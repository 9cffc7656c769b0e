use Rattle.window_stream.proofs.Whole.{one_split}
use Rattle.window_stream.proofs.laws.a_stream_is_split_in_one_way.Goals as goal

pub returns : goal.returns
returns c = record {
  windows = λ floor stream ws vs one other a b. (one_split floor stream ws vs one other a b).0;
  place = λ floor stream ws vs one other a b. (one_split floor stream ws vs one other a b).1;
  rest = λ floor stream ws vs one other a b. (one_split floor stream ws vs one other a b).2;
}
