use Rattle.client_switch.proofs.GoodTurn.{good_turn}
use Rattle.client_switch.proofs.laws.a_true_reply_keeps_rows_right.Goals as goal

pub returns : goal.returns
returns c = record {
  good = λ ws test mark wish most rows reply t m w g r. (good_turn ws test mark wish most rows reply t m w g r).good;
  marked = λ ws test mark wish most rows reply t m w g r.
      let kept = good_turn ws test mark wish most rows reply t m w g r in
      (kept.marked, kept.wished);
  lawful = λ ws test mark wish most rows reply t m w g r. (good_turn ws test mark wish most rows reply t m w g r).lawful;
}
