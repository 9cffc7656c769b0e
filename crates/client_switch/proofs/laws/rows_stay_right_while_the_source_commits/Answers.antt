use Rattle.client_switch.proofs.Growing.{good_new, good_stays}
use Rattle.client_switch.proofs.laws.rows_stay_right_while_the_source_commits.Goals as goal

pub returns : goal.returns
returns c = record {
  new = good_new;
  committed = λ ws w test mark rows f g. good_stays ws w f test mark rows g;
}
