use Rattle.client_switch.proofs.Standing.{floor_kept}
use Rattle.client_switch.proofs.laws.a_lawful_reply_sets_no_client_back.Goals as goal

pub returns : goal.returns
returns c = floor_kept
