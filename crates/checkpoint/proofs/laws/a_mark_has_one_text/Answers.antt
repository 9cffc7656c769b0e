use Rattle.checkpoint.proofs.ReadBack.{one_mark}
use Rattle.checkpoint.proofs.laws.a_mark_has_one_text.Goals as goal

pub returns : goal.returns
returns c m n lawful_m lawful_n same = one_mark m n lawful_m lawful_n same
