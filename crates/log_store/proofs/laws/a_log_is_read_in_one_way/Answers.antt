use Rattle.log_store.proofs.OneLog.{one_log, never_bad, one_place}
use Rattle.log_store.proofs.laws.a_log_is_read_in_one_way.Goals as goal

pub returns-clause-log : goal.returns-clause-log
returns-clause-log c images low high low2 high2 ws vs a b = one_log images low high low2 high2 ws vs a b

pub returns-clause-good : goal.returns-clause-good
returns-clause-good c images low high segment place ws a b = never_bad images low high segment place ws a b

pub returns-clause-place : goal.returns-clause-place
returns-clause-place c images segment place segment2 place2 a b = one_place images segment place segment2 place2 a b
