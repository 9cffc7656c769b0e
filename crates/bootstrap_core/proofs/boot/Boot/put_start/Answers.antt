use Rattle.bootstrap_core.proofs.AskReplies.{answer_replies}
use Rattle.bootstrap_core.proofs.boot.Boot.put_start.Goals as goal

pub returns-clause-reply : goal.returns-clause-reply
returns-clause-reply g c ws test = answer_replies _ c.start-answer.result _ _ _ (c.start-answer.ensures.reply ws test) c.in_ok-put_answer.ensures.ok
