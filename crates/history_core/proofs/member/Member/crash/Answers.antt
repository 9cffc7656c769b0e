use Rattle.std.proofs.lemmas.Result.{on_ok_weaker}
use Rattle.history_core.proofs.Members.{opened_again}
use Rattle.history_core.proofs.member.Member.crash.Goals as goal

pub returns : goal.returns
returns c = on_ok_weaker c.reopen.result (λ opened ws h. opened_again ws c.args.self.now c.reopen.new.self opened h) c.reopen.ensures
