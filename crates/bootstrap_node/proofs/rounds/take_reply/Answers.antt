use Rattle.std.proofs.Common.{◌∙◌, sym}
use Rattle.bootstrap_core.specs.Boot.{told}
use Rattle.bootstrap_node.specs.Rounds.{most_logged}
use Rattle.bootstrap_node.proofs.Taken.{goes_on, kept_taken, taken}
use Rattle.bootstrap_node.proofs.rounds.take_reply.Goals as goal

pub returns-in-Ok-move_table-clause-took : goal.returns-in-Ok-move_table-clause-took
returns-in-Ok-move_table-clause-took g c =
    let state = told g.G.WindowLog.state g.K.Keeper.state in
    let call = c.take_log-took in
    let none = sym c.stop_of.ensures ∙ c.in-None.is in
    let kept = kept_taken call.result most_logged c.args.body.now (state c.args.boot.now) (state call.new.self) (goes_on call.result none) call.ensures.takes in
    record {
      took = call.result;
      logged = state call.new.self;
      is = taken call.result c.args.body.now (state c.args.boot.now) (state call.new.self) (state c.move_table.new.boot) call.ensures.takes none c.in-Ok-move_table.ensures.moved
          (λ ws line stands reply. call.ensures.stands ws line stands reply (kept.halted ∙ c.requires.runs));
      printed = c.in-Ok.ensures.prints.ends;
      gap_noted = c.in-Ok.ensures.gap;
      full_noted = c.in-Ok.ensures.full;
    }
