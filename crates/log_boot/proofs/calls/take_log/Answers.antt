use Rattle.log_boot.proofs.calls.take_log.Goals as goal

pub returns : goal.returns
returns g c = record {
  takes = c.take_log.ensures.takes;
  keeper = c.take_log.ensures.keeper;
  survives = λ ws content r reply. c.a_bootstrap_survives_a_stop.ensures.take_log ws content c.args.n c.args.reply.now c.args.boot.now c.take_log.new.self r reply (c.take_log.ensures.crash r.runs);
  goes_on = λ ws content d r reply runs tells. c.a_bootstrap_goes_on.ensures.take_log ws content d c.args.n c.args.reply.now c.take_log.result c.args.boot.now c.take_log.new.self r c.take_log.ensures.takes (c.take_log.ensures.stands ws r.timeline r.stands reply runs) runs tells;
}
