use Rattle.log_boot.proofs.calls.apply.Goals as goal

pub returns : goal.returns
returns g c = record {
  applies = c.apply.ensures.applies;
  survives = λ ws content r. c.a_bootstrap_survives_a_stop.ensures.apply ws content c.args.n c.args.boot.now c.apply.new.self r (c.apply.ensures.crash r.runs);
  goes_on = λ ws content d r runs tells. c.a_bootstrap_goes_on.ensures.apply ws content d c.args.n c.apply.result c.args.boot.now c.apply.new.self r c.apply.ensures.applies (c.apply.ensures.stands ws r.timeline r.stands r.windows runs) runs tells;
}
