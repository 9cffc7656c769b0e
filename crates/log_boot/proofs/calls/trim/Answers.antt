use Rattle.log_boot.proofs.calls.trim.Goals as goal

pub returns : goal.returns
returns g c = record {
  trims = c.trim.ensures.trims;
  survives = λ ws content r. c.a_bootstrap_survives_a_stop.ensures.trim ws content c.args.scn c.trim.result c.args.boot.now c.trim.new.self r c.trim.ensures.trims (c.trim.ensures.order r.runs);
  goes_on = λ ws content d r runs tells. c.a_bootstrap_goes_on.ensures.trim ws content d c.args.scn c.trim.result c.args.boot.now c.trim.new.self r c.trim.ensures.trims (c.trim.ensures.stands ws r.timeline r.stands r.windows runs) runs tells;
}
