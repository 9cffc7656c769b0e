use Rattle.std.proofs.Common.{sym, ◌∙◌}
use Rattle.consume_node.specs.declared.stop.Stop.TheVariants.{LinkFault, StoreFault, WriteFault}
use Rattle.consume_node.proofs.Ending.{one_end}
use Rattle.consume_node.proofs.node.run_consumer.Goals as goal

pub returns-clause-link_fault : goal.returns-clause-link_fault
returns-clause-link_fault g c e = c.run.ensures.link_fault (one_end c.run.result c.status_of.result LinkFault c.status_of.ensures e)

pub returns-clause-write_fault : goal.returns-clause-write_fault
returns-clause-write_fault g c e = c.run.ensures.write_fault (one_end c.run.result c.status_of.result WriteFault c.status_of.ensures e)

pub returns-clause-store_fault : goal.returns-clause-store_fault
returns-clause-store_fault g c e = c.run.ensures.store_fault (one_end c.run.result c.status_of.result StoreFault c.status_of.ensures e)

pub returns-clause-done : goal.returns-clause-done
returns-clause-done g c e = rw (sym c.status_of.ensures ∙ e) at c.run.ensures.ended

pub returns-clause-bad_mark : goal.returns-clause-bad_mark
returns-clause-bad_mark g c e = rw (sym c.status_of.ensures ∙ e) at c.run.ensures.ended

pub returns-clause-bad_answer : goal.returns-clause-bad_answer
returns-clause-bad_answer g c e = rw (sym c.status_of.ensures ∙ e) at c.run.ensures.ended

pub returns-clause-link_so_far : goal.returns-clause-link_so_far
returns-clause-link_so_far g c e = rw (sym c.status_of.ensures ∙ e) at c.run.ensures.ended

pub returns-clause-written_so_far : goal.returns-clause-written_so_far
returns-clause-written_so_far g c e = rw (sym c.status_of.ensures ∙ e) at c.run.ensures.ended

pub returns-clause-stored_so_far : goal.returns-clause-stored_so_far
returns-clause-stored_so_far g c e = rw (sym c.status_of.ensures ∙ e) at c.run.ensures.ended

pub returns-clause-no_memory : goal.returns-clause-no_memory
returns-clause-no_memory g c e = rw (sym c.status_of.ensures ∙ e) at c.run.ensures.ended

pub returns-clause-bad_reply : goal.returns-clause-bad_reply
returns-clause-bad_reply g c place e = rw (sym c.status_of.ensures ∙ e) at c.run.ensures.ended
