use Rattle.consume_node.proofs.Holding.{shows_any}
use Rattle.consume_node.proofs.show.shown.Goals as goal

pub returns-in_ok-mode_shown-in-Delta-clause-shows : goal.returns-in_ok-mode_shown-in-Delta-clause-shows
returns-in_ok-mode_shown-in-Delta-clause-shows g c = shows_any c.args.name.now c.args.mark.now _ _ (λ rows. rw c.in-Delta.is c.in_ok-mode_shown-in-Delta.ensures)

pub returns-in_ok-mode_shown-in-Snapshot-clause-shows : goal.returns-in_ok-mode_shown-in-Snapshot-clause-shows
returns-in_ok-mode_shown-in-Snapshot-clause-shows g c = shows_any c.args.name.now c.args.mark.now _ _ (λ rows. rw c.in-Snapshot.is c.in_ok-mode_shown-in-Snapshot.ensures)

pub returns-in_ok-mode_shown-in-Scanned-clause-shows : goal.returns-in_ok-mode_shown-in-Scanned-clause-shows
returns-in_ok-mode_shown-in-Scanned-clause-shows g c = shows_any c.args.name.now c.args.mark.now _ _ (λ rows. rw c.in-Scanned.is c.in_ok-mode_shown-in-Scanned.ensures)

pub returns-in_ok-mode_shown-in-Catchup-clause-shows : goal.returns-in_ok-mode_shown-in-Catchup-clause-shows
returns-in_ok-mode_shown-in-Catchup-clause-shows g c = shows_any c.args.name.now c.args.mark.now _ _ (λ rows. rw c.in-Catchup.is c.in_ok-mode_shown-in-Catchup.ensures)
