use Rattle.wire_tests.proofs.Examples.{two_windows}
use Rattle.wire_tests.proofs.callbacks.told.Goals as goal

pub dispatch-answer-requires : goal.dispatch-answer-requires
dispatch-answer-requires c = two_windows
