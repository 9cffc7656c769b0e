use Rattle.bootstrap_core.specs.Boot.{told}
use Rattle.bootstrap_node.proofs.serving.serve.Given as goal

abbrev pub ghosts-serve_at : goal.ghosts-serve_at
ghosts-serve_at g a = record { start = told g.G.WindowLog.state g.K.Keeper.state a.boot }
