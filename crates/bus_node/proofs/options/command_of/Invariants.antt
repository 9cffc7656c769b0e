use Rattle.std.proofs.Common.{◌≡◌, map, take}
use Rattle.clap.specs.Simple.{app_of}
use Rattle.bus_node.specs.Options.{options_app}
use Rattle.bus_node.proofs.options.command_of.Given as goal

abbrev pub invariant-loop-name : goal.invariant-loop-name
invariant-loop-name l = app_of l.command ≡ options_app (map (λ name. name.now) (take l.name-index l.names))
