use Rattle.std.proofs.Common.{map, string_bytes, Bor, List, ℕ}
use Rattle.clap.specs.Words.{app_of}
use Rattle.bus_node.proofs.Walks.{reads_form, takes_form}
use Rattle.bus_node.proofs.options.matches_of.Goals as goal

pub no_memory-requires : goal.no_memory-requires
no_memory-requires c =
    c.in-Err.ensures.passes
    (takes_form (app_of c.in_ok-command.command) (map (λ (name : Bor (List ℕ)). name.now) c.args.names.now) (map string_bytes c.args.words.now)
    c.in_ok-command.ensures c.requires.names c.requires.form)

pub returns-in-Ok : goal.returns-in-Ok
returns-in-Ok c =
    reads_form (app_of c.in_ok-command.command) (map (λ (name : Bor (List ℕ)). name.now) c.args.names.now) (map string_bytes c.args.words.now) c.in-Ok.matches
    c.in_ok-command.ensures c.requires.names c.requires.form c.in-Ok.ensures.matches
