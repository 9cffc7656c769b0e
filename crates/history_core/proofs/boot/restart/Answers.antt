use Rattle.std.proofs.Common.{ap, ◌∙◌}
use Rattle.history_core.specs.Booting.{MemoryParts}
use Rattle.history_core.proofs.boot.restart.Goals as goal

pub open-requires : goal.open-requires
open-requires c =
    let old = c.replace-old.ensures.value in
    (c.requires.0, c.args.boot.now, record { booted = c.requires.1; of_log = c.parts-log.ensures.log ∙ ap (λ (b : MemoryParts). b.log) old; of_keeper = c.parts-log.ensures.keeper ∙ ap (λ (b : MemoryParts). b.keeper) old })

pub returns : goal.returns
returns c ws h =
    let old = c.replace-old.ensures.value in
    c.in_ok-boot.ensures ws c.args.boot.now (record { booted = h; of_log = c.parts-log.ensures.log ∙ ap (λ (b : MemoryParts). b.log) old; of_keeper = c.parts-log.ensures.keeper ∙ ap (λ (b : MemoryParts). b.keeper) old })
