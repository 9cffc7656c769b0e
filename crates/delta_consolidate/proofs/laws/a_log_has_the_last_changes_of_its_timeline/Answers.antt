use Rattle.std.proofs.Common.{[], ap, flat_map}
use Rattle.bus_types.specs.Change.{accepted}
use Rattle.bus_types.specs.Window.{Span}
use Rattle.bus_types.specs.Latest.{latest_after, changes_after}
use Rattle.event_codec.specs.Chunks.{chunk_of}
use Rattle.event_codec.specs.Questions.Reply.{Changes}
use Rattle.delta_consolidate.specs.Latest.{changes_of}
use Rattle.delta_consolidate.proofs.Stretch.{between_within}
use Rattle.delta_consolidate.proofs.laws.a_log_has_the_last_changes_of_its_timeline.Goals as goal

pub returns : goal.returns
returns c ws test floor since target high most cursor low upto =
    ap (λ vs. chunk_of (λ cs more. Changes cs target more) most (changes_after cursor (changes_of (latest_after [] (accepted test (flat_map (λ (w : Span). w.changes) vs)))))) (between_within floor since target high ws low upto)
