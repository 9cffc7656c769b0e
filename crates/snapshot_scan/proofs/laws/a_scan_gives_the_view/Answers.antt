use Rattle.std.proofs.Common.{ap}
use Rattle.bus_types.specs.Rows.{rest_of}
use Rattle.event_codec.specs.Chunks.{chunk_of, puts_of}
use Rattle.event_codec.specs.Questions.Reply.{Rows}
use Rattle.snapshot_scan.proofs.Viewed.{rows_are_viewed}
use Rattle.snapshot_scan.proofs.laws.a_scan_gives_the_view.Goals as goal

pub returns : goal.returns
returns c ws test applied most cursor = ap (λ rows. chunk_of (λ cs more. Rows cs applied more) most (puts_of (rest_of cursor rows))) (rows_are_viewed test applied ws)
