use Rattle.std.proofs.Common.{List, ℕ, subst}
use Rattle.log_segment.specs.Heading.{ShowsHead}
use Rattle.log_segment.specs.declared.head.Head.TheVariants as heads
use Rattle.log_segment.proofs.Openings.{head_fault}
use Rattle.log_segment.proofs.opening.read_from.Goals as goal

pub returns-in-Bad-clause-told : goal.returns-in-Bad-clause-told
returns-in-Bad-clause-told g c = head_fault _ c.args.end c.in-Bad.place c.args.ahead.now (subst (λ (l : List ℕ). ShowsHead (heads.Bad c.in-Bad.place) l) c.bytes.ensures c.in-Bad.ensures)
