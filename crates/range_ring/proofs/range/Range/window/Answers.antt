use Rattle.std.proofs.Common.{◌≡◌, Some, ap, sym, subst, ◌∙◌}
use Rattle.std.specs.List.{slice_get}
use Rattle.range_ring.specs.Parts.{bytes_at}
use Rattle.range_ring.proofs.Lending.{bytes_of, entry_begins}
use Rattle.range_ring.proofs.range.Range.window.Goals as goal

pub returns-clause-value : goal.returns-clause-value
returns-clause-value g c =
    let there = subst (λ es. slice_get es c.args.i ≡ Some c.in-Some.shown.now) (ap (λ r. r.entries) c.self.view_is) c.in-Some.ensures in
    c.bytes.ensures.value ∙ sym (bytes_of c.args.self.now.entries c.args.i c.in-Some.shown.now there)

pub returns-clause-begins : goal.returns-clause-begins
returns-clause-begins g c =
    let there = subst (λ es. slice_get es c.args.i ≡ Some c.in-Some.shown.now) (ap (λ r. r.entries) c.self.view_is) c.in-Some.ensures in
    entry_begins g.T.Timeline.told c.in-Some.shown.now (bytes_at c.args.self.now.entries c.args.i) c.bytes.ensures.fits (bytes_of c.args.self.now.entries c.args.i c.in-Some.shown.now there)
