use Rattle.std.proofs.Common.{◌≤◌, refl, arith, ap, sym, subst, ◌∙◌}
use Rattle.scn_index.specs.Index.{AreRising}
use Rattle.scn_index.proofs.Searching.{searched, steps_on}
use Rattle.scn_index.proofs.index.ScnIndex.find.Goals as goal

pub loop-search-preserved : goal.loop-search-preserved
loop-search-preserved g c =
    let h = c.loop-search.invariant in
    let s = c.loop-search.search in
    let rising : AreRising c.args.self.now.entries = subst (λ x. AreRising x.entries) c.self.view_is c.self.invariant in
    let low = c.narrowed-search.ensures.low in
    let high = c.narrowed-search.ensures.high in
    let steps = steps_on c.args.scn c.args.self.now.entries c.args.steps.now c.loop-search.steps c.entry.new.steps s.low s.high _ s.found c.entry.result
    c.narrowed-search.result.low c.narrowed-search.result.high c.narrowed-search.result.found rising c.loop-search-test.true c.middle-middle.ensures c.entry.ensures.entry c.entry.ensures.counted
    (λ upto. (ap (λ x. x.low) (low upto), ap (λ x. x.high) (low upto), ap (λ x. x.found) (low upto)))
    (λ over. (ap (λ x. x.low) (high over), ap (λ x. x.high) (high over), ap (λ x. x.found) (high over)))
    h.searches h.reads in
    record { searches = steps.searches; reads = steps.reads }

pub returns-clause-found : goal.returns-clause-found
returns-clause-found g c =
    let s = c.loop-search.search in
    let rising : AreRising c.args.self.now.entries = subst (λ x. AreRising x.entries) c.self.view_is c.self.invariant in
    searched c.args.scn c.args.self.now.entries s.low s.high s.found rising c.loop-search-test.false c.loop-search.invariant.searches
