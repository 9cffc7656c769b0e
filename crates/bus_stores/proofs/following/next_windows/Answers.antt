use Rattle.std.proofs.Common.{◌<◌, ◌≤◌, length, Ok, subst, arith}
use Rattle.bus_stores.specs.Log.{ReadsNext}
use Rattle.bus_stores.proofs.Ahead.{reads_behind, unmoved_more, read_more, read_done, rests_on}
use Rattle.bus_stores.proofs.following.next_windows.Goals as goal
use Rattle.bus_stores.proofs.following.next_windows.Goals.{then-reads-test+else-at-high, else-reads-test}

pub next-requires : goal.next-requires
next-requires g c =
    reads_behind c.args.scn c.reads.at c.args.most (g.G.WindowLog.state c.args.log.now) (g.G.WindowLog.state c.reads.log) c.reads.windows.items c.requires c.reads.invariant.unmoved c.reads.invariant.read

pub reads-preserved : goal.reads-preserved
reads-preserved g c =
    let old = g.G.WindowLog.state c.args.log.now in
    let now = g.G.WindowLog.state c.reads.log in
    let new = g.G.WindowLog.state c.next.new.self in
    let next = subst (λ found. ReadsNext c.reads.at now new (Ok found)) c.in-Some.is c.in_ok-window.ensures.next in
    let more = read_more c.args.scn c.reads.at c.args.most old now new c.reads.windows.items c.push.new.self.items c.in-Some.window c.high-high.ensures.log c.reads.invariant.unmoved next (omega (arith, c.len.ensures)) c.in_ok-push.ensures.items c.reads.invariant.read in
    record {
      crash = rests_on (λ ws b. g.G.WindowLog.passes ws b c.args.log.now c.reads.log) (λ ws b. g.G.WindowLog.passes ws b c.reads.log c.next.new.self) (λ ws b. g.G.WindowLog.passes ws b c.args.log.now c.next.new.self)
          (g.G.WindowLog.state c.args.log.now) (g.G.WindowLog.state c.reads.log) (λ ws b p q. g.met.G.WindowLog.passes_on ws b c.args.log.now c.reads.log c.next.new.self p q) c.reads.invariant.unmoved.same c.reads.invariant.crash c.next.ensures.crash;
      unmoved = unmoved_more old now new _ c.reads.invariant.unmoved next.counts next.same;
      read = rw c.scn-at.ensures.value more;
    }

pub returns-clause-reads : goal.returns-clause-reads
returns-clause-reads g c =
    let old = g.G.WindowLog.state c.args.log.now in
    let none_left : length c.reads.windows.items < c.args.most → old.high ≤ c.reads.at = λ few. elim c.reads-test.branch [
      | then-reads-test+else-at-high w ↦ omega (arith, w.if-at-high.false, c.high-high.ensures.value)
      | else-reads-test w ↦ absurd (omega (arith, w.reads-test.false, c.len.ensures))
    ] in
    read_done c.args.scn c.reads.at c.args.most old (g.G.WindowLog.state c.reads.log) c.reads.windows none_left c.reads.invariant.unmoved c.reads.invariant.read
