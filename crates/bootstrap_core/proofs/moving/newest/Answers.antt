use Rattle.std.proofs.Common.{Ok, subst, arith}
use Rattle.bus_stores.proofs.Ahead.{rests_on}
use Rattle.bootstrap_core.specs.Trimming.{ReadsUpto}
use Rattle.bootstrap_core.proofs.NewestRead.{newest_none, newest_behind, newest_more, newest_done, newest_full}
use Rattle.bootstrap_core.proofs.moving.newest.Goals as goal

pub next_upto-requires : goal.next_upto-requires
next_upto-requires g c = newest_behind c.args.base c.reads.found c.args.upto (g.G.WindowLog.state c.args.log.now) (g.G.WindowLog.state c.reads.log) c.requires c.reads.invariant.so

pub reads-init : goal.reads-init
reads-init g c = record {
  so = newest_none c.args.base c.args.upto (g.G.WindowLog.state c.args.log.now);
  crash = c.high-rising.ensures.crash;
}

pub reads-preserved : goal.reads-preserved
reads-preserved g c =
    let old = g.G.WindowLog.state c.args.log.now in
    let now = g.G.WindowLog.state c.reads.log in
    let new = g.G.WindowLog.state c.next_upto.new.log in
    let next = subst (λ found. ReadsUpto c.reads.found c.args.upto now new (Ok found)) c.in-Some.is c.in_ok-scn.ensures.reads in
    record {
      so = newest_more c.args.base c.reads.found c.args.upto c.in-Some.scn old now new c.high-rising.ensures.log c.reads.invariant.so next;
      crash =
          rests_on (λ ws b. g.G.WindowLog.passes ws b c.args.log.now c.reads.log) (λ ws b. g.G.WindowLog.passes ws b c.reads.log c.next_upto.new.log) (λ ws b. g.G.WindowLog.passes ws b c.args.log.now c.next_upto.new.log)
          (g.G.WindowLog.state c.args.log.now) (g.G.WindowLog.state c.reads.log) (λ ws b p q. g.met.G.WindowLog.passes_on ws b c.args.log.now c.reads.log c.next_upto.new.log p q)
          c.reads.invariant.so.unmoved.same c.reads.invariant.crash c.next_upto.ensures.crash;
    }

pub returns-in-None-clause-reads : goal.returns-in-None-clause-reads
returns-in-None-clause-reads g c =
    let now = g.G.WindowLog.state c.reads.log in
    let new = g.G.WindowLog.state c.next_upto.new.log in
    let none = subst (λ found. ReadsUpto c.reads.found c.args.upto now new (Ok found)) c.in-None.is c.in_ok-scn.ensures.reads in
    newest_done c.args.base c.reads.found c.args.upto (g.G.WindowLog.state c.args.log.now) now new c.high-rising.ensures.log c.reads.invariant.so none

pub returns-in-None-clause-crash : goal.returns-in-None-clause-crash
returns-in-None-clause-crash g c =
    rests_on (λ ws b. g.G.WindowLog.passes ws b c.args.log.now c.reads.log) (λ ws b. g.G.WindowLog.passes ws b c.reads.log c.next_upto.new.log) (λ ws b. g.G.WindowLog.passes ws b c.args.log.now c.next_upto.new.log)
    (g.G.WindowLog.state c.args.log.now) (g.G.WindowLog.state c.reads.log) (λ ws b p q. g.met.G.WindowLog.passes_on ws b c.args.log.now c.reads.log c.next_upto.new.log p q)
    c.reads.invariant.so.unmoved.same c.reads.invariant.crash c.next_upto.ensures.crash

pub returns-in_err-scn-clause-crash : goal.returns-in_err-scn-clause-crash
returns-in_err-scn-clause-crash g c =
    rests_on (λ ws b. g.G.WindowLog.passes ws b c.args.log.now c.reads.log) (λ ws b. g.G.WindowLog.passes ws b c.reads.log c.next_upto.new.log) (λ ws b. g.G.WindowLog.passes ws b c.args.log.now c.next_upto.new.log)
    (g.G.WindowLog.state c.args.log.now) (g.G.WindowLog.state c.reads.log) (λ ws b p q. g.met.G.WindowLog.passes_on ws b c.args.log.now c.reads.log c.next_upto.new.log p q)
    c.reads.invariant.so.unmoved.same c.reads.invariant.crash c.next_upto.ensures.crash

pub returns-clause-reads : goal.returns-clause-reads
returns-clause-reads g c = newest_full c.args.base c.reads.found c.args.upto (g.G.WindowLog.state c.args.log.now) (g.G.WindowLog.state c.reads.log) (omega (arith, c.reads-test.false)) c.reads.invariant.so
