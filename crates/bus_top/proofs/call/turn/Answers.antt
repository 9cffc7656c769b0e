use Rattle.std.proofs.Common.{◌<◌, length, refl, arith}
use Rattle.bus_top.proofs.Turns.{stopped_reading, stopped_writing, stopped, reached_more, ended_by, sent_all, sent_part}
use Rattle.bus_top.proofs.call.turn.Goals as goal

pub returns-in_default-clause-turned : goal.returns-in_default-clause-turned
returns-in_default-clause-turned g c = λ first start h. stopped_reading first _ _ start _ c.args.session.now h c.in_default.ensures.bytes

pub returns-then-count-eq0-clause-turned : goal.returns-then-count-eq0-clause-turned
returns-then-count-eq0-clause-turned g c =
    let none = c.if-count-eq0.true in
    let room : 0 < length c.read.new.buf = omega (arith, c.read.auto.buf) in
    λ first start h. ended_by c.end.result first _ _ start _ _ c.args.session.now c.end.new.session.bus h (rw none at c.in-Ok.ensures.bytes.0) (c.in-Ok.ensures.bytes.1 none room) c.end.ensures.ends

pub returns-in_default-write_all-clause-turned : goal.returns-in_default-write_all-clause-turned
returns-in_default-write_all-clause-turned g c =
    let fed = c.feed-fed.ensures.feeds in
    let wrote = sent_part _ _ _ _ _ _ _ _ c.in_default-write_all.field-0.written fed (rw c.deref.ensures.value at c.in_default-write_all.ensures.part) in
    λ first start h. record { ended = stopped_writing first _ _ start _ _ c.feed-fed.result c.args.session.now c.feed-fed.new.self _ _ _ h c.in-Ok.ensures.bytes.0 wrote fed.takes; back = refl }

pub returns-in-Ok-fed-clause-turned : goal.returns-in-Ok-fed-clause-turned
returns-in-Ok-fed-clause-turned g c =
    let fed = c.in-Ok-fed.ensures.feeds in
    let wrote = sent_all _ _ _ _ _ _ _ _ fed (rw c.deref.ensures.value at c.in-Ok-write_all.ensures.ok) in
    λ first start h. reached_more tt first _ _ start _ _ c.args.session.now c.feed-fed.new.self _ _ h c.in-Ok.ensures.bytes.0 fed.takes wrote

pub returns-in-Err-clause-turned : goal.returns-in-Err-clause-turned
returns-in-Err-clause-turned g c =
    let fed = c.in-Err.ensures.feeds in
    let wrote = sent_all _ _ _ _ _ _ _ _ fed (rw c.deref.ensures.value at c.in-Ok-write_all.ensures.ok) in
    λ first start h. rw c.status_of.ensures (stopped c.in-Err.stop first _ _ start _ _ c.args.session.now c.feed-fed.new.self _ _ h c.in-Ok.ensures.bytes.0 wrote fed.takes)
