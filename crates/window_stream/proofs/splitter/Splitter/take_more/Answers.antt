use Rattle.std.proofs.Common.{◌+◌, ◌-◌, ◌++◌, length, drop, sym, ap, subst, ◌∙◌, arith}
use Rattle.std.proofs.lemmas.List.{length-append}
use Rattle.window_stream.specs.Stream.{Split}
use Rattle.event_codec.specs.Items.{since_of, open_in}
use Rattle.window_stream.specs.Scan.{Moves, front_of_stop}
use Rattle.window_stream.proofs.Splits.{takes_all, finds_bad, place_fits, left_is, scanned_more}
use Rattle.window_stream.proofs.splitter.Splitter.take_more.Goals as goal

pub scan_all-scanned-requires : goal.scan_all-scanned-requires
scan_all-scanned-requires c =
    let inside = c.self.inside in
    let good = ap (λ (x : Split). x.bad) c.self.view_is ∙ c.requires.good in
    scanned_more inside.bad (since_of inside.follows) (open_in inside.events) inside.rest.items c.args.piece.now c.deref.result.now c.self.invariant good (c.deref.ensures.value ∙ c.in-Ok.ensures.items)

pub refuse-requires : goal.refuse-requires
refuse-requires c =
    let scan = c.in-Ok-scanned.scan in
    let all = c.deref.result.now in
    let whole = c.deref.ensures.value ∙ c.in-Ok.ensures.items in
    let fit = place_fits (since_of c.self.inside.follows) all (since_of scan.follows) (open_in scan.events) scan.rest.now c.args.whole.now.items c.scan_all-scanned.new.whole.items c.in-Ok-scanned.ensures.ok.0 in
    omega (arith, fit, c.len.ensures, c.deref.ensures.len, ap (λ (x : Split). x.given) c.self.view_is, ap (λ (x : Split). length x.rest) c.self.view_is, ap length whole, length-append c.self.inside.rest.items c.args.piece.now)

pub returns-in-Refused : goal.returns-in-Refused
returns-in-Refused c =
    let scan = c.in-Ok-scanned.scan in
    let piece = c.args.piece.now in
    let all = c.deref.result.now in
    let whole = c.deref.ensures.value ∙ c.in-Ok.ensures.items ∙ ap (λ (x : Split). x.rest ++ piece) c.self.view_is in
    let moves = subst (λ (x : Split). Moves x.since all (since_of scan.follows) (open_in scan.events) scan.rest.now c.args.whole.now.items c.scan_all-scanned.new.whole.items) c.self.view_is c.in-Ok-scanned.ensures.ok.0 in
    rw c.refuse.ensures.fault
    (finds_bad c.args.self.now piece all (since_of scan.follows) (open_in scan.events) scan.rest.now _ c.refuse.new.self c.args.whole.now.items c.scan_all-scanned.new.whole.items
    whole moves (c.in-Ok-scanned.ensures.ok.1 ∙ ap front_of_stop c.in-Refused.is) (omega (arith, c.len.ensures, c.deref.ensures.len, ap (λ (x : Split). x.given) c.self.view_is)) c.refuse.ensures.bad)

pub returns-in-Unfinished : goal.returns-in-Unfinished
returns-in-Unfinished c =
    let scan = c.in-Ok-scanned.scan in
    let piece = c.args.piece.now in
    let all = c.deref.result.now in
    let rest = scan.rest.now in
    let whole = c.deref.ensures.value ∙ c.in-Ok.ensures.items ∙ ap (λ (x : Split). x.rest ++ piece) c.self.view_is in
    let moves = subst (λ (x : Split). Moves x.since all (since_of scan.follows) (open_in scan.events) rest c.args.whole.now.items c.scan_all-scanned.new.whole.items) c.self.view_is c.in-Ok-scanned.ensures.ok.0 in
    let len = c.len.ensures ∙ sym c.deref.ensures.len in
    let given = sym (ap (λ (x : Split). x.given) c.self.view_is) in
    let kept = sym (c.drop_front.ensures ∙ (λ i. drop (len i - length rest) (sym c.deref.ensures.value i)) ∙ left_is c.args.self.now.since all (since_of scan.follows) (open_in scan.events) rest c.args.whole.now.items c.scan_all-scanned.new.whole.items moves) in
    let good = sym (ap (λ (x : Split). x.bad) c.self.view_is ∙ c.requires.good) in
    takes_all c.args.self.now piece all (since_of scan.follows) (open_in scan.events) rest _ c.args.whole.now.items c.scan_all-scanned.new.whole.items
    whole moves (c.in-Ok-scanned.ensures.ok.1 ∙ ap front_of_stop c.in-Unfinished.is)
    (λ i. record { since = since_of scan.follows; given = given i + (sym len i - length rest); rest = kept i; bad = good i })
