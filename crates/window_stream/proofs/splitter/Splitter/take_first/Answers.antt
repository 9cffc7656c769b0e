use Rattle.std.proofs.Common.{◌+◌, ◌-◌, ◌++◌, List, ℕ, length, refl, sym, ap, subst, ◌∙◌, arith}
use Rattle.window_stream.specs.Stream.{Split}
use Rattle.event_codec.specs.Items.{since_of, open_in}
use Rattle.window_stream.specs.Scan.{Moves, front_of_stop}
use Rattle.window_stream.proofs.Splits.{takes_all, finds_bad, place_fits}
use Rattle.window_stream.proofs.splitter.Splitter.take_first.Goals as goal

pub refuse-requires : goal.refuse-requires
refuse-requires c =
    let scan = c.in-Ok.scan in
    omega (arith, place_fits (since_of c.self.inside.follows) c.args.piece.now (since_of scan.follows) (open_in scan.events) scan.rest.now c.args.whole.now.items c.scan_all-scanned.new.whole.items c.in-Ok.ensures.ok.0)

pub returns-in-Refused : goal.returns-in-Refused
returns-in-Refused c =
    let scan = c.in-Ok.scan in
    let piece = c.args.piece.now in
    let whole = sym (ap (λ (r : List ℕ). r ++ piece) c.requires.none_left) in
    let moves = subst (λ (x : Split). Moves x.since piece (since_of scan.follows) (open_in scan.events) scan.rest.now c.args.whole.now.items c.scan_all-scanned.new.whole.items) c.self.view_is c.in-Ok.ensures.ok.0 in
    rw c.refuse.ensures.fault
    (finds_bad c.args.self.now piece piece (since_of scan.follows) (open_in scan.events) scan.rest.now _ c.refuse.new.self c.args.whole.now.items c.scan_all-scanned.new.whole.items
    whole moves (c.in-Ok.ensures.ok.1 ∙ ap front_of_stop c.in-Refused.is) refl c.refuse.ensures.bad)

pub returns-in-Ok-extend_from_slice : goal.returns-in-Ok-extend_from_slice
returns-in-Ok-extend_from_slice c =
    let scan = c.in-Ok.scan in
    let piece = c.args.piece.now in
    let rest = scan.rest.now in
    let whole = sym (ap (λ (r : List ℕ). r ++ piece) c.requires.none_left) in
    let moves = subst (λ (x : Split). Moves x.since piece (since_of scan.follows) (open_in scan.events) rest c.args.whole.now.items c.scan_all-scanned.new.whole.items) c.self.view_is c.in-Ok.ensures.ok.0 in
    let given = sym (ap (λ (x : Split). x.given) c.self.view_is) in
    let nothing = ap (λ (x : Split). x.rest) c.self.view_is ∙ c.requires.none_left in
    let kept = sym (c.in-Ok-extend_from_slice.ensures.items ∙ ap (λ (r : List ℕ). r ++ rest) nothing) in
    let good = sym (ap (λ (x : Split). x.bad) c.self.view_is ∙ c.requires.good) in
    takes_all c.args.self.now piece piece (since_of scan.follows) (open_in scan.events) rest _ c.args.whole.now.items c.scan_all-scanned.new.whole.items
    whole moves (c.in-Ok.ensures.ok.1 ∙ ap front_of_stop c.in-Unfinished.is)
    (λ i. record { since = since_of scan.follows; given = given i + (length piece - length rest); rest = kept i; bad = good i })
