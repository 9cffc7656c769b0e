-- A stream that came in pieces, read from its front.
use Rattle.std.proofs.Common.{◌≡◌, ℕ, ◌+◌, ◌⊎◌, inl, inr, List, [], ◌++◌, length, Option, Some, None, Result, Ok, Err, refl, sym, ap, subst, ◌∙◌, append_assoc, arith}
use Rattle.std.proofs.lemmas.List.{append-nil, length-append}
use Rattle.std.proofs.lemmas.List.Concat.{flat_map-append}
use Rattle.bus_types.specs.Window.{Span}
use Rattle.event_codec.specs.Bytes.{window_bytes, changes_bytes}
use Rattle.event_codec.specs.Items.{Since, open_of, Front, front_of}
use Rattle.event_codec.specs.Items.Front.{Unfinished, Refused}
use Rattle.event_codec.specs.Streams.{Come, after_windows, windows_bytes, Behind, IsReading}
use Rattle.event_codec.proofs.Streams.{come_append, after_append}
use Rattle.event_codec.proofs.Begun.{begun_none, behind_of}
use Rattle.event_codec.proofs.Refusals.{behind_more}
use Rattle.event_codec.proofs.Readings.{one_reading, one_place}
use Rattle.window_stream.specs.declared.splitter.SplitFault.{SplitFault}
use Rattle.window_stream.specs.declared.splitter.SplitFault.TheVariants.{Bad, NoMemory}
use Rattle.window_stream.specs.Stream.{Split, above, Gives, TakesAll, FindsBad, FeedsGood, FeedsFrom, Feeds, Waits, Breaks, StopsAs, ReadsAs, GoesOn, Carries}

-- ---- nothing has come

nothing_stops : (s : Since) → front_of s (open_of 0 []) [] ≡ Unfinished
unfolding front_of
nothing_stops s = refl

pub reads_nothing : (floor : ℕ) (kept : List ℕ) → kept ≡ [] → ReadsAs floor [] [] (record { since = above floor; given = 0; rest = kept; bad = None })
reads_nothing floor kept none =
    let s = above floor in
    record { rest = []; parts = refl; come = tt; stops = record { since = refl; given = refl; rest = none; behind = behind_of s s (open_of 0 []) [] Unfinished refl (begun_none s []) (nothing_stops s) } }

-- ---- one more piece

-- the windows so far and those of a piece, and what is behind them
parts_more : (stream piece kept rest : List ℕ) (ws vs : List Span) → stream ≡ windows_bytes ws ++ kept → kept ++ piece ≡ windows_bytes vs ++ rest → stream ++ piece ≡ windows_bytes (ws ++ vs) ++ rest
parts_more stream piece kept rest ws vs parts more =
    ap (λ (x : List ℕ). x ++ piece) parts
    ∙ append_assoc (windows_bytes ws) kept piece
    ∙ ap (λ (x : List ℕ). windows_bytes ws ++ x) more
    ∙ sym (append_assoc (windows_bytes ws) (windows_bytes vs) rest)
    ∙ ap (λ (x : List ℕ). x ++ rest) (sym (flat_map-append window_bytes ws vs))

size_more : (ws vs : List Span) → length (windows_bytes (ws ++ vs)) ≡ length (windows_bytes ws) + length (windows_bytes vs)
size_more ws vs = ap length (flat_map-append window_bytes ws vs) ∙ length-append (windows_bytes ws) (windows_bytes vs)

-- what a good stream and the windows of a piece are
record Joined (floor : ℕ) (stream piece : List ℕ) (windows others : List Span) (old : Split) (rest : List ℕ) : Type 0 where
  parts : stream ++ piece ≡ windows_bytes (windows ++ others) ++ rest
  come : Come (above floor) (windows ++ others)
  since : after_windows old.since others ≡ after_windows (above floor) (windows ++ others)
  size : old.given + length (windows_bytes others) ≡ length (windows_bytes (windows ++ others))

waits_of : (bad : Option ℕ) (from : Since) (size : ℕ) (left : List ℕ) (split : Split) → bad ≡ None → StopsAs bad from size left split → Waits from size left split
waits_of bad from size left split good stops = subst (λ (b : Option ℕ). StopsAs b from size left split) good stops

joined : (floor : ℕ) (stream piece : List ℕ) (windows others : List Span) (old : Split) (rest : List ℕ) → (reads : ReadsAs floor stream windows old) → old.bad ≡ None → old.rest ++ piece ≡ windows_bytes others ++ rest → Come old.since others
    → Joined floor stream piece windows others old rest
joined floor stream piece windows others old rest reads good bytes come =
    let s = above floor in
    let waits = waits_of old.bad (after_windows s windows) (length (windows_bytes windows)) reads.rest old good reads.stops in
    record {
      parts = parts_more stream piece old.rest rest windows others (reads.parts ∙ ap (λ (x : List ℕ). windows_bytes windows ++ x) (sym waits.rest)) bytes;
      come = come_append s windows others reads.come (subst (λ (q : Since). Come q others) waits.since come);
      since = ap (λ (q : Since). after_windows q others) waits.since ∙ sym (after_append s windows others);
      size = ap (λ n. n + length (windows_bytes others)) waits.given ∙ sym (size_more windows others);
    }

goes_on : (floor : ℕ) (stream piece : List ℕ) (windows : List Span) (old new : Split) (before after : List Span) → ReadsAs floor stream windows old → old.bad ≡ None → TakesAll old piece new before after
    → GoesOn floor (stream ++ piece) windows before after new × (new.bad ≡ None)
goes_on floor stream piece windows old new before after reads good takes =
    let others = takes.gives.windows in
    let all = joined floor stream piece windows others old new.rest reads good takes.gives.bytes takes.gives.come in
    let from = after_windows (above floor) (windows ++ others) in
    let size = length (windows_bytes (windows ++ others)) in
    let since = takes.since ∙ all.since in
    let waits : Waits from size new.rest new =
    record { since = since; given = takes.count ∙ all.size; rest = refl; behind = subst (λ (q : Since). Behind q new.rest Unfinished) since takes.behind } in (
      record {
        others = others;
        given = takes.gives.given;
        reads = record { rest = new.rest; parts = all.parts; come = all.come; stops = subst (λ (b : Option ℕ). StopsAs b from size new.rest new) (sym takes.good) waits };
      },
      takes.good,
    )

-- the place of a head at fault, seen from another state of the same stream
breaks_at : (from to : Since) (size whole : ℕ) (rest : List ℕ) (found : ℕ) → from ≡ to → size ≡ whole → Breaks from size rest found → Breaks to whole rest found
breaks_at from to size whole rest found same same_size breaks = subst (λ (x : Since × ℕ). Breaks x.0 x.1 rest found) (λ i. (same i, same_size i)) breaks

breaks : (floor : ℕ) (stream piece : List ℕ) (windows : List Span) (old new : Split) (found : ℕ) (before after : List Span) → ReadsAs floor stream windows old → old.bad ≡ None → FindsBad old piece found new before after
    → GoesOn floor (stream ++ piece) windows before after new × (new.bad ≡ Some found)
breaks floor stream piece windows old new found before after reads good finds =
    let others = finds.gives.windows in
    let rest = finds.rest in
    let all = joined floor stream piece windows others old rest reads good finds.gives.bytes finds.gives.come in
    let from = after_windows (above floor) (windows ++ others) in
    let size = length (windows_bytes (windows ++ others)) in
    let here : Breaks (after_windows old.since others) (old.given + length (windows_bytes others)) rest found = record { behind = finds.behind; place = finds.place } in
    let stops = breaks_at (after_windows old.since others) from (old.given + length (windows_bytes others)) size rest found all.since all.size here in (
      record {
        others = others;
        given = finds.gives.given;
        reads = record { rest = rest; parts = all.parts; come = all.come; stops = subst (λ (b : Option ℕ). StopsAs b from size rest new) (sym finds.bad) stops };
      },
      finds.bad,
    )

-- a stream that is bad stays so, whatever comes
stays_bad : (floor : ℕ) (stream piece : List ℕ) (windows : List Span) (old : Split) (found : ℕ) → ReadsAs floor stream windows old → old.bad ≡ Some found → ReadsAs floor (stream ++ piece) windows old
stays_bad floor stream piece windows old found reads bad =
    let from = after_windows (above floor) windows in
    let size = length (windows_bytes windows) in
    let here : Breaks from size reads.rest found = subst (λ (b : Option ℕ). StopsAs b from size reads.rest old) bad reads.stops in
    let more : Breaks from size (reads.rest ++ piece) found = record { behind = behind_more from reads.rest piece here.behind; place = here.place } in
    record {
      rest = reads.rest ++ piece;
      parts = ap (λ (x : List ℕ). x ++ piece) reads.parts ∙ append_assoc (windows_bytes windows) reads.rest piece;
      come = reads.come;
      stops = subst (λ (b : Option ℕ). StopsAs b from size (reads.rest ++ piece) old) (sym bad) more;
    }

none_appended : (floor : ℕ) (stream : List ℕ) (windows before after : List Span) (split : Split) → after ≡ before → ReadsAs floor stream windows split → GoesOn floor stream windows before after split
none_appended floor stream windows before after split same reads =
    record { others = []; given = same ∙ sym (append-nil before); reads = subst (λ (x : List Span). ReadsAs floor stream x split) (sym (append-nil windows)) reads }

-- ---- what a feed did

carries_good : (r : Result Unit SplitFault) (floor : ℕ) (stream piece : List ℕ) (windows : List Span) (old new : Split) (before after : List Span) → ReadsAs floor stream windows old → old.bad ≡ None → FeedsGood r old piece new before after
    → Carries r floor stream piece windows before after new
carries_good (Ok u) floor stream piece windows old new before after reads good fed = goes_on floor stream piece windows old new before after reads good fed
carries_good (Err (Bad found)) floor stream piece windows old new before after reads good fed = breaks floor stream piece windows old new found before after reads good fed
carries_good (Err NoMemory) floor stream piece windows old new before after reads good fed = (subst (λ (x : Split). ReadsAs floor stream windows x) (sym fed.0) reads, fed.1)

carries_from : (bad : Option ℕ) (r : Result Unit SplitFault) (floor : ℕ) (stream piece : List ℕ) (windows : List Span) (old new : Split) (before after : List Span) → old.bad ≡ bad → ReadsAs floor stream windows old
    → FeedsFrom bad r old piece new before after → Carries r floor stream piece windows before after new
carries_from None r floor stream piece windows old new before after was reads fed = carries_good r floor stream piece windows old new before after reads was fed
carries_from (Some found) r floor stream piece windows old new before after was reads fed =
    let same = subst (λ (x : Split). ReadsAs floor (stream ++ piece) windows x) (sym fed.1) (stays_bad floor stream piece windows old found reads was) in
    subst (λ (x : Result Unit SplitFault). Carries x floor stream piece windows before after new) (sym fed.0)
    (none_appended floor (stream ++ piece) windows before after new fed.2 same, ap (λ (x : Split). x.bad) fed.1 ∙ was)

pub carries : (r : Result Unit SplitFault) (old : Split) (piece : List ℕ) (new : Split) (before after : List Span) → Feeds r old piece new before after
    → (floor : ℕ) (stream : List ℕ) (windows : List Span) → ReadsAs floor stream windows old → Carries r floor stream piece windows before after new
carries r old piece new before after fed floor stream windows reads = carries_from old.bad r floor stream piece windows old new before after refl reads fed

-- ---- a stream is split in one way

abbrev Stopped : Since → List ℕ → Type 0
Stopped s rest = Behind s rest Unfinished ⊎ Behind s rest Refused

stopped : (bad : Option ℕ) (from : Since) (size : ℕ) (left : List ℕ) (split : Split) → StopsAs bad from size left split → Stopped from left
stopped None from size left split stops = inl stops.behind
stopped (Some found) from size left split stops = inr stops.behind

same_bad : (bad worse : Option ℕ) (from : Since) (size : ℕ) (left : List ℕ) (one other : Split) → StopsAs bad from size left one → StopsAs worse from size left other → bad ≡ worse
same_bad None None from size left one other a b = refl
same_bad None (Some found) from size left one other a b = (let e = (one_place from left Unfinished Refused a.behind b.behind (inl refl) (inr refl)).0 in absurd cc)
same_bad (Some found) None from size left one other a b = (let e = (one_place from left Refused Unfinished a.behind b.behind (inr refl) (inl refl)).0 in absurd cc)
same_bad (Some found) (Some place) from size left one other a b =
    let e = (one_place from left Refused Refused a.behind b.behind (inr refl) (inr refl)).1 in
    ap Some (a.place ∙ ap (λ n. size + n) e ∙ sym b.place)

same_split : (bad : Option ℕ) (from : Since) (size : ℕ) (left : List ℕ) (one other : Split) → one.bad ≡ bad → other.bad ≡ bad → StopsAs bad from size left one → StopsAs bad from size left other → bad ≡ None → one ≡ other
same_split None from size left one other bad worse a b good =
    (λ i. record { since = (a.since ∙ sym b.since) i; given = (a.given ∙ sym b.given) i; rest = (a.rest ∙ sym b.rest) i; bad = (bad ∙ sym worse) i })
same_split (Some found) from size left one other bad worse a b good = absurd cc

pub one_split : (floor : ℕ) (stream : List ℕ) (ws vs : List Span) (one other : Split) → ReadsAs floor stream ws one → ReadsAs floor stream vs other
    → (ws ≡ vs) × (one.bad ≡ other.bad) × (one.bad ≡ None → one ≡ other)
one_split floor stream ws vs one other a b =
    let s = above floor in
    let first : IsReading s stream ws a.rest = record { parts = a.parts; come = a.come; stops = stopped one.bad (after_windows s ws) (length (windows_bytes ws)) a.rest one a.stops } in
    let second : IsReading s stream vs b.rest = record { parts = b.parts; come = b.come; stops = stopped other.bad (after_windows s vs) (length (windows_bytes vs)) b.rest other b.stops } in
    let same = one_reading s stream ws vs a.rest b.rest first second in
    let from = after_windows s ws in
    let size = length (windows_bytes ws) in
    let moved : StopsAs other.bad from size a.rest other =
    subst (λ (x : List Span × List ℕ). StopsAs other.bad (after_windows s x.0) (length (windows_bytes x.0)) x.1 other) (λ i. (sym same.0 i, sym same.1 i)) b.stops in
    let bad = same_bad one.bad other.bad from size a.rest one other a.stops moved in
    (same.0, bad, λ good. same_split one.bad from size a.rest one other refl (sym bad) a.stops (subst (λ (x : Option ℕ). StopsAs x from size a.rest other) (sym bad) moved) good)
