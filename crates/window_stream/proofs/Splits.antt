-- What a feed did, from where its scan stopped.
use Rattle.std.proofs.Common.{◌≡◌, ℕ, ◌+◌, ◌-◌, ◌≤◌, List, ◌++◌, length, drop, Option, Some, None, Result, Ok, Err, refl, sym, ap, subst, ◌∙◌, append_assoc, arith}
use Rattle.std.proofs.lemmas.List.{drop_at, length-append}
use Rattle.bus_types.specs.Window.{Span}
use Rattle.event_codec.specs.Bytes.{changes_bytes}
use Rattle.window_stream.specs.declared.splitter.SplitFault.{SplitFault}
use Rattle.window_stream.specs.declared.splitter.SplitFault.TheVariants.{Bad, NoMemory}
use Rattle.event_codec.specs.Items.{Since, Open, front_of}
use Rattle.event_codec.specs.Items.Front.{Unfinished, Refused}
use Rattle.event_codec.specs.Streams.{Begun, after_windows, windows_bytes}
use Rattle.event_codec.proofs.Begun.{behind_of, length_is, fits}
use Rattle.window_stream.specs.Stream.{Split, TakesAll, FindsBad, FeedsGood, FeedsFrom, Feeds}
use Rattle.window_stream.specs.Scan.{IsScanned, Moves}
use Rattle.window_stream.proofs.Windows.{given_length}

-- nothing can pass the bytes that there are
pub place_fits : (s : Since) (all : List ℕ) (t : Since) (o : Open) (rest : List ℕ) (before after : List Span) → Moves s all t o rest before after → length all - length rest + o.size ≤ length all
place_fits s all t o rest before after moves = omega (arith, given_length s all t o rest before after moves, fits t o rest moves.begun)

pub left_fits : (s : Since) (all : List ℕ) (t : Since) (o : Open) (rest : List ℕ) (before after : List Span) → Moves s all t o rest before after → length rest ≤ length all
left_fits s all t o rest before after moves = omega (arith, given_length s all t o rest before after moves)

pub takes_all : (old : Split) (piece all : List ℕ) (t : Since) (o : Open) (rest : List ℕ) (new : Split) (before after : List Span) → all ≡ old.rest ++ piece → Moves old.since all t o rest before after
    → front_of t o (drop o.size rest) ≡ Unfinished → record { since = t; given = old.given + (length all - length rest); rest = rest; bad = None } ≡ new → TakesAll old piece new before after
takes_all old piece all t o rest new before after whole moves stops is =
    let length_given = given_length old.since all t o rest before after moves in
    subst (λ (x : Split). TakesAll old piece x before after) is (record {
      gives = record { windows = moves.windows; given = moves.given; bytes = sym whole ∙ moves.parts; come = moves.come };
      since = moves.since;
      count = omega (arith, length_given);
      behind = behind_of t t o rest Unfinished refl moves.begun stops;
      good = refl;
    })

pub finds_bad : (old : Split) (piece all : List ℕ) (t : Since) (o : Open) (rest : List ℕ) (found : ℕ) (new : Split) (before after : List Span) → all ≡ old.rest ++ piece → Moves old.since all t o rest before after
    → front_of t o (drop o.size rest) ≡ Refused → found ≡ old.given + (length all - length rest + o.size) → new.bad ≡ Some found → FindsBad old piece found new before after
finds_bad old piece all t o rest found new before after whole moves stops place bad =
    let length_given = given_length old.since all t o rest before after moves in
    record {
      rest = rest;
      gives = record { windows = moves.windows; given = moves.given; bytes = sym whole ∙ moves.parts; come = moves.come };
      behind = behind_of t (after_windows old.since moves.windows) o rest Refused moves.since moves.begun stops;
      place = omega (arith, place, length_given, length_is t o rest moves.begun);
      bad = bad;
    }

-- what is left is behind the windows that were given
pub left_is : (s : Since) (all : List ℕ) (t : Since) (o : Open) (rest : List ℕ) (before after : List Span) → Moves s all t o rest before after → drop (length all - length rest) all ≡ rest
left_is s all t o rest before after moves =
    let windows = windows_bytes moves.windows in
    ap (drop (length all - length rest)) moves.parts ∙ drop_at windows rest (length all - length rest) (omega (arith, given_length s all t o rest before after moves))

-- ---- a piece behind what was left

pub begun_more : (s : Since) (o : Open) (rest piece : List ℕ) → Begun s o rest → Begun s o (rest ++ piece)
begun_more s o rest piece begun = record {
  scn = begun.scn;
  changes = begun.changes;
  part = begun.part ++ piece;
  parts = ap (λ (x : List ℕ). x ++ piece) begun.parts ∙ append_assoc (changes_bytes begun.scn begun.changes) begun.part piece;
  begins = begun.begins;
  known = begun.known;
}

-- the invariant where the stream is not bad
pub scanned_more : (bad : Option ℕ) (s : Since) (o : Open) (rest piece all : List ℕ) → IsScanned bad s o rest → bad ≡ None → all ≡ rest ++ piece → Begun s o all
scanned_more bad s o rest piece all is good same =
    let begun : Begun s o rest = subst (λ (b : Option ℕ). IsScanned b s o rest) good is in
    subst (λ (x : List ℕ). Begun s o x) (sym same) (begun_more s o rest piece begun)

-- ---- feeds one after the other

good_fits : (r : Result Unit SplitFault) (old : Split) (piece : List ℕ) (new : Split) (before after : List Span) → FeedsGood r old piece new before after → new.bad ≡ None → new.given + length new.rest ≤ old.given + length old.rest + length piece
good_fits (Ok u) old piece new before after fed good =
    let gives = fed.gives in
    omega (arith, fed.count, ap length gives.bytes, length-append old.rest piece, length-append (windows_bytes gives.windows) new.rest)
good_fits (Err (Bad place)) old piece new before after fed good = (let same = sym fed.bad ∙ good in absurd cc)
good_fits (Err NoMemory) old piece new before after fed good = omega (arith, ap (λ (x : Split). x.given) fed.0, ap (λ (x : Split). length x.rest) fed.0)

fits_from : (bad : Option ℕ) (r : Result Unit SplitFault) (old : Split) (piece : List ℕ) (new : Split) (before after : List Span) → old.bad ≡ bad → FeedsFrom bad r old piece new before after → new.bad ≡ None
    → (old.bad ≡ None) × (new.given + length new.rest ≤ old.given + length old.rest + length piece)
fits_from None r old piece new before after was fed good = (was, good_fits r old piece new before after fed good)
fits_from (Some place) r old piece new before after was fed good =
    let same : Some place ≡ None = sym was ∙ sym (ap (λ (x : Split). x.bad) fed.1) ∙ good in
    absurd cc

-- a feed after which the stream is good takes no more bytes than there were
pub feeds_fit : (r : Result Unit SplitFault) (old : Split) (piece : List ℕ) (new : Split) (before after : List Span) → Feeds r old piece new before after → new.bad ≡ None
    → (old.bad ≡ None) × (new.given + length new.rest ≤ old.given + length old.rest + length piece)
feeds_fit r old piece new before after fed good = fits_from old.bad r old piece new before after refl fed good
